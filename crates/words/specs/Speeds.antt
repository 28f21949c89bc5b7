-- A belt speed, 0 to 6,000, in one word of kind 7.
use Rattle.std.specs.Prelude.{ℕ, ◌%◌, ◌^◌, ◌≤◌, cond, List, [], ◌∷◌, ◌==◌, nat_le}
use Rattle.words.specs.declared.speed.Speed.{Speed}
use Rattle.words.specs.Words.{kind_of, marked}

-- a word of another kind is a bad word, a number above 6,000 a bad value
abbrev pub speed_judge : ℕ → ℕ
speed_judge w = cond (kind_of w == 7) (cond (nat_le (w % 2 ^ 28) 6000) 0 11) 10

abbrev pub IsSpeed : Speed → Type 0
IsSpeed s = s.0 ≤ 6000

abbrev pub speed_faults : Speed → List ℕ
speed_faults s = cond (nat_le s.0 6000) 0 11 ∷ []

abbrev pub speed_run : Speed → List ℕ
speed_run s = marked 7 s.0 ∷ []
