use Rattle.std.proofs.Common.{◌≡◌, ℕ, ◌^◌, ◌<◌, length, get_or, take, replicate}
use Rattle.words.specs.Judged.{judged}
use Rattle.words.specs.Parts.{parts_run}
use Rattle.words.specs.Words.{kind_judge}
use Rattle.words.proofs.mask.read_parts.Given as goal

abbrev pub invariant-loop-place : goal.invariant-loop-place
invariant-loop-place l =
    ((k : ℕ) → k < l.place → get_or l.parts k 0 < 2 ^ 28)
    × ((k : ℕ) → k < l.place → get_or (judged (replicate (length l.initial.parts) (kind_judge 7)) l.words) k 0 ≡ 0)
    × (take l.place l.words ≡ parts_run (take l.place l.parts))
