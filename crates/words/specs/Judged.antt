-- Words judged in turn, and what reading and writing a run of words answer.
use Rattle.std.specs.Prelude.{◌≡◌, ℕ, ◌<◌, ◌≤◌, ◌⊎◌, List, [], ◌∷◌, ◌++◌, map, length, get_or, drop, Ok, Err, Result, slice_index, slice_index_or}
use Rattle.words.specs.declared.refusal.Refusal.{Refusal}
use Rattle.words.specs.Refusals.{number, carried}

-- What a judge says of the word at a place: the number of the refusal that it gets, or 0 for a good
-- word. A missing word is a bad word.
abbrev pub verdict : (ℕ → ℕ) → List ℕ → ℕ → ℕ
verdict judge ws place = slice_index_or (map judge ws) place 10

-- The same of each word in turn, with a judge for each place.
abbrev pub judged : List (ℕ → ℕ) → List ℕ → List ℕ
judged [] ws = []
judged (j ∷ js) [] = 10 ∷ judged js []
judged (j ∷ js) (w ∷ ws) = j w ∷ judged js ws

-- no place is at fault
abbrev pub Clean : List ℕ → Type 0
Clean faults = (k : ℕ) → slice_index faults k ≡ 0

-- the refusal has the number of the first fault, and carries its place
pub record Faulted (faults : List ℕ) (e : Refusal) : Type 0 where
  pub place : ℕ
  pub before : (k : ℕ) → k < place → slice_index faults k ≡ 0
  pub at : get_or faults place 0 ≡ number e
  pub carries : carried e ≡ place ∷ []

-- Writing: a fault is refused before a short output; a refusal leaves the output as found; else the
-- run stands at its start, the words after the run stay, and the answer is the run's length.
abbrev pub Written : List ℕ → List ℕ → List ℕ → List ℕ → Result ℕ Refusal → Type 0
Written faults run before after (Ok n) =
    Clean faults × (n ≡ length run) × (length run ≤ length before) × (after ≡ run ++ drop (length run) before)
Written faults run before after (Err e) =
    (after ≡ before) × (Faulted faults e ⊎ (Clean faults × (length before < length run) × (number e ≡ 13)))
