-- What a scan of a capture finds, one item after the other.
use Rattle.std.specs.Prelude.{◌≡◌, ℕ, ◌+◌, ◌<◌, ◌≤◌, List, [], ◌∷◌, length, drop, Ok, Err, Result}
use Rattle.words.specs.declared.refusal.Refusal.{Refusal}
use Rattle.words.specs.Refusals.{shifted}
use Rattle.telegrams.specs.Telegrams.{ReadAs}
use Rattle.capture.specs.declared.scan.Found.{Found}

module _ {V : Type 0} (valid : V → Type 0) (run : V → List ℕ) (judges : List (ℕ → ℕ)) where
  -- The items from a place on: a telegram that the words there open with, and on behind it; or the
  -- refusal of these words, its place counted from the capture's start, and on at the next word.
  abbrev pub Scans : List ℕ → ℕ → List (Result (Found V) Refusal) → Type 0
  Scans words place [] = length words ≤ place
  Scans words place (Ok found ∷ items) =
      (place < length words) × (found.place ≡ place)
      × ((n : ℕ) × ReadAs valid run judges (drop place words) (Ok (found.telegram, n)) × Scans words (place + n) items)
  Scans words place (Err e ∷ items) =
      (place < length words)
      × ((f : Refusal) × ReadAs valid run judges (drop place words) (Err f) × (e ≡ shifted place f))
      × Scans words (place + 1) items
