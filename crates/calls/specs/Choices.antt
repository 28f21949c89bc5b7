-- What a station makes of the tellings of a quorum.
use Rattle.std.specs.Prelude.{◌≡◌, ℕ, ◌+◌, ◌-◌, ◌^◌, ◌<◌, ◌≤◌, Bool, true, false, ◌⊎◌, List, map, Some, Option, ◌≢◌}
use Rattle.std.specs.List.{slice_get}
use Rattle.words.specs.declared.tag.Tag.{Tag}
use Rattle.telegrams.specs.declared.Pair.{Pair}
use Rattle.telegrams.specs.declared.TelegramKind.TheVariants.{Set}
use Rattle.quorums.specs.Sets.{Member}
use Rattle.views.specs.Views.{Judged}
use Rattle.views.specs.declared.Verdict.TheVariants.{OneTrip, SecondTrip}
use Rattle.line.specs.declared.types.Delivered.{Delivered}
use Rattle.line.specs.declared.types.Delivered.TheVariants as answer
use Rattle.line.specs.declared.types.Hand.{Hand}
use Rattle.line.specs.declared.types.Stage.TheVariants.{Ended, Setting, Spent}
use Rattle.line.specs.declared.types.Work.{Work}
use Rattle.line.specs.declared.types.Work.TheVariants.{Read, Write}
use Rattle.line.specs.Lines.{View, at_stage, change, ended_row, hold, note, send, spent_row, tag_of, tagged_row, to_all}
use Rattle.calls.specs.declared.choice.Choice.{Choice}
use Rattle.calls.specs.declared.choice.Choice.TheVariants as choice

module _ {V : Type 0} (told : List (Option (Pair V))) (q : ℕ) where
  -- a member of q told the pair
  abbrev pub Tells : ℕ → Pair V → Type 0
  Tells k p = Member k q × (slice_get told k ≡ Some (Some p))

  -- each member of q told a pair
  abbrev pub AllTold : Type 0
  AllTold = (k : ℕ) → Member k q → (p : Pair V) × (slice_get told k ≡ Some (Some p))

  -- The next two say of a list of tellings what Greatest and Lowest of the line's Steps say of a whole line.
  -- the greatest of q's counts and the station's own last count
  abbrev pub GreatestIn : ℕ → ℕ → Type 0
  GreatestIn last g =
      (last ≤ g) × ((k : ℕ) (p : Pair V) → Tells k p → p.tag.count ≤ g)
      × ((last ≡ g) ⊎ ((k : ℕ) × (p : Pair V) × Tells k p × (p.tag.count ≡ g)))

  -- what q's lowest-numbered holder of the tag told
  abbrev pub LowestIn : Tag → Pair V → Type 0
  LowestIn tag p =
      (k : ℕ) × Tells k p × (p.tag ≡ tag) × ((i : ℕ) (u : Pair V) → i < k → Tells i u → u.tag ≢ tag)

  -- a write is tagged or spent, a read has ended or makes its second trip
  abbrev pub Chooses : (ℕ → Type 0) → ℕ → ℕ → Work V → Choice V → Type 0
  Chooses F s last (Write x) choice.Spent = (g : ℕ) × GreatestIn last g × (2 ^ 28 - 1 ≤ g)
  Chooses F s last (Write x) (choice.Tagged p) =
      (g : ℕ) × GreatestIn last g × (g < 2 ^ 28 - 1) × (p ≡ record { tag = record { count = g + 1; owner = s }; value = x })
  Chooses F s last (Write x) (choice.Ended p strikes) = ⊥
  Chooses F s last (Write x) (choice.Second p strikes) = ⊥
  Chooses F s last Read choice.Spent = ⊥
  Chooses F s last Read (choice.Tagged p) = ⊥
  Chooses F s last Read (choice.Ended p strikes) = (tag : Tag) × Judged (map tag_of told) q F (OneTrip tag) strikes × LowestIn tag p
  Chooses F s last Read (choice.Second p strikes) = (tag : Tag) × Judged (map tag_of told) q F (SecondTrip tag) strikes × LowestIn tag p

-- whether the choice sends sets
abbrev pub sends : {V : Type 0} → Choice V → Bool
sends choice.Spent = false
sends (choice.Tagged p) = true
sends (choice.Ended p strikes) = false
sends (choice.Second p strikes) = true

-- the answer to the telling, and the line after it: w is the line with the telling kept, h the job in hand
abbrev pub answer_of : {V : Type 0} → Choice V → Delivered
answer_of choice.Spent = answer.Spent
answer_of (choice.Tagged p) = answer.SecondTrip
answer_of (choice.Ended p strikes) = answer.Ended
answer_of (choice.Second p strikes) = answer.SecondTrip

module _ {V : Type 0} (w : View V) (s : ℕ) (h : Hand V) where
  abbrev pub second_trip : View V → Pair V → ℕ → View V
  second_trip x p strikes = send (hold x s (at_stage h (Setting p strikes 0))) (to_all x s h.job (Set p))

  abbrev pub tagged_line : Pair V → View V
  tagged_line p = note (change w s p.tag.count (Some h) (w.answers s)) (tagged_row s h.job p)

  abbrev pub chosen_line : Choice V → View V
  chosen_line choice.Spent = note (hold w s (at_stage h Spent)) (spent_row w s h.job)
  chosen_line (choice.Tagged p) = second_trip (tagged_line p) p 0
  chosen_line (choice.Ended p strikes) = note (hold w s (at_stage h (Ended p 1 strikes))) (ended_row s h.job p 1 strikes)
  chosen_line (choice.Second p strikes) = second_trip w p strikes
