-- The judgement of a read, from a quorum and the tags that its members told.
use Rattle.std.specs.Prelude.{◌≡◌, ℕ, ◌<◌, ◌⊎◌, ◌↔◌, List, [], ◌∷◌, length, Some, None, Option, ◌≢◌, slice_index_or}
use Rattle.words.specs.declared.tag.Tag.{Tag}
use Rattle.words.specs.Tags.{Before, Upto}
use Rattle.quorums.specs.Sets.{Member}
use Rattle.views.specs.declared.Verdict.{Verdict}
use Rattle.views.specs.declared.Verdict.TheVariants.{OneTrip, SecondTrip}

-- the tag that a cabinet told
abbrev pub told : List Tag → ℕ → Tag
told tags k = slice_index_or tags k (record { count = 0; owner = 0 })

-- the tag is in the list
abbrev pub Among : List Tag → Tag → Type 0
Among [] u = ⊥
Among (t ∷ ts) u = (t ≡ u) ⊎ Among ts u

-- each tag earlier than all after it
abbrev pub Rising : List Tag → Type 0
Rising [] = Unit {0}
Rising (t ∷ ts) = ((u : Tag) → Among ts u → Before t u) × Rising ts

module _ (tags : List Tag) (q : ℕ) where
  -- a member told the tag
  abbrev pub Held : Tag → Type 0
  Held t = (k : ℕ) × Member k q × (told tags k ≡ t)

  -- no member told an earlier one; no member told a later one
  abbrev pub Earliest : Tag → Type 0
  Earliest t = (k : ℕ) → Member k q → Upto t (told tags k)

  abbrev pub Latest : Tag → Type 0
  Latest t = (k : ℕ) → Member k q → Upto (told tags k) t

  -- some other quorum's share of q told nothing earlier than the tag
  abbrev pub OtherAt : (ℕ → Type 0) → Tag → Type 0
  OtherAt quorum t =
      (c : ℕ) × quorum c × (c ≢ q) × ((k : ℕ) → Member k c → Member k q → Upto t (told tags k))

  -- of no tag told later than t is that so
  abbrev pub NoneLater : (ℕ → Type 0) → Tag → Type 0
  NoneLater quorum t = (u : Tag) → Held u → Before t u → OtherAt quorum u → ⊥

  -- n is the number of different tags told that are later than t
  abbrev pub Struck : Tag → ℕ → Type 0
  Struck t n = (ts : List Tag) × Rising ts × ((u : Tag) → Among ts u ↔ (Held u × Before t u)) × (length ts ≡ n)

  -- The verdict. One trip: with the earliest tag, where no other quorum's share of q is without it. Second
  -- trip: with the latest tag, where some other quorum's share of q told nothing earlier than t, which
  -- is not the earliest, and t is the latest such tag. The strikes are the different tags later than
  -- the one at which it was decided.
  abbrev pub Judged : (ℕ → Type 0) → Verdict → ℕ → Type 0
  Judged quorum (OneTrip t) strikes = Held t × Earliest t × NoneLater quorum t × Struck t strikes
  Judged quorum (SecondTrip m) strikes =
      Held m × Latest m
      × ((t : Tag) × Held t × ((u : Tag) × Held u × Before u t) × OtherAt quorum t × NoneLater quorum t × Struck t strikes)

  -- What any judgement has to keep to: one trip only with a tag told by q, no later than any of q's,
  -- which every other quorum's share of q has; a second trip with the latest tag of q.
  abbrev pub Lawful : (ℕ → Type 0) → Verdict → Type 0
  Lawful quorum (OneTrip t) =
      Held t × Earliest t
      × (quorum q → (c : ℕ) → quorum c → (c ≢ q) → (k : ℕ) × Member k c × Member k q × (told tags k ≡ t))
  Lawful quorum (SecondTrip m) = Held m × Latest m

-- the judgement's answer; none exactly if q has no member, or one that told no tag
abbrev pub Judges : List Tag → ℕ → (ℕ → Type 0) → Option (Verdict × ℕ) → Type 0
Judges tags q quorum None = ((k : ℕ) × Member k q) → ((k : ℕ) → Member k q → k < length tags) → ⊥
Judges tags q quorum (Some (verdict, strikes)) =
    ((k : ℕ) → Member k q → k < length tags) × Judged tags q quorum verdict strikes × Lawful tags q quorum verdict
