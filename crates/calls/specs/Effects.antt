-- What a telegram does to the job in its station's hand, by the job's stage and the telegram's kind.
use Rattle.std.specs.Prelude.{◌≡◌, ℕ, ◌^◌, Some, None, Option, bit_or}
use Rattle.telegrams.specs.declared.Telegram.{Telegram}
use Rattle.telegrams.specs.declared.TelegramKind.{TelegramKind}
use Rattle.telegrams.specs.declared.TelegramKind.TheVariants.{Query, Set, Told, Took}
use Rattle.quorums.specs.Sets.{Member}
use Rattle.line.specs.declared.types.Hand.{Hand}
use Rattle.line.specs.declared.types.Stage.{Stage}
use Rattle.line.specs.declared.types.Stage.TheVariants.{Ended, Querying, Setting, Spent}
use Rattle.line.specs.Lines.{View, at_stage, hand_of}
use Rattle.calls.specs.declared.effect.Effect.{Effect}
use Rattle.calls.specs.declared.effect.Effect.TheVariants as effect

module _ {V : Type 0} where
  -- it does not count
  abbrev pub Ignored : Hand V → ℕ → Stage V → TelegramKind V → Type 0
  Ignored h c Querying (Told p) = Member c h.told
  Ignored h c (Setting p strikes took) Took = Member c took
  Ignored h c Querying Query = Unit {0}
  Ignored h c Querying (Set p) = Unit {0}
  Ignored h c Querying Took = Unit {0}
  Ignored h c (Setting p strikes took) Query = Unit {0}
  Ignored h c (Setting p strikes took) (Told u) = Unit {0}
  Ignored h c (Setting p strikes took) (Set u) = Unit {0}
  Ignored h c (Ended p trips strikes) kind = Unit {0}
  Ignored h c Spent kind = Unit {0}

  -- one more cabinet has told the job
  abbrev pub told_by : Hand V → ℕ → Hand V
  told_by h c = record { job = h.job; work = h.work; told = bit_or h.told (2 ^ c); stage = Querying; shelved = h.shelved }

  abbrev pub Stepped : Hand V → ℕ → TelegramKind V → Hand V → Option (Effect V) → Type 0
  Stepped h c kind k None = (k ≡ h) × Ignored h c h.stage kind
  Stepped h c kind k (Some (effect.Told p)) = (h.stage ≡ Querying) × (kind ≡ Told p) × (Member c h.told → ⊥) × (k ≡ told_by h c)
  Stepped h c kind k (Some (effect.Took p strikes took)) =
      (before : ℕ) × (h.stage ≡ Setting p strikes before) × (kind ≡ Took) × (Member c before → ⊥) × (took ≡ bit_or before (2 ^ c))
      × (k ≡ at_stage h (Setting p strikes took))

  -- the telegram counts at the job in its station's hand: `hand` is the job after it
  abbrev pub CountsNow : View V → Telegram V → Hand V → Effect V → Type 0
  CountsNow v t hand e =
      (h : Hand V) × (hand_of v t.station ≡ Some h) × (h.job ≡ t.job) × Stepped h t.cabinet t.kind hand (Some e)
