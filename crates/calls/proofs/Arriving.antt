-- A telegram that counts at its station is what the steps say.
use Rattle.std.proofs.Common.{◌≡◌, ℕ, ◌⊎◌, Some, None, Ok, Option, Result, sym, ap, subst, inl, inr, ⊎_elim}
use Rattle.words.specs.declared.refusal.Refusal.{Refusal}
use Rattle.telegrams.specs.declared.Pair.{Pair}
use Rattle.telegrams.specs.declared.Telegram.{Telegram}
use Rattle.telegrams.specs.declared.TelegramKind.{TelegramKind}
use Rattle.telegrams.specs.declared.TelegramKind.TheVariants.{Told, Took}
use Rattle.quorums.specs.Sets.{Picked}
use Rattle.line.specs.declared.types.Delivered.{Delivered}
use Rattle.line.specs.declared.types.Delivered.TheVariants as answer
use Rattle.line.specs.declared.types.Hand.{Hand}
use Rattle.line.specs.declared.types.Stage.{Stage}
use Rattle.line.specs.declared.types.Stage.TheVariants.{Ended, Querying, Setting}
use Rattle.line.specs.Lines.{View, at_stage, change, ended_row, hand_of, hold, last_of, note, put}
use Rattle.line.specs.Steps.{AtHand, AtStation, Chosen}
use Rattle.calls.specs.declared.effect.Effect.TheVariants as effect
use Rattle.calls.specs.Effects.{CountsNow}

module _ {V : Type 0} where
  -- the line with a telling kept: `hand` is the job with this cabinet among those that told it
  abbrev pub told_line : View V → Telegram V → Hand V → Pair V → View V
  told_line v t hand p = change v t.station (last_of v t.station) (Some hand) (put (v.answers t.station) t.cabinet (Some p))

  module _ (F : ℕ → Type 0) (before v : View V) (t : Telegram V) (hand : Hand V) (after : View V) where
    -- the station's step, at the stage and the kind that there are
    arrive : (h : Hand V) (stage : Stage V) (kind : TelegramKind V) (r : Result Delivered Refusal) → hand_of before t.station ≡ Some h → h.stage ≡ stage → t.kind ≡ kind → AtStation F before v t h stage kind r after → AtHand F before v t (hand_of before t.station) r after
    arrive h stage kind r held is of x =
        subst (λ (k : Option (Hand V)). AtHand F before v t k r after) (sym held)
        (subst (λ (k : TelegramKind V). AtStation F before v t h h.stage k r after) (sym of) (subst (λ (a : Stage V). AtStation F before v t h a kind r after) (sym is) x))

    -- a telling that counts, with `k` the job after it
    abbrev pub Told_so : Pair V → Result Delivered Refusal → Hand V → Type 0
    Told_so p r k =
        (Picked F k.told None × (r ≡ Ok answer.Kept) × (after ≡ told_line v t k p))
        ⊎ ((q : ℕ) × Picked F k.told (Some q) × Chosen F before v t (told_line v t k p) k q k.work r after)

    pub told_arrives : (p : Pair V) (r : Result Delivered Refusal) → CountsNow before t hand (effect.Told p) → Told_so p r hand → AtHand F before v t (hand_of before t.station) r after
    told_arrives p r (h, held, job, (is, of, new, same)) x =
        arrive h Querying (Told p) r held is of
        (inl (job, new, ⊎_elim (λ y. inl (y.0, (y.1, y.2))) (λ y. inr (y.0, y.1, y.2)) (subst (Told_so p r) same x)))

    -- a took that counts, with `n` the cabinets counted and `k` the job after it
    abbrev pub Took_so : Pair V → ℕ → Delivered → ℕ → Hand V → Type 0
    Took_so p strikes r n k =
        (Picked F n None × (r ≡ answer.Kept) × (after ≡ hold v t.station k))
        ⊎ ((q : ℕ) × Picked F n (Some q) × (r ≡ answer.Ended) × (after ≡ note (hold v t.station (at_stage k (Ended p 2 strikes))) (ended_row t.station k.job p 2 strikes)))

    pub took_arrives : (p : Pair V) (strikes took : ℕ) (r : Delivered) → CountsNow before t hand (effect.Took p strikes took) → Took_so p strikes r took hand → AtHand F before v t (hand_of before t.station) (Ok r) after
    took_arrives p strikes took r (h, held, job, (old, is, of, new, counted, same)) x =
        let y = subst (λ (n : ℕ). Took_so p strikes r n (at_stage h (Setting p strikes n))) counted (subst (Took_so p strikes r took) same x) in
        arrive h (Setting p strikes old) Took (Ok r) held is of
        (inl (job, new, ⊎_elim (λ z. inl (z.0, (ap Ok z.1, z.2))) (λ z. inr (z.0, z.1, (ap Ok z.2, z.3))) y))
