-- The two ways in which a call on sound memory comes out: refused, accepted.
use Rattle.std.proofs.Common.{◌≡◌, ℕ, ◌+◌, ◌-◌, ◌≤◌, length, Some, None, sym, refl, ap, ◌∙◌, subst, inr, arith}
use Rattle.std.proofs.lemmas.Option.{none-some}
use Rattle.std.proofs.lemmas.List.{length-take-le}
use Rattle.line.specs.declared.types.Hand.{Hand}
use Rattle.line.specs.declared.types.Memory.{Memory}
use Rattle.line.specs.Lines.{IsStation, View, hand_of, idle, owed_by, owed_in}
use Rattle.line.specs.Seen.{seen}
use Rattle.line.specs.Memories.{Called, Lends, Sound, refusal}
use Rattle.line.specs.Runs.{Event, Step}
use Rattle.line.proofs.Sounds.{owed_set}
use Rattle.calls.specs.Changes.{Becomes, Ends}

module _ {V : Type 0} where
  pub sound_ends : (n : ℕ) (m : Memory V) → Sound n m → Ends m
  sound_ends n m sound = (sound.1, omega (arith, sound.2))

  pub sent_is : (n : ℕ) (m : Memory V) → Sound n m → length (seen m).bus ≡ m.sent
  sent_is n m sound = length-take-le m.sent m.bus.now sound.1

  pub written_is : (n : ℕ) (m : Memory V) → Sound n m → length (seen m).journal ≡ m.written
  written_is n m sound = length-take-le m.written m.journal.now (sound_ends n m sound).1

  pub lends_same : (m : Memory V) → Ends m → Lends m m
  lends_same m ends = (refl, refl, refl, refl, refl, ends.0, refl, ends.1)

  pub lends_on : (m a b : Memory V) → Lends m a → Lends a b → Lends m b
  lends_on m a b x y = (y.0 ∙ x.0, y.1 ∙ x.1, y.2 ∙ x.2, y.3 ∙ x.3, y.4 ∙ x.4, y.5, y.6 ∙ x.6, y.7)

  module _ (n : ℕ) (F : ℕ → Type 0) (e : Event V) (m : Memory V) where
    pub refused : Sound n m → Step F (seen m) e (seen m) → Called n F e m m
    refused sound step = inr (sound, step, lends_same m (sound_ends n m sound), λ x is. refl)

    pub accepted : (after : Memory V) (w : View V) → Sound n m → Step F (seen m) e w → Becomes m w after → refusal e ≡ None → Called n F e m after
    accepted after w sound step becomes ok =
        inr (sound, subst (Step F (seen m) e) (sym becomes.0) step, becomes.1, λ x is. absurd (none-some x (sym ok ∙ is)))

  -- the rows owed for one job are free
  pub rows_left : (n : ℕ) (m : Memory V) (s : ℕ) (h : Hand V) → Sound n m → IsStation (seen m) s → hand_of (seen m) s ≡ Some h → m.written + owed_by h.work h.stage ≤ length m.journal.now
  rows_left n m s h sound line held =
      let xs = m.stations.now in
      let mine : owed_in (hand_of (seen m) s) ≡ owed_by h.work h.stage = ap owed_in held in
      omega (arith, sound.2, owed_set xs (s - 1) idle (omega (arith, line.0, line.1)))
