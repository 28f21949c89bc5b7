-- A choice that is carried out is what the steps say.
use Rattle.std.proofs.Common.{◌≡◌, ℕ, ◌+◌, ◌<◌, true, List, map, Some, Ok, Err, Option, sym, refl, ap, ◌∙◌, subst, inl, inr, ⊎_elim, arith}
use Rattle.std.specs.List.{slice_get, range_with_len}
use Rattle.std.proofs.lemmas.List.FromFn.{get_or-map-range_with_len, length-map-range_with_len}
use Rattle.std.proofs.lemmas.Simd.{map-map}
use Rattle.std.proofs.lemmas.Option.{same_Some, slice_get-get_or}
use Rattle.words.specs.declared.refusal.Refusal.TheVariants.{BusFull}
use Rattle.words.specs.declared.tag.Tag.{Tag}
use Rattle.telegrams.specs.declared.Pair.{Pair}
use Rattle.telegrams.specs.declared.Telegram.{Telegram}
use Rattle.quorums.specs.Sets.{Member}
use Rattle.views.specs.Views.{Judged}
use Rattle.views.specs.declared.Verdict.{Verdict}
use Rattle.views.specs.declared.Verdict.TheVariants.{OneTrip, SecondTrip}
use Rattle.line.specs.declared.types.Hand.{Hand}
use Rattle.line.specs.declared.types.Work.{Work}
use Rattle.line.specs.declared.types.Work.TheVariants.{Read, Write}
use Rattle.line.specs.Lines.{View, last_of, size, tag_of, told_tags}
use Rattle.line.specs.Steps.{Chosen, Greatest, Lowest, Room}
use Rattle.calls.specs.declared.choice.Choice.{Choice}
use Rattle.calls.specs.declared.choice.Choice.TheVariants as choice
use Rattle.calls.specs.Choices.{Chooses, GreatestIn, LowestIn, answer_of, chosen_line, sends}

-- the list of a function's values has them at their places
pub nth_counted : {X : Type 0} (f : ℕ → X) (n k : ℕ) → k < n → slice_get (map f (range_with_len 0 n)) k ≡ Some (f k)
nth_counted f n k l =
    slice_get-get_or (map f (range_with_len 0 n)) k (f k) (omega (arith, length-map-range_with_len f 0 n)) ∙ ap Some (get_or-map-range_with_len f 0 n k k (f k) l (omega arith))

module _ {V : Type 0} (F : ℕ → Type 0) (before v : View V) (t : Telegram V) (w : View V) (h : Hand V) (q : ℕ) (below : (k : ℕ) → Member k q → k < size w) where
  abbrev s : ℕ
  s = t.station

  abbrev told : List (Option (Pair V))
  told = map (w.answers s) (range_with_len 0 (size w))

  -- a telling in the list is one that the view has
  seen : (k : ℕ) (p : Pair V) → Member k q → slice_get told k ≡ Some (Some p) → w.answers s k ≡ Some p
  seen k p member e = same_Some _ _ (sym (nth_counted (w.answers s) (size w) k (below k member)) ∙ e)

  listed : (k : ℕ) (p : Pair V) → Member k q → w.answers s k ≡ Some p → slice_get told k ≡ Some (Some p)
  listed k p member e = nth_counted (w.answers s) (size w) k (below k member) ∙ ap Some e

  greatest : (g : ℕ) → GreatestIn told q (last_of w s) g → Greatest F before v t w q g
  greatest g (low, all, some) = (
    low,
    (λ k p member e. all k p (member, listed k p member e)),
    ⊎_elim inl (λ x. inr (x.0, x.1, x.2.0, seen x.0 x.1 x.2.0 x.2.1, x.3)) some,
  )

  lowest : (tag : Tag) (p : Pair V) → LowestIn told q tag p → Lowest F before v t w q tag p
  lowest tag p (k, tells, is, least) =
      (k, tells.0, seen k p tells.0 tells.1, is, λ i u l member e. least i u l (member, listed i u member e))

  judged : (verdict : Verdict) (strikes : ℕ) → Judged (map tag_of told) q F verdict strikes → Judged (told_tags w s) q F verdict strikes
  judged verdict strikes = subst (λ (ts : List Tag). Judged ts q F verdict strikes) (map-map _ _ (range_with_len 0 (size w)))

  pub chosen : (work : Work V) (c : Choice V) → Chooses told q F s (last_of w s) work c → (sends c ≡ true → Room w (size w)) → Chosen F before v t w h q work (Ok (answer_of c)) (chosen_line w s h c)
  chosen (Write x) choice.Spent (g, great, limit) room = (g, greatest g great, inl (limit, (refl, refl)))
  chosen (Write x) (choice.Tagged p) (g, great, limit, is) room =
      let u : Pair V = record { tag = record { count = g + 1; owner = s }; value = x } in
      subst (λ (z : Pair V). Chosen F before v t w h q (Write x) (Ok (answer_of (choice.Tagged z))) (chosen_line w s h (choice.Tagged z))) (sym is)
      (g, greatest g great, inr (limit, inl (room refl, (refl, refl))))
  chosen (Write x) (choice.Ended p strikes) c room = absurd c
  chosen (Write x) (choice.Second p strikes) c room = absurd c
  chosen Read choice.Spent c room = absurd c
  chosen Read (choice.Tagged p) c room = absurd c
  chosen Read (choice.Ended p strikes) (tag, j, low) room = (OneTrip tag, strikes, judged (OneTrip tag) strikes j, (p, lowest tag p low, (refl, refl)))
  chosen Read (choice.Second p strikes) (tag, j, low) room = (SecondTrip tag, strikes, judged (SecondTrip tag) strikes j, (p, lowest tag p low, inl (room refl, (refl, refl))))

  -- where the bus has no room for the second trip
  pub full : (work : Work V) (c : Choice V) → Chooses told q F s (last_of w s) work c → sends c ≡ true → (Room w (size w) → ⊥) → Chosen F before v t w h q work (Err BusFull) before
  full (Write x) (choice.Tagged p) (g, great, limit, is) sent tight = (g, greatest g great, inr (limit, inr (tight, (BusFull, refl, refl, refl))))
  full (Write x) choice.Spent c sent tight = let z : ◌≡◌ {A = ℕ} 0 1 = cc in absurd (omega arith)
  full (Write x) (choice.Ended p strikes) c sent tight = absurd c
  full (Write x) (choice.Second p strikes) c sent tight = absurd c
  full Read choice.Spent c sent tight = absurd c
  full Read (choice.Tagged p) c sent tight = absurd c
  full Read (choice.Ended p strikes) c sent tight = let z : ◌≡◌ {A = ℕ} 0 1 = cc in absurd (omega arith)
  full Read (choice.Second p strikes) (tag, j, low) sent tight = (SecondTrip tag, strikes, judged (SecondTrip tag) strikes j, (p, lowest tag p low, inr (tight, (BusFull, refl, refl, refl))))
