-- Tables: facts of every listed set, and the sets so far.
use Rattle.std.specs.Prelude.{◌≡◌, ℕ, ◌+◌, ◌^◌, ◌<◌, ◌⊎◌, List, length, take, bit_and, slice_index, refl}
use Rattle.std.proofs.Common.{◌∙◌, sym, subst, subst₂, inl, inr, ⊎_elim, arith}
use Rattle.std.proofs.lemmas.List.{get_or-take, length-take}
use Rattle.std.proofs.lemmas.Bool.{cases_lt}
use Rattle.quorums.specs.Families.{TableOf}
use Rattle.quorums.specs.Sets.{Share}
use Rattle.quorums.specs.Members.{share_and}

module _ (list : List ℕ) where
  pub listed_line : (n : ℕ) → ((i : ℕ) → i < length list → slice_index list i < 2 ^ n) → (s : ℕ) → TableOf list s → s < 2 ^ n
  listed_line n all s m = subst (λ (x : ℕ). x < 2 ^ n) m.2 (all m.0 m.1)

  pub listed_share : ((i j : ℕ) → i < length list → j < length list → 0 < bit_and (slice_index list i) (slice_index list j)) → (s t : ℕ) → TableOf list s → TableOf list t → Share s t
  listed_share all s t m o = subst₂ Share m.2 o.2 (share_and (slice_index list m.0) (slice_index list o.0) (all m.0 o.0 m.1 o.1))

  -- the sets before i, and the one at i
  pub so_far : (i t : ℕ) → TableOf (take i list) t → TableOf (take (i + 1) list) t
  so_far i t m =
      let long = length-take i list in
      let more = length-take (i + 1) list in
      (m.0, omega (arith, m.1), get_or-take (i + 1) list m.0 0 (omega (arith, m.1)) ∙ sym (get_or-take i list m.0 0 (omega (arith, m.1))) ∙ m.2)

  pub here : (i : ℕ) → i < length list → TableOf (take (i + 1) list) (slice_index list i)
  here i h = (i, omega (arith, length-take (i + 1) list), get_or-take (i + 1) list i 0 (omega arith))

  pub far_or_here : (i : ℕ) → i < length list → (t : ℕ) → TableOf (take (i + 1) list) t → TableOf (take i list) t ⊎ (t ≡ slice_index list i)
  far_or_here i h t m =
      let more = length-take (i + 1) list in
      let read = get_or-take (i + 1) list m.0 0 (omega (arith, m.1)) in
      ⊎_elim
      (λ l. inl (m.0, omega (arith, length-take i list), get_or-take i list m.0 0 l ∙ sym read ∙ m.2))
      (λ l. let same : m.0 ≡ i = omega (arith, m.1) in inr (sym m.2 ∙ read ∙ subst (λ (x : ℕ). slice_index list m.0 ≡ slice_index list x) same refl))
      (cases_lt m.0 i)
