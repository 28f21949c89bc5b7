-- The law of a judgement, from what was judged.
use Rattle.std.proofs.Common.{◌≡◌, ℕ, zero, suc, ◌^◌, ◌<◌, ◌⊎◌, List, refl, subst, inl, inr, ⊎_elim, arith}
use lib.Bits.{bit_and}
use Rattle.std.proofs.lemmas.Bool.{cases_lt}
use Rattle.words.specs.declared.tag.Tag.{Tag}
use Rattle.words.specs.Tags.{Upto}
use Rattle.words.proofs.TagOrders.{tag_order, upto_refl}
use Rattle.quorums.specs.Sets.{Member, Share}
use Rattle.quorums.specs.Members.{bit_of_and, member_below, member_or_not}
use Rattle.views.specs.Views.{Judged, Lawful, told}
use Rattle.views.specs.declared.Verdict.{Verdict}
use Rattle.views.specs.declared.Verdict.TheVariants.{OneTrip, SecondTrip}

module _ (tags : List Tag) where
  -- a member of s with the earliest tag of those below n
  abbrev Low : ℕ → ℕ → Type 0
  Low s n = (k : ℕ) × Member k s × ((j : ℕ) → j < n → Member j s → Upto (told tags k) (told tags j))

  low : (s n : ℕ) → ((j : ℕ) → j < n → Member j s → ⊥) ⊎ Low s n
  low s zero = inl (λ j h m. omega arith)
  low s (suc n) =
      ⊎_elim
      (λ m.
      ⊎_elim
      (λ nobody.
      inr (
        n,
        m,
        λ j h mj.
            ⊎_elim (λ l. absurd (nobody j l mj)) (λ l. let e : n ≡ j = omega arith in subst (λ (i : ℕ). Upto (told tags n) (told tags i)) e (upto_refl (told tags n))) (cases_lt j n),
      ))
      (λ found.
      let k = found.0 in
      ⊎_elim
      (λ b.
      inr (
        n,
        m,
        λ j h mj.
            ⊎_elim (λ l. tag_order.through (told tags n) (told tags k) (told tags j) (b.0, λ e. omega (arith, b.1 e)) (found.2 j l mj))
            (λ l. let e : n ≡ j = omega arith in subst (λ (i : ℕ). Upto (told tags n) (told tags i)) e (upto_refl (told tags n))) (cases_lt j n),
      ))
      (λ u.
      inr (
        k,
        found.1,
        λ j h mj.
            ⊎_elim (λ l. found.2 j l mj) (λ l. let e : n ≡ j = omega arith in subst (λ (i : ℕ). Upto (told tags k) (told tags i)) e u) (cases_lt j n),
      ))
      (tag_order.either (told tags n) (told tags k)))
      (low s n))
      (λ z.
      ⊎_elim
      (λ nobody. inl (λ j h mj. ⊎_elim (λ l. nobody j l mj) (λ l. let e : j ≡ n = omega arith in omega (arith, subst (λ (i : ℕ). Member i s) e mj)) (cases_lt j n)))
      (λ found.
      inr (
        found.0,
        found.1,
        λ j h mj.
            ⊎_elim (λ l. found.2 j l mj) (λ l. let e : j ≡ n = omega arith in absurd (omega (arith, subst (λ (i : ℕ). Member i s) e mj))) (cases_lt j n),
      ))
      (low s n))
      (member_or_not n s)

  module _ (q : ℕ) (F : ℕ → Type 0) (small : q < 2 ^ 16) (share : (c d : ℕ) → F c → F d → Share c d) where
    pub lawful : (v : Verdict) (strikes : ℕ) → Judged tags q F v strikes → Lawful tags q F v
    lawful (SecondTrip m) strikes j = (j.0, j.1)
    lawful (OneTrip t) strikes j = (
      j.0,
      j.1,
      λ fq c fc other.
          let both = share c q fc fq in
          let s = bit_and c q in
          let in_both : (k : ℕ) → Member k c → Member k q → Member k s = λ k mc mq. omega (arith, bit_of_and c q k) in
          let of_both : (k : ℕ) → Member k s → Member k c × Member k q = λ k m. (omega (arith, bit_of_and c q k), omega (arith, bit_of_and c q k)) in
          ⊎_elim
          (λ nobody. absurd (nobody both.0 (member_below 16 both.0 q small both.2) (in_both both.0 both.1 both.2)))
          (λ found.
          let k = found.0 in
          let parts = of_both k found.1 in
          ⊎_elim
          (λ b. absurd (j.2 (told tags k) (k, parts.1, refl) b
          (c, fc, other, λ i mc mq. found.2 i (member_below 16 i q small mq) (in_both i mc mq))))
          (λ u. (k, parts.0, parts.1, tag_order.same (told tags k) t u (j.1 k parts.1)))
          (tag_order.either t (told tags k)))
          (low s 16),
    )
