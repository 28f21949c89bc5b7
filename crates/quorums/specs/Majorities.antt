-- Majorities: they have members of the line, any two share one, and the lowest members make the least.
use Rattle.std.specs.Prelude.{◌≡◌, ℕ, ◌+◌, ◌-◌, ◌/◌, ◌%◌, ◌^◌, ◌<◌, ◌≤◌, Some, None, bit_and, bit_or, count_ones}
use Rattle.std.proofs.Common.{◌∙◌, sym, ap, ⊎_elim, lt_of_lt_of_le, mod-lt, arith, pow_mono}
use Rattle.std.specs.Int.Count.{ones-ones}
use Rattle.std.proofs.Math.Pow.{ones_lt}
use Rattle.std.proofs.lemmas.Nat.{or_lt, pow_pos, ones-le}
use Rattle.std.proofs.lemmas.Bool.{cases_eq, cases_lt}
use Rattle.quorums.specs.Families.{MajorityOf}
use Rattle.quorums.specs.Sets.{Member, Share, Picked}
use Rattle.quorums.specs.Counting.{inside_ones, inside_same, ones_both, ones_zero}
use Rattle.quorums.specs.Members.{front_inside, inside_front, share_and, some}

-- a set with a counted member has a number above 0
counted : (s : ℕ) → 0 < count_ones s → 0 < s
counted s h = ⊎_elim (λ z. absurd (omega (arith, ap count_ones z, ones_zero))) (λ nz. omega arith) (cases_eq s 0)

module _ (n : ℕ) where
  pub majority_member : (s : ℕ) → MajorityOf n s → (k : ℕ) × Member k s
  majority_member s m = some s (counted s (omega arith))

  pub majority_share : (s t : ℕ) → MajorityOf n s → MajorityOf n t → Share s t
  majority_share s t m o =
      share_and s t (counted (bit_and s t) (omega (arith, ones_both s t, ones-le n (bit_or s t) (or_lt n s t m.0 o.0))))

  pub majority_whole : 1 ≤ n → (q : ℕ) × MajorityOf n q
  majority_whole h =
      let k = n / 2 + 1 in
      let fits : k ≤ n = omega arith in
      (2 ^ k - 1, (lt_of_lt_of_le (ones_lt k) (pow_mono fits), ones-ones k))

  -- the front of the given set that has enough members is the least majority inside
  pub least : (given k : ℕ) → k ≤ n → count_ones (given % 2 ^ k) ≡ n / 2 + 1 → Picked (MajorityOf n) given (Some (given % 2 ^ k))
  least given k h enough = (
    (lt_of_lt_of_le (mod-lt given (pow_pos k)) (pow_mono h), enough),
    front_inside k given,
    λ t m i.
        ⊎_elim
        (λ l. let e : t ≡ given % 2 ^ k = inside_same t (given % 2 ^ k) (inside_front k t given l i) (m.1 ∙ sym enough) in omega arith)
        (λ l. omega (arith, mod-lt given (pow_pos k)))
        (cases_lt t (2 ^ k)),
  )

  -- too few members, and no majority lies inside
  pub too_few : (given : ℕ) → count_ones (given % 2 ^ n) < n / 2 + 1 → Picked (MajorityOf n) given None
  too_few given few t m i = omega (arith, m.1, inside_ones t (given % 2 ^ n) (inside_front n t given m.0 i))
