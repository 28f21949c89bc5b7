use Rattle.std.proofs.Common.{ℕ, ◌-◌, ◌^◌, ◌<◌, ◌≤◌, min, w16, sym, subst, ⊎_elim, arith}
use lib.Bits.{bit_and}
use Rattle.std.proofs.lemmas.Bool.{cases_lt}
use Rattle.std.proofs.lemmas.Nat.Bits.{bit_at_and, bit_at_not, bit_at_ones, bit_at_ones_above}
use Rattle.quorums.specs.Sets.{Member, Those}
use Rattle.quorums.specs.Members.{member_or_not}
use Rattle.quorums.proofs.sets.outside.Goals as goal

-- those of the first n cabinets that are not in s
others : (s n : ℕ) → s < 2 ^ 16 → n ≤ 16 → Those (λ k. Member k s → ⊥) n (bit_and (2 ^ n - 1) (65535 - s))
others s n h l k =
    let both = bit_at_and (2 ^ n - 1) (65535 - s) k in
    ⊎_elim
    (λ below.
    let one = bit_at_ones n k below in
    let turned = bit_at_not w16 s k h (omega arith) in (
      (λ m. (below, λ o. omega (arith, both, one, turned))),
      (λ p. ⊎_elim (λ o. absurd (p.1 o)) (λ z. omega (arith, both, one, turned)) (member_or_not k s)),
    ))
    (λ above.
    let none = bit_at_ones_above n k above in (
      (λ m. absurd (omega (arith, both, none))),
      (λ p. absurd (omega (arith, p.0))),
    ))
    (cases_lt k n)

pub returns : goal.returns
returns c =
    let s = c.args.set in
    let n = min c.args.cabinets 16 in
    subst (λ (a : ℕ). Those (λ k. Member k s → ⊥) n (bit_and a (65535 - s))) (sym c.all.ensures) (others s n c.ranges.set.fits (omega arith))
