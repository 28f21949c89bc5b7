-- Sets gathered from a row of cabinets: all that pass a test, and the members one after the other.
use Rattle.std.proofs.Common.{◌≡◌, ℕ, zero, suc, ◌+◌, ◌%◌, ◌^◌, ◌<◌, ◌≤◌, ◌∷◌, Bool, true, false, cond, nat_lt, MatchBool, Option, Some, None, refl, ap, subst, arith}
use Rattle.std.specs.List.{filter, fold, range_with_len, slice_get}
use lib.Bits.{bit_or}
use lib.Count.{ones}
use Rattle.quorums.specs.Counting.{ones_more, ones_zero}
use Rattle.quorums.specs.Sets.{Member, Those}
use Rattle.quorums.specs.Members.{front_without, those_none, those_passed, those_with}
use Rattle.quorums.proofs.Tests.{joins, joins_so}

-- the set that the function `with` gives
abbrev pub put : ℕ → ℕ → ℕ
put s k = cond (nat_lt k 16) (bit_or s (2 ^ k)) s

-- the same for a cabinet that passes a test, and no other
abbrev pub put_if : (ℕ → Bool) → ℕ → ℕ → ℕ
put_if test s k = cond (test k) (put s k) s

module _ (P : ℕ → Type 0) (test : ℕ → Bool) (tells : (k : ℕ) → MatchBool (test k) (P k) (P k → ⊥)) where
  -- on from cabinet a, with those before it that pass
  onward : (n a s : ℕ) → a + n ≤ 16 → Those P a s → Those P (a + n) (fold (put_if test) s (range_with_len a n))
  onward zero a s h t = let e : a ≡ a + 0 = omega arith in subst (λ (n : ℕ). Those P n s) e t
  onward (suc n) a s h t =
      let e : a + 1 + n ≡ a + suc n = omega arith in
      let next = elim (test a) as (λ b. MatchBool b (P a) (P a → ⊥) → Those P (a + 1) (cond b (put s a) s)) [
        | true ↦ λ p. those_with P a s (put s a) (omega arith) t p refl
        | false ↦ λ p. those_passed P a s t p
      ] (tells a) in
      subst (λ (m : ℕ). Those P m (fold (put_if test) (put_if test s a) (range_with_len (a + 1) n))) e (onward n (a + 1) (put_if test s a) (omega arith) next)

  -- those below n that pass the test
  pub gathered : (n : ℕ) → n ≤ 16 → Those P n (fold (put_if test) 0 (range_with_len 0 n))
  gathered n h =
      let e : 0 + n ≡ n = omega arith in
      subst (λ (m : ℕ). Those P m (fold (put_if test) 0 (range_with_len 0 n))) e (onward n 0 0 (omega arith) (those_none P))

-- The members of a given set in turn. Member number i of those that come behind `low` others, among the cabinets below n: there is
-- none if they are too few, and else it is the last of as many as are wanted.
abbrev pub MemberAt : ℕ → ℕ → ℕ → ℕ → Option ℕ → Type 0
MemberAt given low n i None = ones (given % 2 ^ n) ≤ low + i
MemberAt given low n i (Some k) = (k < n) × (ones (given % 2 ^ (k + 1)) ≡ low + suc i)

module _ (given : ℕ) where
  -- the same member, counted from other places
  moved : (low n i low' n' i' : ℕ) → ones (given % 2 ^ n) ≡ ones (given % 2 ^ n') → low + i ≡ low' + i' → n ≤ n' → (o : Option ℕ) → MemberAt given low n i o → MemberAt given low' n' i' o
  moved low n i low' n' i' same sum on None h = omega (arith, h, same, sum)
  moved low n i low' n' i' same sum on (Some k) h = (omega (arith, h.0, on), omega (arith, h.1, sum))

  -- from cabinet a on
  member_on : (n a i : ℕ) → MemberAt given (ones (given % 2 ^ a)) (a + n) i (slice_get (filter (joins given) (range_with_len a n)) i)
  member_on zero a i = let e : a + 0 ≡ a = omega arith in omega (arith, ap (λ (k : ℕ). ones (given % 2 ^ k)) e)
  member_on (suc n) a i =
      let low = ones (given % 2 ^ a) in
      let above = ones (given % 2 ^ (a + 1)) in
      let rest = filter (joins given) (range_with_len (a + 1) n) in
      let whole : a + 1 + n ≡ a + suc n = omega arith in
      let same = ap (λ (k : ℕ). ones (given % 2 ^ k)) whole in
      let more = ones_more a given in
      elim (joins given a) as (λ b. MatchBool b (Member a given) (Member a given → ⊥) → MemberAt given low (a + suc n) i (slice_get (cond b (a ∷ rest) rest) i)) [
        | true ↦ λ m. elim i as (λ j. MemberAt given low (a + suc n) j (slice_get (a ∷ rest) j)) [
          | zero ↦ (omega arith, omega (arith, m, more))
          | suc j ↦ moved above (a + 1 + n) j low (a + suc n) (suc j) same (omega (arith, m, more)) (omega arith) (slice_get rest j) (member_on n (a + 1) j)
        ]
        | false ↦ λ out. moved above (a + 1 + n) i low (a + suc n) i same (omega (arith, ap ones (front_without a given out))) (omega arith) (slice_get rest i) (member_on n (a + 1) i)
      ] (joins_so given a)

  -- from the first cabinet on
  pub member_at : (n i : ℕ) → MemberAt given 0 n i (slice_get (filter (joins given) (range_with_len 0 n)) i)
  member_at n i =
      let e : 0 + n ≡ n = omega arith in
      let front : given % 2 ^ 0 ≡ 0 = omega arith in
      moved (ones (given % 2 ^ 0)) (0 + n) i 0 n i (ap (λ (k : ℕ). ones (given % 2 ^ k)) e) (omega (arith, ap ones front, ones_zero)) (omega arith)
      (slice_get (filter (joins given) (range_with_len 0 n)) i) (member_on n 0 i)
