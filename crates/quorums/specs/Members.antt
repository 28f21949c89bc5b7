-- Sets of cabinets by their members: what `and`, `or` and a front of the bits hold, and when two are equal.
use Rattle.std.specs.Prelude.{◌≡◌, ℕ, zero, suc, ◌+◌, ◌-◌, ◌*◌, ◌/◌, ◌%◌, ◌^◌, ◌<◌, ◌≤◌, min, max, cond, ◌⊎◌, nat_lt}
use Rattle.std.proofs.Common.{◌∙◌, sym, ap, subst, inl, inr, ⊎_elim, mod-eq_of_lt, mod-lt, arith, Bool, true, false, MatchBool, refl}
use Rattle.std.proofs.Math.Arith.{bin_ind}
use Rattle.std.specs.Int.Bits.{bit_and, bit_or, or_shifted_r}
use Rattle.std.proofs.lemmas.Nat.{and_mask, div-add-mod', mod-pow-add, pow_pos, shr-shr, and_le_r}
use Rattle.std.proofs.lemmas.Nat.Bits.{bit_at_above, bit_at_and, bit_at_cat_low, bit_at_or, bit_at-pow_other, bit_at-pow_same, bit_at-suc, bit_at-zero, same_from_bits}
use Rattle.std.proofs.lemmas.Bool.{cases_eq, cases_lt, cond-true, lt-ltb}
use Rattle.quorums.specs.Sets.{Member, Inside, Share, Those}

-- the bit of a cabinet
abbrev pub bit : ℕ → ℕ → ℕ
bit k s = s / 2 ^ k % 2

pub bit_of_and : (a b k : ℕ) → bit k (bit_and a b) ≡ min (bit k a) (bit k b)
bit_of_and = bit_at_and

pub bit_of_or : (a b k : ℕ) → bit k (bit_or a b) ≡ max (bit k a) (bit k b)
bit_of_or = bit_at_or

-- the bit above, of half the number
pub bit_half : (k s : ℕ) → bit k (s / 2) ≡ bit (suc k) s
bit_half k s = sym (bit_at-suc s k)

-- bits past the number are 0
pub bit_high : (k s : ℕ) → s < 2 ^ k → bit k s ≡ 0
bit_high k s h = bit_at_above s k k h (omega arith)

none : (s : ℕ) → ((k : ℕ) → bit k s ≡ 0) → s ≡ 0
none s h = same_from_bits s 0 (λ k. h k ∙ sym (bit_at-zero k))

-- a set with a number above 0 has a member
pub some : (s : ℕ) → 0 < s → (k : ℕ) × Member k s
some = bin_ind (λ s. 0 < s → (k : ℕ) × Member k s) (λ h. absurd (omega arith))
    (λ s ih h. ⊎_elim (λ odd. (0, omega arith)) (λ even. let up = ih (omega arith) in (suc up.0, sym (bit_half up.0 s) ∙ up.1)) (cases_eq (s % 2) 1))

pub member_or_not : (k s : ℕ) → Member k s ⊎ (bit k s ≡ 0)
member_or_not k s = ⊎_elim inl (λ no_one. inr (omega arith)) (cases_eq (bit k s) 1)

-- members of a set below 2^n are below n, and the other way round
pub member_below : (n k s : ℕ) → s < 2 ^ n → Member k s → k < n
member_below n k s h m =
    ⊎_elim (λ l. l) (λ l. absurd (omega (arith, bit_at_above s n k h l))) (cases_lt k n)

pub below : (n s : ℕ) → ((k : ℕ) → Member k s → k < n) → s < 2 ^ n
below n s h =
    let high : s / 2 ^ n ≡ 0 =
    none (s / 2 ^ n)
    (λ k. ⊎_elim (λ m. absurd (omega (arith, h (n + k) (sym (ap (λ (x : ℕ). x % 2) (shr-shr s n k)) ∙ m)))) (λ z. z) (member_or_not k (s / 2 ^ n))) in
    omega (arith, ap (λ (q : ℕ). q * 2 ^ n) high, div-add-mod' s (2 ^ n), mod-lt s (pow_pos n))

-- inside, by `and`
pub inside_and : (s t : ℕ) → bit_and s t ≡ s → Inside s t
inside_and s t e k m = omega (arith, bit_of_and s t k, ap (bit k) e)

pub and_inside : (s t : ℕ) → Inside s t → bit_and s t ≡ s
and_inside s t h =
    same_from_bits (bit_and s t) s
    (λ k. ⊎_elim (λ m. omega (arith, bit_of_and s t k, h k m)) (λ z. omega (arith, bit_of_and s t k)) (member_or_not k s))

pub inside_le : (s t : ℕ) → Inside s t → s ≤ t
inside_le s t h = subst (λ (n : ℕ). n ≤ t) (and_inside s t h) (and_le_r s t)

-- sets share a cabinet where their `and` is no empty set
pub share_and : (s t : ℕ) → 0 < bit_and s t → Share s t
share_and s t h =
    let m = some (bit_and s t) h in
    (m.0, omega (arith, bit_of_and s t m.0, m.1), omega (arith, bit_of_and s t m.0, m.1))

-- the front of a set: its members below n
pub front_member : (n j s : ℕ) → j < n → bit j (s % 2 ^ n) ≡ bit j s
front_member n j s h = sym (bit_at_cat_low (s / 2 ^ n) n (s % 2 ^ n) j h) ∙ ap (bit j) (div-add-mod' s (2 ^ n))

pub front_inside : (n s : ℕ) → Inside (s % 2 ^ n) s
front_inside n s k m = sym (front_member n k s (member_below n k (s % 2 ^ n) (mod-lt s (pow_pos n)) m)) ∙ m

-- a set inside another and below 2^n lies inside the front
pub inside_front : (n s t : ℕ) → s < 2 ^ n → Inside s t → Inside s (t % 2 ^ n)
inside_front n s t h i k m = front_member n k t (member_below n k s h m) ∙ i k m

-- one place more of a front
pub front_more : (k s : ℕ) → s % 2 ^ (k + 1) ≡ bit k s * 2 ^ k + s % 2 ^ k
front_more k s =
    let up : k + 1 ≡ 1 + k = omega arith in
    ap (λ (e : ℕ). s % 2 ^ e) up ∙ mod-pow-add s 1 k

-- the set of one cabinet
pub only_member : (k j : ℕ) → Member j (2 ^ k) → j ≡ k
only_member k j m = ⊎_elim (λ e. e) (λ ne. absurd (omega (arith, m, bit_at-pow_other k j ne))) (cases_eq j k)

-- a set with one cabinet more
pub with_member : (s k : ℕ) → Member k (bit_or s (2 ^ k))
with_member s k = omega (arith, bit_of_or s (2 ^ k) k, bit_at-pow_same k)

pub with_kept : (s k j : ℕ) → Member j s → Member j (bit_or s (2 ^ k))
with_kept s k j m = ⊎_elim (λ o. omega (arith, bit_of_or s (2 ^ k) j)) (λ z. omega (arith, bit_of_or s (2 ^ k) j)) (member_or_not j (2 ^ k))

pub with_cases : (s k j : ℕ) → Member j (bit_or s (2 ^ k)) → Member j s ⊎ (j ≡ k)
with_cases s k j m =
    ⊎_elim (λ o. inr (only_member k j o)) (λ z. inl (omega (arith, bit_of_or s (2 ^ k) j)))
    (member_or_not j (2 ^ k))

-- a front with one place more
pub front_with : (k s : ℕ) → Member k s → bit_or (s % 2 ^ k) (2 ^ k) ≡ s % 2 ^ (k + 1)
front_with k s m =
    let one : 2 ^ k ≡ 1 * 2 ^ k = omega arith in
    ap (bit_or (s % 2 ^ k)) one ∙ or_shifted_r 1 k (s % 2 ^ k) (mod-lt s (pow_pos k))
    ∙ ap (λ (b : ℕ). b * 2 ^ k + s % 2 ^ k) (sym m) ∙ sym (front_more k s)

pub front_without : (k s : ℕ) → (Member k s → ⊥) → s % 2 ^ k ≡ s % 2 ^ (k + 1)
front_without k s no_member =
    ⊎_elim (λ m. absurd (no_member m)) (λ z. sym (front_more k s ∙ ap (λ (b : ℕ). b * 2 ^ k + s % 2 ^ k) z ∙ omega arith)) (member_or_not k s)

-- what a test tells
pub when_test : (b : Bool) (P : Type 0) → (b ≡ true → P) → (b ≡ false → P → ⊥) → MatchBool b P (P → ⊥)
when_test true P yes-so no-so = yes-so refl
when_test false P yes-so no-so = no-so refl

-- a set is empty where `and` is
pub share_some : (s t : ℕ) → Share s t → 0 < bit_and s t
share_some s t m =
    ⊎_elim (λ z. absurd (omega (arith, bit_of_and s t m.0, m.1, m.2, ap (bit m.0) z, bit_high m.0 0 (pow_pos m.0)))) (λ nz. omega arith)
    (cases_eq (bit_and s t) 0)

-- the front that the function `with` makes
pub front_grown : (k s front r : ℕ) → k < 16 → Member k s → front ≡ s % 2 ^ k → r ≡ cond (nat_lt k 16) (bit_or front (2 ^ k)) front → r ≡ s % 2 ^ (k + 1)
front_grown k s front r h m e is =
    is ∙ cond-true (nat_lt k 16) (bit_or front (2 ^ k)) front (lt-ltb k 16 h) ∙ ap (λ (f : ℕ). bit_or f (2 ^ k)) e ∙ front_with k s m

-- all cabinets together
pub all_inside : (n s : ℕ) → s < 2 ^ n → Inside s (2 ^ n - 1)
all_inside n s h = inside_and s (2 ^ n - 1) (and_mask s n ∙ mod-eq_of_lt h)

pub inside_all : (n s : ℕ) → Inside s (2 ^ n - 1) → s < 2 ^ n
inside_all n s i = omega (arith, inside_le s (2 ^ n - 1) i, pow_pos n)

-- sets made by going through the cabinets
module _ (P : ℕ → Type 0) where
  pub those_none : Those P 0 0
  those_none k = ((λ m. absurd (omega (arith, bit_high k 0 (pow_pos k)))), (λ h. absurd (omega (arith, h.0))))

  pub those_taken : (n s : ℕ) → Those P n s → P n → Those P (n + 1) (bit_or s (2 ^ n))
  those_taken n s h t k = (
    (λ m. ⊎_elim (λ o. let p = (h k).0 o in (omega (arith, p.0), p.1)) (λ e. (omega arith, subst P (sym e) t)) (with_cases s n k m)),
    (λ p. ⊎_elim (λ l. with_kept s n k ((h k).1 (l, p.1))) (λ l. let e : n ≡ k = omega (arith, p.0) in subst (λ (x : ℕ). Member x (bit_or s (2 ^ n))) e (with_member s n)) (cases_lt k n)),
  )

  pub those_passed : (n s : ℕ) → Those P n s → (P n → ⊥) → Those P (n + 1) s
  those_passed n s h out k = (
    (λ m. let p = (h k).0 m in (omega (arith, p.0), p.1)),
    (λ p. ⊎_elim (λ l. (h k).1 (l, p.1)) (λ l. let e : k ≡ n = omega (arith, p.0) in absurd (out (subst P e p.1))) (cases_lt k n)),
  )

  -- the set that the function `with` makes
  pub those_with : (n s r : ℕ) → n < 16 → Those P n s → P n → r ≡ cond (nat_lt n 16) (bit_or s (2 ^ n)) s → Those P (n + 1) r
  those_with n s r h so_far t is =
      subst (Those P (n + 1)) (sym (is ∙ cond-true (nat_lt n 16) (bit_or s (2 ^ n)) s (lt-ltb n 16 h))) (those_taken n s so_far t)

  -- one set of those, and one only
  pub those_same : (n s t : ℕ) → Those P n s → Those P n t → s ≡ t
  those_same n s t p q =
      same_from_bits s t
      (λ k.
      ⊎_elim (λ m. m ∙ sym ((q k).1 ((p k).0 m)))
      (λ z. ⊎_elim (λ m. absurd (omega (arith, (p k).1 ((q k).0 m)))) (λ y. z ∙ sym y) (member_or_not k t))
      (member_or_not k s))

  pub those_some : ((k : ℕ) → P k ⊎ (P k → ⊥)) → (n : ℕ) → (s : ℕ) × Those P n s
  those_some known zero = (0, those_none)
  those_some known (suc n) =
      let up : n + 1 ≡ suc n = omega arith in
      let lower = those_some known n in
      subst (λ (m : ℕ). (s : ℕ) × Those P m s) up
      (⊎_elim (λ t. (bit_or lower.0 (2 ^ n), those_taken n lower.0 lower.1 t)) (λ out. (lower.0, those_passed n lower.0 lower.1 out)) (known n))
