-- How many members sets have: inside one another, and two together.
use Rattle.std.specs.Prelude.{◌≡◌, ℕ, suc, ◌+◌, ◌/◌, ◌%◌, ◌^◌, ◌≤◌, bit_and, bit_or, refl}
use Rattle.std.proofs.Common.{◌∙◌, sym, ap, ⊎_elim, mod-lt, arith}
use Rattle.std.proofs.lemmas.Nat.{pow_pos, ones_cat, zero_from_ones}
use Rattle.std.proofs.Math.Arith.{bin_ind}
use Rattle.std.specs.Int.Bits.{and_step, or_step, and_zero_l, or_zero_l}
use Rattle.std.specs.Int.Count.{ones, ones_in, ones_step}
use Rattle.quorums.specs.Sets.{Inside}
use Rattle.quorums.specs.Members.{bit, bit_half, front_more, member_or_not}

pub ones_zero : ones 0 ≡ 0
unfolding ones ones_in
ones_zero = refl

pub ones_one : ones 1 ≡ 1
unfolding ones ones_in
ones_one = refl

-- half of a set inside half of another
halves : (s t : ℕ) → Inside s t → Inside (s / 2) (t / 2)
halves s t h k m = bit_half k t ∙ h (suc k) (sym (bit_half k s) ∙ m)

lowest : (s t : ℕ) → Inside s t → s % 2 ≤ t % 2
lowest s t h = ⊎_elim (λ m. omega (arith, h 0 m)) (λ z. omega arith) (member_or_not 0 s)

pub inside_ones : (s t : ℕ) → Inside s t → ones s ≤ ones t
inside_ones = bin_ind (λ s. (t : ℕ) → Inside s t → ones s ≤ ones t) (λ t h. omega (arith, ones_zero))
    (λ s ih t h.
    omega (arith, lowest s t h, ones_step s, ones_step t, ih (t / 2) (halves s t h)))

-- a set inside another of as many members is that other
pub inside_same : (s t : ℕ) → Inside s t → ones s ≡ ones t → s ≡ t
inside_same = bin_ind (λ s. (t : ℕ) → Inside s t → ones s ≡ ones t → s ≡ t)
    (λ t h e. sym (zero_from_ones t (sym e ∙ ones_zero)))
    (λ s ih t h e.
    let low = lowest s t h in
    let less = inside_ones (s / 2) (t / 2) (halves s t h) in
    let even : ones (s / 2) ≡ ones (t / 2) = omega (arith, ones_step s, ones_step t) in
    let half : s / 2 ≡ t / 2 = ih (t / 2) (halves s t h) even in
    omega (arith, ones_step s, ones_step t))

-- the members of two sets, counted together
pub ones_both : (s t : ℕ) → ones (bit_and s t) + ones (bit_or s t) ≡ ones s + ones t
ones_both = bin_ind (λ s. (t : ℕ) → ones (bit_and s t) + ones (bit_or s t) ≡ ones s + ones t)
    (λ t. omega (arith, ones_zero, ap ones (and_zero_l t), ap ones (or_zero_l t)))
    (λ s ih t.
    let a = bit_and s t in
    let o = bit_or s t in
    let a_half : a / 2 ≡ bit_and (s / 2) (t / 2) = omega (arith, and_step s t) in
    let o_half : o / 2 ≡ bit_or (s / 2) (t / 2) = omega (arith, or_step s t) in
    omega (arith, ones_step a, ones_step o, ones_step s, ones_step t, ap ones a_half, ap ones o_half, and_step s t, or_step s t, ih (t / 2)))

-- one place more of a front counts its bit
pub ones_more : (k s : ℕ) → ones (s % 2 ^ (k + 1)) ≡ bit k s + ones (s % 2 ^ k)
ones_more k s =
    ⊎_elim
    (λ m. ap ones (front_more k s) ∙ ones_cat k (bit k s) (s % 2 ^ k) (mod-lt s (pow_pos k)) ∙ ap (λ (n : ℕ). n + ones (s % 2 ^ k)) (ap ones m ∙ ones_one ∙ sym m))
    (λ z. ap ones (front_more k s) ∙ ones_cat k (bit k s) (s % 2 ^ k) (mod-lt s (pow_pos k)) ∙ ap (λ (n : ℕ). n + ones (s % 2 ^ k)) (ap ones z ∙ ones_zero ∙ sym z))
    (member_or_not k s)
