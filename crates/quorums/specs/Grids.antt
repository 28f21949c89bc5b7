-- Grids: crossings, what two of them share, and the crossings so far.
use Rattle.std.specs.Prelude.{◌≡◌, ℕ, ◌+◌, ◌*◌, ◌/◌, ◌%◌, ◌<◌, ◌≤◌, ◌⊎◌, refl}
use Rattle.std.proofs.Common.{◌∙◌, sym, ap, subst, inl, inr, ⊎_elim, mul_comm, arith}
use Rattle.std.proofs.lemmas.Nat.{div_below, div-mul-add, mod-mul-add, mod_below, mul-add-lt}
use Rattle.std.proofs.lemmas.Bool.{cases_eq, cases_lt}
use Rattle.quorums.specs.Families.{CrossOf, GridOf}
use Rattle.quorums.specs.Sets.{Member, Share}
use Rattle.quorums.specs.Members.{those_same, those_some}

-- what the row and the column at a cabinet take
abbrev pub Taken : ℕ → ℕ → ℕ → Type 0
Taken c at k = (k / c ≡ at / c) ⊎ (k % c ≡ at % c)

known : (c at k : ℕ) → Taken c at k ⊎ (Taken c at k → ⊥)
known c at k =
    ⊎_elim (λ r. inl (inl r)) (λ r. ⊎_elim (λ l. inl (inr l)) (λ l. inr (⊎_elim r l)) (cases_eq (k % c) (at % c)))
    (cases_eq (k / c) (at / c))

pub cross_some : (c at n : ℕ) → (s : ℕ) × CrossOf n c at s
unfolding CrossOf
cross_some c at n = those_some (Taken c at) (known c at) n

pub cross_same : (n c at s t : ℕ) → CrossOf n c at s → CrossOf n c at t → s ≡ t
unfolding CrossOf
cross_same n c at s t = those_same (Taken c at) n s t

module _ (r c : ℕ) where
  -- a quorum is the crossing at the cabinet of its row and column
  pub grid_cross : (s : ℕ) → GridOf r c s → (at : ℕ) × (at < r * c) × CrossOf (r * c) c at s
  unfolding CrossOf
  grid_cross s g =
      let at = g.0 * c + g.1 in
      let row = div-mul-add g.0 c g.1 g.3 in
      let column = mod-mul-add g.0 c g.1 g.3 in (
        at,
        subst (λ (n : ℕ). at < n) (mul_comm c r) (mul-add-lt g.0 c g.1 r g.2 g.3),
        λ k. (
          (λ m. let p = (g.4 k).0 m in (p.0, ⊎_elim (λ e. inl (e ∙ sym row)) (λ e. inr (e ∙ sym column)) p.1)),
          (λ p. (g.4 k).1 (p.0, ⊎_elim (λ e. inl (e ∙ row)) (λ e. inr (e ∙ column)) p.1)),
        ),
      )

  pub cross_grid : (s at : ℕ) → 0 < c → at < r * c → CrossOf (r * c) c at s → GridOf r c s
  unfolding CrossOf
  cross_grid s at pos h x = (at / c, at % c, div_below at c r pos h, mod_below at c pos, x)

  pub grid_member : (s : ℕ) → GridOf r c s → (k : ℕ) × Member k s
  unfolding CrossOf
  grid_member s g = let x = grid_cross s g in (x.0, (x.2 x.0).1 (x.1, inl refl))

  -- the row of one and the column of the other cross
  pub grid_share : (s t : ℕ) → GridOf r c s → GridOf r c t → Share s t
  grid_share s t g h =
      let k = g.0 * c + h.1 in
      let within : k < r * c = subst (λ (n : ℕ). k < n) (mul_comm c r) (mul-add-lt g.0 c h.1 r g.2 h.3) in
      (k, (g.4 k).1 (within, inl (div-mul-add g.0 c h.1 h.3)), (h.4 k).1 (within, inr (mod-mul-add g.0 c h.1 h.3)))

-- columns there are, where there are cabinets
pub columns : (r c : ℕ) → 1 ≤ r * c → 0 < c
columns r c h = ⊎_elim (λ e. absurd (omega (arith, ap (λ (x : ℕ). r * x) e))) (λ ne. omega arith) (cases_eq c 0)

-- the crossings at the cabinets before i
abbrev pub CrossBelow : ℕ → ℕ → ℕ → ℕ → Type 0
CrossBelow n c i s = (at : ℕ) × (at < i) × CrossOf n c at s

module _ (n c i s : ℕ) (x : CrossOf n c i s) where
  pub cross_far : (t : ℕ) → CrossBelow n c i t → CrossBelow n c (i + 1) t
  cross_far t m = (m.0, omega (arith, m.1), m.2)

  pub cross_here : CrossBelow n c (i + 1) s
  cross_here = (i, omega arith, x)

  pub cross_cases : (t : ℕ) → CrossBelow n c (i + 1) t → CrossBelow n c i t ⊎ (t ≡ s)
  cross_cases t m =
      ⊎_elim (λ l. inl (m.0, l, m.2))
      (λ l. let e : m.0 ≡ i = omega (arith, m.1) in inr (cross_same n c i t s (subst (λ (at : ℕ). CrossOf n c at t) e m.2) x))
      (cases_lt m.0 i)
