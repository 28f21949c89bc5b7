-- The crossings of a grid, one at each cabinet, are its quorums.
use Rattle.std.proofs.Common.{◌≡◌, ℕ, ◌*◌, ◌<◌, ◌≤◌, map, sym, subst, ◌∙◌, arith}
use Rattle.std.specs.List.{range_with_len}
use Rattle.std.proofs.lemmas.List.FromFn.{get_or-map-range_with_len, length-map-range_with_len}
use Rattle.quorums.specs.Families.{CrossOf, GridOf, TableOf}
use Rattle.quorums.specs.Grids.{columns, cross_grid, cross_same, cross_some, grid_cross}

-- of n cabinets in c columns, the row and the column that cross at a cabinet
pub crossing : ℕ → ℕ → ℕ → ℕ
crossing n c at = (cross_some c at n).0

module _ (n c at : ℕ) where
  pub crossing_is : CrossOf n c at (crossing n c at)
  unfolding crossing
  crossing_is = (cross_some c at n).1

  pub crossing_same : (s : ℕ) → CrossOf n c at s → s ≡ crossing n c at
  crossing_same s x = cross_same n c at s (crossing n c at) x crossing_is

module _ (n r c : ℕ) (whole : n ≡ r * c) where
  pub grid_of_crossing : 1 ≤ n → (t : ℕ) → TableOf (map (crossing n c) (range_with_len 0 n)) t → GridOf r c t
  grid_of_crossing some t m =
      let some_there : 1 ≤ r * c = omega arith in
      let below : m.0 < n = omega (arith, m.1, length-map-range_with_len (crossing n c) 0 n) in
      let is : crossing n c m.0 ≡ t = sym (get_or-map-range_with_len (crossing n c) 0 n m.0 m.0 0 below (omega arith)) ∙ m.2 in
      cross_grid r c t m.0 (columns r c some_there) (omega arith)
      (subst (λ (k : ℕ). CrossOf k c m.0 t) whole (subst (CrossOf n c m.0) is (crossing_is n c m.0)))

  pub crossing_of_grid : (t : ℕ) → GridOf r c t → TableOf (map (crossing n c) (range_with_len 0 n)) t
  crossing_of_grid t m =
      let x = grid_cross r c t m in
      let below : x.0 < n = omega (arith, x.1) in (
        x.0,
        omega (arith, length-map-range_with_len (crossing n c) 0 n),
        get_or-map-range_with_len (crossing n c) 0 n x.0 x.0 0 below (omega arith)
            ∙ sym (crossing_same n c x.0 t (subst (λ (k : ℕ). CrossOf k c x.0 t) (sym whole) x.2)),
      )
