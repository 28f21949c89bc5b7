-- Picking among sets that come one after the other.
use Rattle.std.proofs.Common.{◌≡◌, ℕ, zero, suc, min, ◌∷◌, [], ◌⊎◌, true, false, cond, ap, List, MatchBool, Some, None, Option, refl, sym, subst, inl, inr, ⊎_elim, arith}
use Rattle.std.specs.List.{filter, fold}
use Rattle.std.proofs.lemmas.Bool.{cases_lt}
use Rattle.quorums.specs.Families.{TableOf}
use Rattle.quorums.specs.Sets.{Inside, Picked, lesser}
use Rattle.quorums.proofs.Tests.{lies, lies_so}

-- G is F with the set s besides
module _ (F G : ℕ → Type 0) (given s : ℕ) (old : (t : ℕ) → F t → G t) (new : G s) (cases : (t : ℕ) → G t → F t ⊎ (t ≡ s)) where
  pub pick_more : (best : Option ℕ) → Picked F given best → Inside s given → Picked G given (Some (lesser best s))
  pick_more None p i = (new, i, λ t m j. ⊎_elim (λ f. absurd (p t f j)) (λ e. omega arith) (cases t m))
  pick_more (Some b) p i =
      ⊎_elim
      (λ l. let e : b ≡ min b s = omega arith in subst (λ (x : ℕ). Picked G given (Some x)) e
      (old b p.0, p.1, λ t m j. ⊎_elim (λ f. p.2 t f j) (λ e. omega arith) (cases t m)))
      (λ l. let e : s ≡ min b s = omega arith in subst (λ (x : ℕ). Picked G given (Some x)) e
      (new, i, λ t m j. ⊎_elim (λ f. omega (arith, p.2 t f j)) (λ e. omega arith) (cases t m)))
      (cases_lt b s)

  pub pick_same : (best : Option ℕ) → Picked F given best → (Inside s given → ⊥) → Picked G given best
  pick_same None p out = λ t m j. ⊎_elim (λ f. p t f j) (λ e. out (subst (λ (x : ℕ). Inside x given) e j)) (cases t m)
  pick_same (Some b) p out = (
    old b p.0,
    p.1,
    λ t m j. ⊎_elim (λ f. p.2 t f j) (λ e. absurd (out (subst (λ (x : ℕ). Inside x given) e j))) (cases t m),
  )

-- families of the same sets have the same pick
pub pick_like : (F G : ℕ → Type 0) (given : ℕ) → ((t : ℕ) → F t → G t) → ((t : ℕ) → G t → F t) → (best : Option ℕ) → Picked F given best → Picked G given best
pick_like F G given to from None p = λ t m j. p t (from t m) j
pick_like F G given to from (Some b) p = (to b p.0, p.1, λ t m j. p.2 t (from t m) j)

-- a list with one set more in front
first_or_later : (s : ℕ) (list : List ℕ) (t : ℕ) → TableOf (s ∷ list) t → (t ≡ s) ⊎ TableOf list t
first_or_later s list t (zero, h, e) = inl (sym e)
first_or_later s list t (suc i, h, e) = inr (i, omega arith, e)

front : (s : ℕ) (list : List ℕ) (t : ℕ) → t ≡ s → TableOf (s ∷ list) t
front s list t e = (0, omega arith, sym e)

later : (s : ℕ) (list : List ℕ) (t : ℕ) → TableOf list t → TableOf (s ∷ list) t
later s list t m = (suc m.0, omega (arith, m.1), m.2)

-- the best so far with one set more
abbrev pub better : Option ℕ → ℕ → Option ℕ
better best s = Some (lesser best s)

module _ (given : ℕ) where
  least_on : (F : ℕ → Type 0) (best : Option ℕ) (list : List ℕ) → Picked F given best → Picked (λ t. F t ⊎ TableOf list t) given (fold better best (filter (lies given) list))
  least_on F best [] p = pick_like F (λ t. F t ⊎ TableOf [] t) given (λ t f. inl f) (λ t m. ⊎_elim (λ f. f) (λ l. absurd (omega (arith, l.1))) m) best p
  least_on F best (s ∷ list) p =
      let G : ℕ → Type 0 = λ t. F t ⊎ (t ≡ s) in
      let rest = filter (lies given) list in
      pick_like (λ t. G t ⊎ TableOf list t) (λ t. F t ⊎ TableOf (s ∷ list) t) given
      (λ t m. ⊎_elim (λ g. ⊎_elim (λ f. inl f) (λ e. inr (front s list t e)) g) (λ l. inr (later s list t l)) m)
      (λ t m. ⊎_elim (λ f. inl (inl f)) (λ l. ⊎_elim (λ e. inl (inr e)) (λ k. inr k) (first_or_later s list t l)) m)
      (fold better best (cond (lies given s) (s ∷ rest) rest))
      (elim (lies given s) as (λ b. MatchBool b (Inside s given) (Inside s given → ⊥) → Picked (λ t. G t ⊎ TableOf list t) given (fold better best (cond b (s ∷ rest) rest))) [
        | true ↦ λ i. least_on G (better best s) list (pick_more F G given s (λ t f. inl f) (inr refl) (λ t m. m) best p i)
        | false ↦ λ out. least_on G best list (pick_same F G given s (λ t f. inl f) (inr refl) (λ t m. m) best p out)
      ] (lies_so given s))

  -- the pick of the sets in a list
  pub least_listed : (list : List ℕ) → Picked (TableOf list) given (fold better None (filter (lies given) list))
  least_listed list =
      let none : ℕ → Type 0 = λ t. ⊥ in
      pick_like (λ t. none t ⊎ TableOf list t) (TableOf list) given (λ t m. ⊎_elim (λ n. absurd n) (λ l. l) m) (λ t l. inr l)
      (fold better None (filter (lies given) list)) (least_on none None list (λ t n i. n))

-- a pick is one
pub picked_same : (F : ℕ → Type 0) (given : ℕ) (a b : Option ℕ) → Picked F given a → Picked F given b → a ≡ b
picked_same F given None None x y = refl
picked_same F given None (Some q) x y = absurd (x q y.0 y.1)
picked_same F given (Some p) None x y = absurd (y p x.0 x.1)
picked_same F given (Some p) (Some q) x y = let e : p ≡ q = omega (arith, x.2 q y.0 y.1, y.2 p x.0 x.1) in ap Some e
