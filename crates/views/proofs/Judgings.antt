-- A judgement has one verdict and one number of strikes.
use Rattle.std.proofs.Common.{◌≡◌, ℕ, suc, List, [], ◌∷◌, length, sym, refl, ap, ◌∙◌, subst, inl, inr, ⊎_elim}
use Rattle.words.specs.declared.tag.Tag.{Tag}
use Rattle.words.specs.Tags.{Before, Upto}
use Rattle.words.proofs.TagOrders.{before_upto, tag_order, upto_refl}
use Rattle.views.specs.Views.{Among, Earliest, Held, Judged, NoneLater, OtherAt, Rising, Struck}
use Rattle.views.specs.declared.Verdict.{Verdict}
use Rattle.views.specs.declared.Verdict.TheVariants.{OneTrip, SecondTrip}

pub not_before : (a b : Tag) → a ≡ b → Before a b → ⊥
not_before a b e l = tag_order.not_both a b l (subst (λ (z : Tag). Upto b z) (sym e) (upto_refl b))

-- rising lists of the same tags are of one length
rising_length : (xs ys : List Tag) → Rising xs → Rising ys → ((u : Tag) → Among xs u → Among ys u) → ((u : Tag) → Among ys u → Among xs u) → length xs ≡ length ys
rising_length [] [] a b to back = refl
rising_length [] (y ∷ ys) a b to back = absurd (back y (inl refl))
rising_length (x ∷ xs) [] a b to back = absurd (to x (inl refl))
rising_length (x ∷ xs) (y ∷ ys) a b to back =
    let heads : x ≡ y =
    ⊎_elim sym (λ later. ⊎_elim (λ e. e) (λ earlier. absurd (tag_order.not_both x y (a.0 y earlier) (before_upto y x (b.0 x later)))) (back y (inl refl))) (to x (inl refl)) in
    ap suc
    (rising_length xs ys a.1 b.1
    (λ u m. ⊎_elim (λ e. absurd (not_before x u (heads ∙ e) (a.0 u m))) (λ r. r) (to u (inr m)))
    (λ u m. ⊎_elim (λ e. absurd (not_before y u (sym heads ∙ e) (b.0 u m))) (λ r. r) (back u (inr m))))

module _ (tags : List Tag) (q : ℕ) (F : ℕ → Type 0) where
  struck_same : (t u : Tag) (a b : ℕ) → t ≡ u → Struck tags q t a → Struck tags q u b → a ≡ b
  struck_same t u a b e x y =
      let z = subst (λ (v : Tag). Struck tags q v b) (sym e) y in
      sym x.3 ∙ rising_length x.0 z.0 x.1 z.1 (λ v m. (z.2 v).1 ((x.2 v).0 m)) (λ v m. (x.2 v).1 ((z.2 v).0 m)) ∙ z.3

  -- the tag at which a second trip was decided
  decided_same : (t u : Tag) → Held tags q t → Held tags q u → OtherAt tags q F t → OtherAt tags q F u → NoneLater tags q F t → NoneLater tags q F u → t ≡ u
  decided_same t u ht hu ot ou nt nu =
      ⊎_elim (λ l. absurd (nt u hu l ou))
      (λ down. ⊎_elim (λ l. absurd (nu t ht l ot)) (λ up. tag_order.same t u up down) (tag_order.either u t))
      (tag_order.either t u)

  abbrev Apart : Type 0
  Apart = (t : Tag) → Earliest tags q t → NoneLater tags q F t → (u : Tag) → Held tags q u → ((w : Tag) × Held tags q w × Before w u) → OtherAt tags q F u → ⊥

  apart : Apart
  apart t early none u hu (w, hw, l) other =
      none u hu (tag_order.through_before t w u (subst (Upto t) hw.2 (early hw.0 hw.1)) l) other

  pub judged_same : (v w : Verdict) (a b : ℕ) → Judged tags q F v a → Judged tags q F w b → (v ≡ w) × (a ≡ b)
  judged_same (OneTrip t) (OneTrip u) a b x y =
      let e : t ≡ u = tag_order.same t u (subst (Upto t) y.0.2 (x.1 y.0.0 y.0.1)) (subst (Upto u) x.0.2 (y.1 x.0.0 x.0.1)) in
      (ap OneTrip e, struck_same t u a b e x.3 y.3)
  judged_same (OneTrip t) (SecondTrip m) a b x y = absurd (apart t x.1 x.2 y.2.0 y.2.1 y.2.2 y.2.3)
  judged_same (SecondTrip m) (OneTrip t) a b x y = absurd (apart t y.1 y.2 x.2.0 x.2.1 x.2.2 x.2.3)
  judged_same (SecondTrip m) (SecondTrip o) a b x y =
      let e : m ≡ o = tag_order.same m o (subst (λ (z : Tag). Upto z o) x.0.2 (y.1 x.0.0 x.0.1)) (subst (λ (z : Tag). Upto z m) y.0.2 (x.1 y.0.0 y.0.1)) in
      let d = decided_same x.2.0 y.2.0 x.2.1 y.2.1 x.2.3 y.2.3 x.2.4 y.2.4 in
      (ap SecondTrip e, struck_same x.2.0 y.2.0 a b d x.2.5 y.2.5)
