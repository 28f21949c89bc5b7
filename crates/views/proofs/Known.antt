-- The known settings.
use Rattle.std.proofs.Common.{◌≡◌, ℕ, zero, suc, ◌^◌, ◌<◌, ◌⊎◌, [], ◌∷◌, Some, None, sym, refl, subst, inl, ⊎_elim, arith, lit<, lit≤}
use lib.Count.{ones, ones_in}
use Rattle.words.specs.declared.tag.Tag.{Tag}
use Rattle.words.specs.Tags.{Before, Upto}
use Rattle.words.proofs.TagOrders.{before_upto, tag_order, upto_refl}
use Rattle.quorums.specs.Families.{MajorityOf, TableOf, Tight}
use Rattle.quorums.specs.Sets.{Inside, Member, Picked}
use Rattle.quorums.specs.Counting.{inside_ones}
use Rattle.quorums.specs.Majorities.{least, too_few}
use Rattle.quorums.specs.Members.{member_below, share_some}
use Rattle.views.specs.Settings.{KnownSettings}
use Rattle.views.specs.Views.{Held, Judged, Latest, told}
use Rattle.views.specs.declared.Verdict.TheVariants.{OneTrip, SecondTrip}

picks : Picked (MajorityOf 5) 27 (Some 11)
unfolding ones ones_in
picks = least 5 27 4 (lit≤ tt) refl

picks_none : Picked (MajorityOf 5) 3 None
unfolding ones ones_in
picks_none = too_few 5 3 (lit< tt)

loose : (n : ℕ) → Tight n (3 ∷ 12 ∷ []) → ⊥
loose n tight = let none : 0 < 0 = share_some 3 12 (tight.share 0 1 (lit< tt) (lit< tt)) in omega arith

never : (a b : Tag) {A : Type 0} → Before a b → Upto b a → A
never a b p q = absurd (tag_order.not_both a b p q)

-- the members of {0,1,2} and of {0,1}
three : (P : ℕ → Type 0) → P 0 → P 1 → P 2 → (k : ℕ) → Member k 7 → P k
three P a b c zero m = a
three P a b c (suc zero) m = b
three P a b c (suc (suc zero)) m = c
three P a b c (suc (suc (suc k))) m = absurd (omega (arith, member_below 3 (suc (suc (suc k))) 7 (lit< tt) m))

pub two : (P : ℕ → Type 0) → P 0 → P 1 → (k : ℕ) → Member k 3 → P k
two P a b zero m = a
two P a b (suc zero) m = b
two P a b (suc (suc k)) m = absurd (omega (arith, member_below 2 (suc (suc k)) 3 (lit< tt) m))

-- a majority of 4 whose members of {0,1,2} are 0 alone lies inside {0,3}, which is too few
inside_9 : (c : ℕ) → c < 2 ^ 4 → (Member 1 c → ⊥) → (Member 2 c → ⊥) → Inside c 9
inside_9 c h no-1 no-2 zero m = refl
inside_9 c h no-1 no-2 (suc zero) m = absurd (no-1 m)
inside_9 c h no-1 no-2 (suc (suc zero)) m = absurd (no-2 m)
inside_9 c h no-1 no-2 (suc (suc (suc zero))) m = refl
inside_9 c h no-1 no-2 (suc (suc (suc (suc k)))) m = absurd (omega (arith, member_below 4 (suc (suc (suc (suc k)))) c h m))

ones_9 : ones 9 ≡ 2
unfolding ones ones_in
ones_9 = refl

ones_11 : ones 11 ≡ 3
unfolding ones ones_in
ones_11 = refl

only_first : (c : ℕ) → MajorityOf 4 c → (Member 1 c → ⊥) → (Member 2 c → ⊥) → ⊥
only_first c m no-1 no-2 = omega (arith, inside_ones c 9 (inside_9 c m.0 no-1 no-2), m.1, ones_9)

two_agree : (t1 t2 : Tag) → Before t1 t2 → Judged (t2 ∷ t1 ∷ t1 ∷ []) 7 (MajorityOf 4) (OneTrip t1) 1
two_agree t1 t2 b = (
  (1, refl, refl),
  three (λ k. Upto t1 (told (t2 ∷ t1 ∷ t1 ∷ []) k)) (before_upto t1 t2 b) (upto_refl t1) (upto_refl t1),
  (λ u h bu o. only_first o.0 o.1 (λ m. never t1 u bu (o.3 1 m refl)) (λ m. never t1 u bu (o.3 2 m refl))),
  (
    t2 ∷ [],
    ((λ u x. absurd x), tt),
    (λ u. (
      ⊎_elim (λ e. ((0, refl, e), subst (Before t1) e b)) (λ x. absurd x),
      (λ p.
          three (λ k. told (t2 ∷ t1 ∷ t1 ∷ []) k ≡ u → (t2 ≡ u) ⊎ ⊥) inl (λ e. never t1 u p.1 (subst (λ (t : Tag). Upto t t1) e (upto_refl t1)))
          (λ e. never t1 u p.1 (subst (λ (t : Tag). Upto t t1) e (upto_refl t1))) p.0.0 p.0.1 p.0.2),
    )),
    refl,
  ),
)

all_differ : (t1 t2 t3 : Tag) → Before t1 t2 → Before t2 t3 → Judged (t3 ∷ t2 ∷ t1 ∷ []) 7 (MajorityOf 4) (SecondTrip t3) 1
all_differ t1 t2 t3 b c =
    let tags = t3 ∷ t2 ∷ t1 ∷ [] in
    let a = tag_order.before_through t1 t2 t3 b (before_upto t2 t3 c) in (
      (0, refl, refl),
      three (λ k. Upto (told tags k) t3) (upto_refl t3) (before_upto t2 t3 c) (before_upto t1 t3 a),
      (
        t2,
        (1, refl, refl),
        (t1, (2, refl, refl), b),
        (
          11,
          (lit< tt, ones_11),
          (λ e. omega arith),
          (λ k mc mq.
              three (λ k. Member k 11 → Upto t2 (told tags k)) (λ _. before_upto t2 t3 c) (λ _. upto_refl t2) (λ m. absurd (omega (arith, m))) k mq mc),
        ),
        (λ u h bu o.
            only_first o.0 o.1 (λ m. never t2 u bu (o.3 1 m refl))
            (λ m. never t1 u (tag_order.before_through t1 t2 u b (before_upto t2 u bu)) (o.3 2 m refl))),
        (
          t3 ∷ [],
          ((λ u x. absurd x), tt),
          (λ u. (
            ⊎_elim (λ e. ((0, refl, e), subst (Before t2) e c)) (λ x. absurd x),
            (λ p.
                three (λ k. told tags k ≡ u → (t3 ≡ u) ⊎ ⊥) inl (λ e. never t2 u p.1 (subst (λ (t : Tag). Upto t t2) e (upto_refl t2)))
                (λ e. never t2 u p.1 (subst (λ (t : Tag). Upto t t2) e (before_upto t1 t2 b))) p.0.0 p.0.1 p.0.2),
          )),
          refl,
        ),
      ),
    )

-- the other quorum of the table
other_5 : (c : ℕ) → TableOf (3 ∷ 5 ∷ []) c → (c ≡ 3 → ⊥) → 5 ≡ c
other_5 c (zero, h, e) other = absurd (other (sym e))
other_5 c (suc zero, h, e) other = e
other_5 c (suc (suc i), h, e) other = absurd (omega arith)

shared_earlier : (t1 t2 : Tag) → Before t1 t2 → Judged (t1 ∷ t2 ∷ []) 3 (TableOf (3 ∷ 5 ∷ [])) (OneTrip t1) 1
shared_earlier t1 t2 b = (
  (0, refl, refl),
  two (λ k. Upto t1 (told (t1 ∷ t2 ∷ []) k)) (upto_refl t1) (before_upto t1 t2 b),
  (λ u h bu o. never t1 u bu (o.3 0 (subst (Member 0) (other_5 o.0 o.1 o.2) refl) refl)),
  (
    t2 ∷ [],
    ((λ u x. absurd x), tt),
    (λ u. (
      ⊎_elim (λ e. ((1, refl, e), subst (Before t1) e b)) (λ x. absurd x),
      (λ p.
          two (λ k. told (t1 ∷ t2 ∷ []) k ≡ u → (t2 ≡ u) ⊎ ⊥) (λ e. never t1 u p.1 (subst (λ (t : Tag). Upto t t1) e (upto_refl t1))) inl p.0.0 p.0.1
          p.0.2),
    )),
    refl,
  ),
)

shared_later : (t1 t2 : Tag) → Before t1 t2 → Judged (t2 ∷ t1 ∷ []) 3 (TableOf (3 ∷ 5 ∷ [])) (SecondTrip t2) 0
shared_later t1 t2 b =
    let tags = t2 ∷ t1 ∷ [] in
    let latest : Latest tags 3 t2 = two (λ k. Upto (told tags k) t2) (upto_refl t2) (before_upto t1 t2 b) in
    let none_later : (u : Tag) → Held tags 3 u → Before t2 u → ⊥ =
    λ u h bu. never t2 u bu (subst (λ (t : Tag). Upto t t2) h.2 (latest h.0 h.1)) in (
      (0, refl, refl),
      latest,
      (
        t2,
        (0, refl, refl),
        (t1, (1, refl, refl), b),
        (
          5,
          (1, lit< tt, refl),
          (λ e. omega arith),
          (λ k mc mq. two (λ k. Member k 5 → Upto t2 (told tags k)) (λ _. upto_refl t2) (λ m. absurd (omega (arith, m))) k mq mc),
        ),
        (λ u h bu o. none_later u h bu),
        ([], tt, (λ u. ((λ x. absurd x), (λ p. none_later u p.0 p.1))), refl),
      ),
    )

pub known_settings : KnownSettings
known_settings = record {
  picks = picks;
  picks_none = picks_none;
  loose = loose;
  two_agree = two_agree;
  all_differ = all_differ;
  shared_earlier = shared_earlier;
  shared_later = shared_later;
}
