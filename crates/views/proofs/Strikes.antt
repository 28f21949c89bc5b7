-- Striking: what holds while it goes on, and what it comes to.
use Rattle.std.proofs.Common.{◌≡◌, ℕ, suc, ◌+◌, ◌^◌, ◌<◌, ◌≤◌, ◌⊎◌, ◌↔◌, List, [], ◌∷◌, sym, refl, ap, ◌∙◌, subst, inl, inr, ⊎_elim, arith}
use lib.Count.{ones, ones-le}
use Rattle.std.proofs.lemmas.Bool.{cases_eq}
use Rattle.words.specs.declared.tag.Tag.{Tag}
use Rattle.words.specs.Tags.{Before, Upto}
use Rattle.words.proofs.TagOrders.{before_upto, tag_order, upto_refl}
use Rattle.quorums.specs.Sets.{Inside, Member, Those}
use Rattle.quorums.specs.Counting.{inside_ones, inside_same}
use Rattle.quorums.specs.Members.{member_below}
use Rattle.views.specs.Views.{Held, Judged, Latest, NoneLater, OtherAt, Struck, told}
use Rattle.views.specs.declared.Verdict.TheVariants.{OneTrip, SecondTrip}

module _ (tags : List Tag) (q : ℕ) (F : ℕ → Type 0) where
  -- the members of q that told nothing later than `at` remain; of those struck nothing is left open
  pub record Going (remaining : ℕ) (at : Tag) (strikes : ℕ) : Type 0 where
    pub remain : (k : ℕ) → Member k remaining ↔ (Member k q × Upto (told tags k) at)
    pub held : Held tags remaining at
    pub none_later : NoneLater tags q F at
    pub struck : Struck tags q at strikes
    pub few : strikes + ones remaining ≤ 16

  pub start : (top : Tag) → q < 2 ^ 16 → Held tags q top → Latest tags q top → Going q top 0
  start top small held latest =
      let not_later : (u : Tag) → Held tags q u → Before top u → ⊥ =
      λ u h b. tag_order.not_both top u b (subst (λ (t : Tag). Upto t top) h.2 (latest h.0 h.1)) in
      record {
        remain = λ k. ((λ m. (m, latest k m)), (λ p. p.0));
        held = held;
        none_later = λ u h b o. not_later u h b;
        struck = ([], tt, (λ u. ((λ x. absurd x), (λ p. not_later u p.0 p.1))), refl);
        few = omega (arith, ones-le 16 q small);
      }

  module _ (remaining : ℕ) (at : Tag) (strikes : ℕ) (go : Going remaining at strikes) (small : q < 2 ^ 16) (rest : ℕ)
      (those : Those (λ k. Member k remaining × Before (told tags k) at) 16 rest) where
    -- `at` was told by a member of q
    at_held : Held tags q at
    at_held = (go.held.0, ((go.remain go.held.0).0 go.held.1).0, go.held.2)

    -- the members of q that told an earlier tag are the rest
    earlier_rest : (k : ℕ) → Member k q → Before (told tags k) at → Member k rest
    earlier_rest k m b =
        (those k).1 (member_below 16 k q small m, ((go.remain k).1 (m, before_upto (told tags k) at b), b))

    rest_earlier : (k : ℕ) → Member k rest → Member k q × Before (told tags k) at
    rest_earlier k m = (((go.remain k).0 ((those k).0 m).1.0).0, ((those k).0 m).1.1)

    -- the holders of `at` are not in the rest
    pub fewer : ones rest < ones remaining
    fewer =
        let inside : Inside rest remaining = λ k m. ((those k).0 m).1.0 in
        ⊎_elim
        (λ e.
        let all = inside_same rest remaining inside e in
        let k = go.held.0 in
        let lower = (rest_earlier k (subst (λ (s : ℕ). Member k s) (sym all) go.held.1)).1 in
        absurd (tag_order.not_both (told tags k) at lower (subst (λ (t : Tag). Upto at t) (sym go.held.2) (upto_refl at))))
        (λ ne. omega (arith, inside_ones rest remaining inside))
        (cases_eq (ones rest) (ones remaining))

    -- nobody is left: one trip
    pub one_trip : ((k : ℕ) → Member k rest → ⊥) → Judged tags q F (OneTrip at) strikes
    one_trip nobody = (
      at_held,
      (λ k m. ⊎_elim (λ b. absurd (nobody k (earlier_rest k m b))) (λ u. u) (tag_order.either (told tags k) at)),
      go.none_later,
      go.struck,
    )

    module _ (next : Tag) (held : Held tags rest next) (latest : Latest tags rest next) where
      next_earlier : Before next at
      next_earlier = subst (λ (t : Tag). Before t at) held.2 (rest_earlier held.0 held.1).1

      next_held : Held tags q next
      next_held = (held.0, (rest_earlier held.0 held.1).0, held.2)

      -- a quorum outside the rest is another, and told nothing earlier
      pub second_trip : (top : Tag) (n c : ℕ) → Held tags q top → Latest tags q top → (given : ℕ) → Those (λ k. Member k rest → ⊥) n given → F c → Inside c given → Judged tags q F (SecondTrip top) strikes
      second_trip top n c top-held top-latest given others fc within = (
        top-held,
        top-latest,
        (
          at,
          at_held,
          (next, next_held, next_earlier),
          (
            c,
            fc,
            (λ e. ((others held.0).0 (within held.0 (subst (λ (s : ℕ). Member held.0 s) (sym e) (rest_earlier held.0 held.1).0))).1 held.1),
            λ k mc mq. ⊎_elim (λ b. absurd (((others k).0 (within k mc)).1 (earlier_rest k mq b))) (λ u. u) (tag_order.either (told tags k) at),
          ),
          go.none_later,
          go.struck,
        ),
      )

      -- no quorum lies outside the rest: the holders of `at` are struck
      pub onward : (n : ℕ) → ((c : ℕ) → F c → (k : ℕ) → Member k c → k < n) → (given : ℕ) → Those (λ k. Member k rest → ⊥) n given → ((c : ℕ) → F c → Inside c given → ⊥) → Going rest next (strikes + 1)
      onward n line given others none =
          let closed : OtherAt tags q F at → ⊥ =
          λ o. none o.0 o.1
          (λ k m. (others k).1 (
            line o.0 o.1 k m,
            λ r. let p = rest_earlier k r in tag_order.not_both (told tags k) at p.1 (o.3 k m p.0),
          )) in
          -- a tag of q later than next is `at` or later
          let gap : (u : Tag) → Held tags q u → Before next u → Before at u ⊎ (at ≡ u) =
          λ u h b.
          ⊎_elim inl
          (λ up.
          ⊎_elim
          (λ lower.
          absurd (tag_order.not_both next u b
          (subst (λ (t : Tag). Upto t next) h.2 (latest h.0 (earlier_rest h.0 h.1 (subst (λ (t : Tag). Before t at) (sym h.2) lower))))))
          (λ upper. inr (tag_order.same at u upper up)) (tag_order.either u at))
          (tag_order.either at u) in
          let ts = go.struck.0 in
          let all = go.struck.2 in
          record {
            remain = λ k. (
              (λ m. ((rest_earlier k m).0, latest k m)),
              (λ p. earlier_rest k p.0 (tag_order.through_before (told tags k) next at p.1 next_earlier)),
            );
            held = held;
            none_later = λ u h b o.
                ⊎_elim (λ later. go.none_later u h later o) (λ e. closed (subst (OtherAt tags q F) (sym e) o)) (gap u h b);
            struck = (
              at ∷ ts,
              ((λ u m. ((all u).0 m).1), go.struck.1),
              (λ u. (
                ⊎_elim (λ e. subst (λ (t : Tag). Held tags q t × Before next t) e (at_held, next_earlier))
                    (λ m. let p = (all u).0 m in (p.0, tag_order.before_through next at u next_earlier (before_upto at u p.1))),
                (λ p. ⊎_elim (λ later. inr ((all u).1 (p.0, later))) inl (gap u p.0 p.1)),
              )),
              ap suc go.struck.3 ∙ omega arith,
            );
            few = omega (arith, go.few, fewer);
          }
