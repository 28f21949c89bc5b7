-- From one line a call has one answer and leaves one line.
use Rattle.std.proofs.Common.{◌≡◌, ℕ, ◌≤◌, true, false, ◌⊎◌, [], ◌∷◌, Some, None, Ok, Err, Option, Result, sym, ap, ◌∙◌, subst, inl, inr, ⊎_elim, arith}
use Rattle.std.specs.List.{remove}
use Rattle.std.proofs.lemmas.Bool.{cases_order}
use Rattle.std.proofs.lemmas.Grind.{common_steps}
use Rattle.std.proofs.lemmas.Option.{same_Some, slice_get_within}
use Rattle.words.specs.Refusals.{number}
use Rattle.words.specs.declared.refusal.Refusal.{Refusal}
use Rattle.words.specs.declared.tag.Tag.{Tag}
use Rattle.words.proofs.TagOrders.{tag_order}
use Rattle.quorums.specs.Sets.{Member, Picked}
use Rattle.quorums.proofs.Picks.{picked_same}
use Rattle.views.specs.declared.Verdict.{Verdict}
use Rattle.views.specs.declared.Verdict.TheVariants.{OneTrip, SecondTrip}
use Rattle.telegrams.specs.declared.Pair.{Pair}
use Rattle.telegrams.specs.declared.Telegram.{Telegram}
use Rattle.telegrams.specs.declared.TelegramKind.{TelegramKind}
use Rattle.telegrams.specs.declared.TelegramKind.TheVariants.{Query, Told, Set, Took}
use Rattle.line.specs.declared.types.Collected.{Collected}
use Rattle.line.specs.declared.types.Delivered.{Delivered}
use Rattle.line.specs.declared.types.Delivered.TheVariants as answer
use Rattle.line.specs.declared.types.Hand.{Hand}
use Rattle.line.specs.declared.types.Stage.{Stage}
use Rattle.line.specs.declared.types.Stage.TheVariants.{Querying, Setting, Ended, Spent}
use Rattle.line.specs.declared.types.Work.{Work}
use Rattle.line.specs.declared.types.Work.TheVariants.{Write, Read}
use Rattle.line.specs.Lines.{View, at_stage, hand_of, hold, note, replica, reply, send, ended_row, told_tags, with_bus}
use Rattle.line.specs.Results.{One, OneResult}
use Rattle.line.specs.Steps.{Answer, AtHand, AtStation, Begins, Chosen, Claims, Collects, Delivers, Doubles, Fits, GivesUp, Greatest, Handed, InHand, Loses, Lowest, Over, Reads, Refused, Second, Shelves, Stored, Tags, TagsAfter, Takes, Tells, with_shelf}
use Rattle.views.proofs.Judgings.{judged_same}
use Rattle.line.proofs.Moves.{made, tagged_line, told_hand, told_view}

-- a refusal that carries nothing is known by its number
plain_same : (e f : Refusal) → number e ≤ 9 → number e ≡ number f → e ≡ f
plain_same e f l same = grind (arith, common_steps)

module _ {V : Type 0} where
  refused_one : {R : Type 0} (n : ℕ) → n ≤ 9 → (v : View V) → One {R = R} (Refused n v)
  refused_one n l v r s w x (e, re, ne, we) (f, rf, nf, wf) =
      let same : e ≡ f = plain_same e f (omega (arith, ne)) (ne ∙ sym nf) in
      (re ∙ ap Err same ∙ sym rf, we ∙ sym wf)

  module _ {R : Type 0} where
    exact_one : (a : Result R Refusal) (b : View V) → One (λ r w. (r ≡ a) × (w ≡ b))
    exact_one a b r s w x p q = (p.0 ∙ sym q.0, p.1 ∙ sym q.1)

    either_one : (A B : Result R Refusal → View V → Type 0) → One A → One B → ((r s : Result R Refusal) (w x : View V) → A r w → B s x → ⊥)
        → One (λ r w. A r w ⊎ B r w)
    either_one A B a b apart r s w x (inl p) (inl q) = a r s w x p q
    either_one A B a b apart r s w x (inl p) (inr q) = absurd (apart r s w x p q)
    either_one A B a b apart r s w x (inr p) (inl q) = absurd (apart s r x w q p)
    either_one A B a b apart r s w x (inr p) (inr q) = b r s w x p q

    -- a refusal, or something that has one answer
    refuse_or : (n : ℕ) → n ≤ 9 → (v : View V) (A B : Result R Refusal → View V → Type 0) → ((r : Result R Refusal) (w : View V) → A r w → Refused n v r w)
        → One B
        → ((r s : Result R Refusal) (w x : View V) → A r w → B s x → ⊥) → One (λ r w. A r w ⊎ B r w)
    refuse_or n l v A B refused = either_one A B (λ r s w x p q. refused_one n l v r s w x (refused r w p) (refused s x q))

    at_one : {X : Type 0} (A : X → Result R Refusal → View V → Type 0) (i j : X) → i ≡ j → One (A i) → (r s : Result R Refusal) (w x : View V) → A i r w
        → A j s x → (r ≡ s) × (w ≡ x)
    at_one A i j e one r s w x p q = one r s w x p (subst (λ (z : _). A z s x) (sym e) q)

  loses_one : (v : View V) (place : ℕ) → One (Loses v place)
  loses_one v place =
      refuse_or 7 (omega arith) v _ _ (λ r w p. p.1)
      (λ r s w x p q. (p.1 ∙ sym q.1, p.2 ∙ sym q.2))
      (λ r s w x p q. omega (arith, p.0, q.0))

  doubles_one : (v : View V) (place : ℕ) → One (Doubles v place)
  doubles_one v place =
      refuse_or 7 (omega arith) v _ _ (λ r w p. p.1)
      (refuse_or 5 (omega arith) v _ _ (λ r w p. p.3)
      (λ r s w x p q.
      let e = same_Some _ _ (sym p.1 ∙ q.1) in
      (p.3 ∙ sym q.3, p.4 ∙ ap (λ (t : Telegram V). send v (t ∷ [])) e ∙ sym q.4))
      (λ r s w x p q. p.2 q.2))
      (λ r s w x p. ⊎_elim (λ q. omega (arith, p.0, slice_get_within v.bus place _ q.1)) (λ q. omega (arith, p.0, slice_get_within v.bus place _ q.1)))

  begins_one : (v : View V) (s : ℕ) (work : Work V) → One (Begins v s work)
  begins_one v s work =
      refuse_or 3 (omega arith) v _ _ (λ r w p. p.1)
      (refuse_or 4 (omega arith) v _ _ (λ r w p. p.1.1)
      (refuse_or 5 (omega arith) v _ _ (λ r w p. p.2.1)
      (refuse_or 6 (omega arith) v _ _ (λ r w p. p.3.1)
      (λ r s w x p q. (p.4 ∙ sym q.4, p.5 ∙ sym q.5))
      (λ r s w x p q. p.3.0 q.3))
      (λ r s w x p. ⊎_elim (λ q. p.2.0 q.2) (λ q. p.2.0 q.2)))
      (λ r s w x p. ⊎_elim (λ q. p.1.0 q.1) (⊎_elim (λ q. p.1.0 q.1) (λ q. p.1.0 q.1))))
      (λ r s w x p. ⊎_elim (λ q. p.0 q.0) (⊎_elim (λ q. p.0 q.0) (⊎_elim (λ q. p.0 q.0) (λ q. p.0 q.0))))

  -- tickets: a station has one job in hand, and a job that is over has one result
  same_hand : (v : View V) (s job : ℕ) (h k : Hand V) → InHand v s job h → InHand v s job k → h ≡ k
  same_hand v s job h k p q = same_Some _ _ (sym p.1 ∙ q.1)

  over_same : (stage : Stage V) (a b : Collected V) → Over stage a → Over stage b → a ≡ b
  over_same Querying a b p q = absurd p
  over_same (Setting u strikes took) a b p q = absurd p
  over_same (Ended u trips strikes) a b p q = p ∙ sym q
  over_same Spent a b p q = p ∙ sym q

  collects_one : (v : View V) (s job : ℕ) → One (Collects v s job)
  collects_one v s job =
      refuse_or 9 (omega arith) v _ _ (λ r w p. p.1)
      (refuse_or 8 (omega arith) v _ _ (λ r w p. p.3)
      (λ r s2 w x p q.
      let over = subst (λ (k : Hand V). Over k.stage q.2.0) (same_hand v s job q.0 p.0 q.1 p.1) q.2.1 in
      (p.2.2 ∙ ap Ok (over_same p.0.stage p.2.0 q.2.0 p.2.1 over) ∙ sym q.2.2, p.3 ∙ sym q.3))
      (λ r s2 w x p q. p.2 q.2.0 (subst (λ (k : Hand V). Over k.stage q.2.0) (same_hand v s job q.0 p.0 q.1 p.1) q.2.1)))
      (λ r s2 w x p. ⊎_elim (λ q. p.0 q.0 q.1) (λ q. p.0 q.0 q.1))

  gives_up_one : (v : View V) (s job : ℕ) → One (GivesUp v s job)
  gives_up_one v s job =
      refuse_or 9 (omega arith) v _ _ (λ r w p. p.1)
      (either_one _ _ (λ r s w x p q. (p.3 ∙ sym q.3, p.4 ∙ sym q.4)) (λ r s w x p q. (p.3 ∙ sym q.3, p.4 ∙ sym q.4))
      (λ r s2 w x p q. p.2 q.2.0 (subst (λ (k : Hand V). Over k.stage q.2.0) (same_hand v s job q.0 p.0 q.1 p.1) q.2.1)))
      (λ r s2 w x p. ⊎_elim (λ q. p.0 q.0 q.1) (λ q. p.0 q.0 q.1))

  shelves_one : (v : View V) (s job : ℕ) → One (Shelves v s job)
  shelves_one v s job =
      refuse_or 9 (omega arith) v _ _ (λ r w p. p.1)
      (λ r s2 w x p q. (p.2 ∙ sym q.2, p.3 ∙ ap (λ (h : Hand V). hold v s (with_shelf h true)) (same_hand v s job p.0 q.0 p.1 q.1) ∙ sym q.3))
      (λ r s2 w x p q. p.0 q.0 q.1)

  claims_one : (v : View V) (s : ℕ) → One (Claims v s)
  claims_one v s =
      refuse_or 3 (omega arith) v _ _ (λ r w p. p.1)
      (refuse_or 9 (omega arith) v _ _ (λ r w p. p.1.1)
      (λ r s2 w x p q.
      let e = same_Some _ _ (sym p.1.1.0 ∙ q.1.1.0) in
      (p.1.2 ∙ ap (λ (h : Hand V). Ok (s, h.job)) e ∙ sym q.1.2, p.1.3 ∙ ap (λ (h : Hand V). hold v s (with_shelf h false)) e ∙ sym q.1.3))
      (λ r s2 w x p q. p.1.0 q.1.0 q.1.1))
      (λ r s2 w x p. ⊎_elim (λ q. p.0 q.0) (λ q. p.0 q.0))

  -- deliveries, at a cabinet
  stored_same : (v : View V) (c : ℕ) (p : Pair V) (w x : View V) → Stored v c p w → Stored v c p x → w ≡ x
  stored_same v c p w x (inl a) (inl b) = a.1 ∙ sym b.1
  stored_same v c p w x (inl a) (inr b) = absurd (tag_order.not_both (replica v c).tag p.tag a.0 b.0)
  stored_same v c p w x (inr a) (inl b) = absurd (tag_order.not_both (replica v c).tag p.tag b.0 a.0)
  stored_same v c p w x (inr a) (inr b) = a.1 ∙ sym b.1

  -- deliveries, at a station
  module _ (F : ℕ → Type 0) (before v : View V) (t : Telegram V) where
    abbrev s : ℕ
    s = t.station

    second_one : (w : View V) (h : Hand V) (p : Pair V) (strikes : ℕ) → One (Second F before v t w h p strikes)
    second_one w h p strikes =
        either_one _ _ (λ r s w x a b. exact_one _ _ r s w x a.1 b.1) (λ r s w x a b. refused_one 5 (omega arith) before r s w x a.1 b.1)
        (λ r s w x a b. b.0 a.0)

    greatest_upto : (w : View V) (q g k : ℕ) → Greatest F before v t w q g → Greatest F before v t w q k → g ≤ k
    greatest_upto w q g k a b =
        ⊎_elim (λ own. omega (arith, own, b.0)) (λ (c, p, m, kept, is). omega (arith, is, b.1 c p m kept)) a.2

    lowest_same : (w : View V) (q : ℕ) (tag : Tag) (p u : Pair V) → Lowest F before v t w q tag p → Lowest F before v t w q tag u → p ≡ u
    lowest_same w q tag p u a b =
        ⊎_elim (λ here. same_Some _ _ (sym a.2 ∙ ap (w.answers s) here ∙ b.2))
        (⊎_elim (λ less. absurd (b.4 a.0 p less a.1 a.2 a.3)) (λ more_than. absurd (a.4 b.0 u more_than b.1 b.2 b.3)))
        (cases_order a.0 b.0)

    tags_one : (w : View V) (h : Hand V) (y : V) (q : ℕ) → One (Tags F before v t w h y q)
    tags_one w h y q r s2 x z (g, most, a) (k, most2, b) =
        let e : g ≡ k = omega (arith, greatest_upto w q g k most most2, greatest_upto w q k g most2 most) in
        at_one (λ (i : ℕ). TagsAfter F before v t w h y i)
        g k e
        (either_one _ _ (λ r s w x a b. exact_one _ _ r s w x a.1 b.1)
        (λ r r2 u x a b. second_one (tagged_line w s h y g) h (made s y g) 0 r r2 u x a.1 b.1)
        (λ r s w x a b. omega (arith, a.0, b.0)))
        r s2 x z a b

    reads_one : (w : View V) (h : Hand V) (q : ℕ) (verdict : Verdict) (strikes : ℕ) → One (Reads F before v t w h q verdict strikes)
    reads_one w h q (OneTrip tag) strikes r s2 x z (p, low, a) (u, low2, b) =
        at_one
        (λ (p : Pair V) r after. Answer F before v t answer.Ended (note (hold w s (at_stage h (Ended p 1 strikes))) (ended_row s h.job p 1 strikes)) r after)
        p u (lowest_same w q tag p u low low2) (exact_one _ _) r s2 x z a b
    reads_one w h q (SecondTrip tag) strikes r s2 x z (p, low, a) (u, low2, b) =
        at_one (λ (p : Pair V). Second F before v t w h p strikes) p u (lowest_same w q tag p u low low2) (second_one w h p strikes) r s2 x z a b

    chosen_one : (w : View V) (h : Hand V) (q : ℕ) (work : Work V) → One (Chosen F before v t w h q work)
    chosen_one w h q (Write y) r s2 x z a b = tags_one w h y q r s2 x z a b
    chosen_one w h q Read r s2 x z (verdict, strikes, judged, a) (other, count, judged2, b) =
        let e = judged_same (told_tags w s) q F verdict other strikes count judged judged2 in
        at_one (λ (i : ℕ). Reads F before v t w h q verdict i) strikes count e.1 (reads_one w h q verdict strikes) r s2 x z a
        (subst (λ (k : Verdict). Reads F before v t w h q k count s2 z) (sym e.0) b)

    -- either no quorum is picked, or one and the same
    picked_one : (given : ℕ) (A : Result Delivered Refusal → View V → Type 0) (B : ℕ → Result Delivered Refusal → View V → Type 0) → One A
        → ((q : ℕ) → One (B q)) → One (λ r w. (Picked F given None × A r w) ⊎ ((q : ℕ) × Picked F given (Some q) × B q r w))
    picked_one given A B one-a one_b =
        either_one _ _ (λ r s w x a b. one-a r s w x a.1 b.1)
        (λ r s w x a b. at_one B a.0 b.0 (same_Some _ _ (picked_same F given (Some a.0) (Some b.0) a.1 b.1)) (one_b a.0) r s w x a.2 b.2)
        (λ r s w x a b. cc (picked_same F given None (Some b.0) a.0 b.1))

    tells_one : (h : Hand V) (p : Pair V) → One (Tells F before v t h p)
    tells_one h p =
        let w = told_view v t h p in
        picked_one _ _ (λ q. Chosen F before v t w (told_hand t h) q h.work) (exact_one _ _) (λ q. chosen_one w (told_hand t h) q h.work)

    takes_one : (h : Hand V) (p : Pair V) (strikes took : ℕ) → One (Takes F before v t h p strikes took)
    takes_one h p strikes took = picked_one _ _ _ (exact_one _ _) (λ q. exact_one _ _)

    -- a telegram counts or does not
    counts_one : (on : ℕ) (counted : ℕ) (A : Result Delivered Refusal → View V → Type 0) → One A
        → One (λ r w. ((on ≡ t.job) × (Member t.cabinet counted → ⊥) × A r w) ⊎ (((on ≡ t.job → ⊥) ⊎ Member t.cabinet counted) × Answer F before v t answer.Nothing v r w))
    counts_one on counted A one =
        either_one _ _ (λ r s w x a b. one r s w x a.2 b.2) (λ r s w x a b. exact_one _ _ r s w x a.1 b.1)
        (λ r s w x a b. ⊎_elim (λ ne. ne a.0) (λ m. a.1 m) b.0)

    at_station_one : (h : Hand V) (stage : Stage V) (k : TelegramKind V) → One (AtStation F before v t h stage k)
    at_station_one h Querying (Told p) = counts_one _ _ _ (tells_one h p)
    at_station_one h (Setting p strikes took) Took = counts_one _ _ _ (takes_one h p strikes took)
    at_station_one h Querying Query = exact_one _ _
    at_station_one h Querying (Set p) = exact_one _ _
    at_station_one h Querying Took = exact_one _ _
    at_station_one h (Setting p strikes took) Query = exact_one _ _
    at_station_one h (Setting p strikes took) (Told u) = exact_one _ _
    at_station_one h (Setting p strikes took) (Set u) = exact_one _ _
    at_station_one h (Ended p trips strikes) k = exact_one _ _
    at_station_one h Spent k = exact_one _ _

    at_hand_one : (hand : Option (Hand V)) → One (AtHand F before v t hand)
    at_hand_one None = exact_one _ _
    at_hand_one (Some h) = at_station_one h h.stage t.kind

    handed_one : (k : TelegramKind V) → One (Handed F before v t k)
    handed_one Query r s2 w x a b = exact_one _ _ r s2 w x a b
    handed_one (Set p) r s2 w x a b =
        (a.0 ∙ sym b.0, a.1.2 ∙ ap (λ (z : View V). send z (reply t Took ∷ [])) (stored_same v t.cabinet p a.1.0 b.1.0 a.1.1 b.1.1) ∙ sym b.1.2)
    handed_one (Told p) r s2 w x a b = at_hand_one (hand_of v t.station) r s2 w x a b
    handed_one Took r s2 w x a b = at_hand_one (hand_of v t.station) r s2 w x a b

  delivers_one : (F : ℕ → Type 0) (v : View V) (place : ℕ) → One (Delivers F v place)
  delivers_one F v place =
      refuse_or 7 (omega arith) v _ _ (λ r w p. p.1)
      (refuse_or 1 (omega arith) v _ _ (λ r w p. p.3)
      (λ r s w x p q.
      at_one (λ (t : Telegram V). Handed F v (with_bus v (remove v.bus place)) t t.kind) p.0 q.0 (same_Some _ _ (sym p.1 ∙ q.1))
      (handed_one F v (with_bus v (remove v.bus place)) p.0 p.0.kind) r s w x p.3 q.3)
      (λ r s w x p q. p.2 (subst (Fits v) (same_Some _ _ (sym q.1 ∙ p.1)) q.2)))
      (λ r s w x p. ⊎_elim (λ q. omega (arith, p.0, slice_get_within v.bus place _ q.1)) (λ q. omega (arith, p.0, slice_get_within v.bus place _ q.1)))

pub one_result : (V : Type 0) (F : ℕ → Type 0) → OneResult V F
one_result V F = record {
  begin = begins_one;
  deliver = delivers_one F;
  lose = loses_one;
  double = doubles_one;
  collect = collects_one;
  give_up = gives_up_one;
  shelve = shelves_one;
  claim = claims_one;
}
