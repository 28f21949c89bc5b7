-- The latest tag of the members so far.
use Rattle.std.specs.Option.{option_cmp}
use Rattle.std.specs.Ordering.{is_lt, ord_max}
use Rattle.words.specs.contracts.tag.TagOrd.TheImpl as ord
use Rattle.std.proofs.Common.{◌≡◌, ℕ, ◌+◌, ◌<◌, ◌⊎◌, List, Some, None, Option, sym, ◌∙◌, subst, ⊎_elim, arith, MatchOption, Bool, true, false, cond, inl, inr, refl}
use Rattle.std.proofs.lemmas.Bool.{cases_lt}
use Rattle.words.specs.declared.tag.Tag.{Tag}
use Rattle.words.specs.Tags.{Upto}
use Rattle.words.proofs.TagOrders.{before_upto, less_before, not_less_upto, tag_order, upto_refl}
use Rattle.quorums.specs.Sets.{Member}
use Rattle.views.specs.Views.{told, Held, Latest}

module _ (tags : List Tag) (set : ℕ) where
  abbrev pub Top : ℕ → Option Tag → Type 0
  Top n None = (k : ℕ) → k < n → Member k set → ⊥
  Top n (Some t) = Held tags set t × ((k : ℕ) → k < n → Member k set → Upto (told tags k) t)

  -- a member more, of the tag t; r is the later of it and the best so far
  pub top_more : (n : ℕ) (best : Option Tag) (t r : Tag) → Top n best → Member n set → told tags n ≡ t → Upto t r → MatchOption best (r ≡ t) (λ b. Upto b r × ((r ≡ b) ⊎ (r ≡ t))) → Top (n + 1) (Some r)
  top_more n None t r top m e up is = (
    (n, m, e ∙ sym is),
    λ k h mk. ⊎_elim (λ l. absurd (top k l mk)) (λ l. let at : n ≡ k = omega arith in subst (λ (j : ℕ). Upto (told tags j) r) at (subst (λ (u : Tag). Upto u r) (sym e) up)) (cases_lt k n),
  )
  top_more n (Some b) t r top m e up is = (
    ⊎_elim (λ old. (top.0.0, top.0.1, top.0.2 ∙ sym old)) (λ new. (n, m, e ∙ sym new)) is.1,
    λ k h mk.
        ⊎_elim (λ l. tag_order.through (told tags k) b r (top.1 k l mk) is.0)
        (λ l. let at : n ≡ k = omega arith in subst (λ (j : ℕ). Upto (told tags j) r) at (subst (λ (u : Tag). Upto u r) (sym e) up)) (cases_lt k n),
  )

  top_less : (n : ℕ) (b t : Tag) (less : Bool) → is_lt (ord.cmp-value.it t b) ≡ less → Top n (Some b) → Member n set → told tags n ≡ t → Top (n + 1) (cond less (Some b) (Some t))
  top_less n b t true e top m is = top_more n (Some b) t b top m is (before_upto t b (less_before t b e)) (upto_refl b, inl refl)
  top_less n b t false e top m is = top_more n (Some b) t t top m is (upto_refl t) (not_less_upto t b e, inr refl)

  pub top_max : (n : ℕ) (best : Option Tag) (t : Tag) → Top n best → Member n set → told tags n ≡ t → Top (n + 1) (ord_max (option_cmp ord.cmp-value.it) best (Some t))
  top_max n None t top m is = top_more n None t t top m is (upto_refl t) refl
  top_max n (Some b) t top m is = top_less n b t (is_lt (ord.cmp-value.it t b)) refl top m is

  -- no member more
  pub top_same : (n : ℕ) (best : Option Tag) → Top n best → (Member n set → ⊥) → Top (n + 1) best
  top_same n None top out = λ k h m. ⊎_elim (λ l. top k l m) (λ l. let at : k ≡ n = omega arith in out (subst (λ (j : ℕ). Member j set) at m)) (cases_lt k n)
  top_same n (Some b) top out = (
    top.0,
    λ k h m. ⊎_elim (λ l. top.1 k l m) (λ l. let at : k ≡ n = omega arith in absurd (out (subst (λ (j : ℕ). Member j set) at m))) (cases_lt k n),
  )

  -- all members are below 16
  pub top_all : (best : Option Tag) → ((k : ℕ) → Member k set → k < 16) → Top 16 best → MatchOption best ((k : ℕ) → Member k set → ⊥) (λ t. Held tags set t × Latest tags set t)
  top_all None below top = λ k m. top k (below k m) m
  top_all (Some b) below top = (top.0, λ k m. top.1 k (below k m) m)
