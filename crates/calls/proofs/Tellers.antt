-- Tellings of a quorum's members, place by place.
use Rattle.std.proofs.Common.{◌≡◌, ℕ, ◌+◌, ◌<◌, ◌≤◌, max, ◌⊎◌, List, map, length, Some, None, Option, MatchOption, sym, ap, ◌∙◌, subst, inl, inr, ⊎_elim, arith}
use Rattle.std.specs.List.{slice_get}
use Rattle.std.specs.Option.{option_map}
use Rattle.std.proofs.lemmas.Bool.{cases_lt}
use Rattle.std.proofs.lemmas.Option.{get_or_from_slice_get, none-some, same_Some, slice_get-map, slice_get_within}
use borrow.Author.Count.{below_more}
use Rattle.words.specs.declared.tag.Tag.{Tag}
use Rattle.telegrams.specs.declared.Pair.{Pair}
use Rattle.telegrams.specs.declared.Telegram.{Telegram}
use Rattle.views.specs.Views.{Held}
use Rattle.line.specs.Lines.{View, put, size, tag_of}
use Rattle.std.proofs.lemmas.List.FromFn.{length-map-range_with_len}
use Rattle.calls.specs.Changes.{told_list}
use Rattle.calls.specs.Choices.{AllTold, Tells}
use Rattle.calls.proofs.Chosen.{nth_counted}

module _ {V : Type 0} (told : List (Option (Pair V))) (q : ℕ) where
  -- a member told one pair
  pub told_once : (k : ℕ) (p u : Pair V) → Tells told q k p → Tells told q k u → p ≡ u
  told_once k p u x y = same_Some _ _ (same_Some _ _ (sym x.1 ∙ y.1))

  -- where nothing was read of a member, it told nothing
  pub none_told : (k : ℕ) (o : Option (Pair V)) → MatchOption o ((p : Pair V) → Tells told q k p → ⊥) (Tells told q k) → o ≡ None → (p : Pair V) → Tells told q k p → ⊥
  none_told k None m e = m
  none_told k (Some x) m e = absurd (none-some x (sym e))

  pub told_below : (k : ℕ) (p : Pair V) → Tells told q k p → k < length told
  told_below k p tells = slice_get_within told k (Some p) tells.1

  -- a tag that some member told
  pub holder_told : AllTold told q → (tag : Tag) → Held (map tag_of told) q tag → (k : ℕ) × (p : Pair V) × Tells told q k p × (p.tag ≡ tag)
  holder_told all tag (k, member, e) =
      let x = all k member in
      (k, x.0, (member, x.1), sym (get_or_from_slice_get (map tag_of told) k x.0.tag (record { count = 0; owner = 0 }) (slice_get-map tag_of told k ∙ ap (option_map tag_of) x.1)) ∙ e)

  -- the greatest of the station's own last count and the counts of members below i
  abbrev pub GreatestBelow : ℕ → ℕ → ℕ → Type 0
  GreatestBelow i last g =
      (last ≤ g) × ((k : ℕ) → k < i → (p : Pair V) → Tells told q k p → p.tag.count ≤ g)
      × ((last ≡ g) ⊎ ((k : ℕ) × (p : Pair V) × Tells told q k p × (p.tag.count ≡ g)))

  -- one more, which is no member
  pub greatest_kept : (i last g : ℕ) → GreatestBelow i last g → ((p : Pair V) → Tells told q i p → ⊥) → GreatestBelow (i + 1) last g
  greatest_kept i last g so_far none =
      (so_far.0, below_more (λ (k : ℕ). (p : Pair V) → Tells told q k p → p.tag.count ≤ g) i so_far.1 (λ p tells. absurd (none p tells)), so_far.2)

  -- one more, which is a member
  pub greatest_more : (i last g r : ℕ) (p : Pair V) → GreatestBelow i last g → Tells told q i p → r ≡ max g p.tag.count → GreatestBelow (i + 1) last r
  greatest_more i last g r p so_far here is = (
    omega (arith, so_far.0),
    below_more (λ (k : ℕ). (u : Pair V) → Tells told q k u → u.tag.count ≤ r) i (λ k l u tells. omega (arith, so_far.1 k l u tells))
        (λ u tells. omega (arith, ap (λ (x : Pair V). x.tag.count) (told_once i u p tells here))),
    ⊎_elim (λ less. inr (i, p, here, omega arith))
        (λ more.
        let same : r ≡ g = omega arith in
        ⊎_elim (λ e. inl (e ∙ sym same)) (λ x. inr (x.0, x.1, x.2, x.3 ∙ sym same)) so_far.2) (cases_lt g p.tag.count),
  )

-- as many places as there are cabinets
pub told_length : {V : Type 0} (v : View V) (t : Telegram V) (p : Pair V) → length (told_list v t p) ≡ size v
told_length v t p = length-map-range_with_len (put (v.answers t.station) t.cabinet (Some p)) 0 (size v)

-- what a cabinet told
pub told_at : {V : Type 0} (v : View V) (t : Telegram V) (p : Pair V) (told : List (Option (Pair V))) (k : ℕ) → told_list v t p ≡ told → k < length told → slice_get told k ≡ Some (put (v.answers t.station) t.cabinet (Some p) k)
told_at v t p told k is l =
    let f = put (v.answers t.station) t.cabinet (Some p) in
    subst (λ xs. slice_get xs k ≡ Some (f k)) is (nth_counted f (size v) k (omega (arith, told_length v t p, ap length is)))
