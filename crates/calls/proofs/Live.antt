-- What a change of one station's record does to the answers that are live.
use Rattle.std.proofs.Common.{◌≡◌, ℕ, ◌+◌, ◌-◌, ◌*◌, ◌/◌, ◌%◌, ◌^◌, ◌≤◌, Bool, false, cond, eqb, ltb, List, length, set, Some, None, Option, sym, refl, ap, ◌∙◌, subst, ⊎_elim, arith}
use Rattle.std.specs.List.{slice_get}
use Rattle.std.proofs.lemmas.List.{get_or-set_other, get_or-set_same}
use Rattle.std.proofs.lemmas.Bool.{cases_eq, cond-true, lt-ltb, ne_eqb}
use Rattle.telegrams.specs.declared.Pair.{Pair}
use Rattle.line.specs.declared.types.Hand.{Hand}
use Rattle.line.specs.declared.types.Station.{Station}
use Rattle.line.specs.Lines.{idle, put, station_at}
use Rattle.line.specs.Seen.{answers_of, live_in_line}
use Rattle.line.proofs.Keeps.{no_member, put_here, put_other}
use Rattle.calls.proofs.Views.{either}

module _ {V : Type 0} where
  -- the answers of a station of the line
  pub own_answers : (stations : List (Station V)) (n : ℕ) (answers : List (Pair V)) (s c : ℕ) → 1 ≤ s → answers_of stations n answers s c ≡ live_in_line n answers s c (station_at stations s).hand
  own_answers stations n answers s c one = cond-true (ltb 0 s) (live_in_line n answers s c (station_at stations s).hand) None (lt-ltb 0 s (omega arith))

  module _ (n : ℕ) (answers : List (Pair V)) (stations : List (Station V)) (s : ℕ) (one : 1 ≤ s) (few : s ≤ length stations) (st : Station V) where
    -- another station's hand
    others : (r c : ℕ) → (r ≡ s → ⊥) → answers_of (set stations (s - 1) st) n answers r c ≡ answers_of stations n answers r c
    others r c ne =
        ⊎_elim (λ zero_r. subst (λ (k : ℕ). answers_of (set stations (s - 1) st) n answers k c ≡ answers_of stations n answers k c) (sym zero_r) refl)
        (λ some_r. ap (λ (z : Station V). cond (ltb 0 r) (live_in_line n answers r c z.hand) None) (get_or-set_other stations (s - 1) (r - 1) st idle (λ e. ne (omega arith))))
        (cases_eq r 0)

    pub answers_changed : (f : ℕ → Option (Pair V)) → ((c : ℕ) → live_in_line n answers s c st.hand ≡ f c) → (after : List (Station V)) → after ≡ set stations (s - 1) st → (r c : ℕ) → answers_of after n answers r c ≡ put (answers_of stations n answers) s f r c
    answers_changed f fits after is r c =
        ap (λ (xs : List (Station V)). answers_of xs n answers r c) is
        ∙ ⊎_elim
        (λ here.
        subst (λ (k : ℕ). answers_of (set stations (s - 1) st) n answers k c ≡ put (answers_of stations n answers) s f k c) (sym here)
        (own_answers (set stations (s - 1) st) n answers s c one
        ∙ ap (λ (z : Station V). live_in_line n answers s c z.hand) (get_or-set_same stations (s - 1) st idle (omega arith))
        ∙ fits c ∙ sym (ap (λ (g : ℕ → Option (Pair V)). g c) (put_here (answers_of stations n answers) s f))))
        (λ there. others r c there ∙ sym (ap (λ (g : ℕ → Option (Pair V)). g c) (put_other (answers_of stations n answers) s f r there)))
        (cases_eq r s)

  -- the same cabinets have told
  pub same_told : (n : ℕ) (answers : List (Pair V)) (s c : ℕ) (h k : Hand V) → h.told ≡ k.told → live_in_line n answers s c (Some h) ≡ live_in_line n answers s c (Some k)
  same_told n answers s c h k e = ap (λ (told : ℕ). cond (ltb c n) (cond (eqb (told / 2 ^ c % 2) 1) (slice_get answers ((s - 1) * n + c)) None) None) e

  -- no cabinet has told
  pub none_told : (n : ℕ) (answers : List (Pair V)) (s c : ℕ) (h : Hand V) → h.told ≡ 0 → live_in_line n answers s c (Some h) ≡ None
  none_told n answers s c h e =
      let off : eqb (h.told / 2 ^ c % 2) 1 ≡ false = ne_eqb (h.told / 2 ^ c % 2) 1 (λ one. no_member c (subst (λ (told : ℕ). told / 2 ^ c % 2 ≡ 1) e one)) in
      ap (λ (b : Bool). cond (ltb c n) (cond b (slice_get answers ((s - 1) * n + c)) None) None) off ∙ either (ltb c n) None
