-- What one more telling does to the answers that are live.
use Rattle.std.proofs.Common.{◌≡◌, ℕ, zero, suc, ◌+◌, ◌-◌, ◌*◌, ◌/◌, ◌%◌, ◌^◌, ◌<◌, ◌≤◌, cond, eqb, ltb, List, [], ◌∷◌, length, set, Some, None, Option, sym, refl, ap, ◌∙◌, subst, ⊎_elim, arith}
use lib.Bits.{bit_or}
use Rattle.std.specs.List.{slice_get}
use Rattle.std.proofs.lemmas.List.{get_or-set_same, length-set}
use Rattle.std.proofs.lemmas.Option.{slice_get-get_or}
use Rattle.std.proofs.lemmas.Nat.{div-mul-add, mod-mul-add, mul-add-lt}
use Rattle.std.proofs.lemmas.Bool.{cases_eq, cases_lt, cond-false, cond-true, eq-eqb, le-ltb, lt-ltb}
use Rattle.telegrams.specs.declared.Pair.{Pair}
use Rattle.quorums.specs.Sets.{Member}
use Rattle.quorums.specs.Members.{bit_of_or, member_or_not, only_member, with_member}
use Rattle.line.specs.declared.types.Hand.{Hand}
use Rattle.line.specs.declared.types.Station.{Station}
use Rattle.line.specs.Lines.{put, station_at}
use Rattle.line.specs.Seen.{answers_of, live_in_line}
use Rattle.line.proofs.Keeps.{put_here, put_other}
use Rattle.calls.proofs.Live.{own_answers}

nth_set_other : {X : Type 0} (xs : List X) (i j : ℕ) (x : X) → (j ≡ i → ⊥) → slice_get (set xs i x) j ≡ slice_get xs j
nth_set_other [] i j x ne = refl
nth_set_other (y ∷ xs) zero zero x ne = absurd (ne refl)
nth_set_other (y ∷ xs) zero (suc j) x ne = refl
nth_set_other (y ∷ xs) (suc i) zero x ne = refl
nth_set_other (y ∷ xs) (suc i) (suc j) x ne = nth_set_other xs i j x (λ e. ne (omega arith))

-- each cabinet of each station has a place of its own
own_place : (n s r c x : ℕ) → 1 ≤ s → 1 ≤ r → c < n → x < n → (r - 1) * n + x ≡ (s - 1) * n + c → (r ≡ s) × (x ≡ c)
own_place n s r c x one-s one_r below-c below-x e =
    let rows : r - 1 ≡ s - 1 = sym (div-mul-add (r - 1) n x below-x) ∙ ap (λ (k : ℕ). k / n) e ∙ div-mul-add (s - 1) n c below-c in
    (omega arith, sym (mod-mul-add (r - 1) n x below-x) ∙ ap (λ (k : ℕ). k % n) e ∙ mod-mul-add (s - 1) n c below-c)

pub within_answers : (n m row c long : ℕ) → row < m → c < n → long ≡ n * m → row * n + c < long
within_answers n m row c long r l e = omega (arith, mul-add-lt row n c m r l)

-- a set with k has the other members that it had
other_bit : (s k j : ℕ) → (j ≡ k → ⊥) → bit_or s (2 ^ k) / 2 ^ j % 2 ≡ s / 2 ^ j % 2
other_bit s k j ne =
    let none : 2 ^ k / 2 ^ j % 2 ≡ 0 = ⊎_elim (λ m. absurd (ne (only_member k j m))) (λ z. z) (member_or_not j (2 ^ k)) in
    bit_of_or s (2 ^ k) j ∙ omega arith

module _ {V : Type 0} (n : ℕ) (answers : List (Pair V)) (stations : List (Station V)) (s c : ℕ) (one : 1 ≤ s) (few : s ≤ length stations) (below : c < n) (wide : (s - 1) * n + c < length answers) (pair : Pair V) where
  abbrev told_answers : List (Pair V)
  told_answers = set answers ((s - 1) * n + c) pair

  -- another place
  place_kept : (r x : ℕ) → 1 ≤ r → x < n → ((r ≡ s) × (x ≡ c) → ⊥) → slice_get told_answers ((r - 1) * n + x) ≡ slice_get answers ((r - 1) * n + x)
  place_kept r x one_r below-x ne =
      nth_set_other answers ((s - 1) * n + c) ((r - 1) * n + x) pair (λ e. ne (own_place n s r c x one one_r below below-x e))

  live_kept : (r x : ℕ) → 1 ≤ r → ((r ≡ s) × (x ≡ c) → ⊥) → (hand : Option (Hand V)) → live_in_line n told_answers r x hand ≡ live_in_line n answers r x hand
  live_kept r x one_r ne None = refl
  live_kept r x one_r ne (Some h) =
      ⊎_elim
      (λ l. ap (λ (a : Option (Pair V)). cond (ltb x n) (cond (eqb (h.told / 2 ^ x % 2) 1) a None) None) (place_kept r x one_r l ne))
      (λ past. cond-false (ltb x n) _ None (le-ltb x n past) ∙ sym (cond-false (ltb x n) _ None (le-ltb x n past))) (cases_lt x n)

  -- another station's answers
  others_kept : (r x : ℕ) → (r ≡ s → ⊥) → answers_of stations n told_answers r x ≡ answers_of stations n answers r x
  others_kept r x ne =
      ⊎_elim (λ none. subst (λ (k : ℕ). answers_of stations n told_answers k x ≡ answers_of stations n answers k x) (sym none) refl)
      (λ some.
      let one_r : 1 ≤ r = omega arith in
      ap (λ (a : Option (Pair V)). cond (ltb 0 r) a None) (live_kept r x one_r (λ both. ne both.0) (station_at stations r).hand))
      (cases_eq r 0)

  -- with the station's answers put down, all are as before
  pub others_told : (f : ℕ → Option (Pair V)) (r x : ℕ) → put (answers_of stations n told_answers) s f r x ≡ put (answers_of stations n answers) s f r x
  others_told f r x =
      ⊎_elim
      (λ here.
      subst (λ (k : ℕ). put (answers_of stations n told_answers) s f k x ≡ put (answers_of stations n answers) s f k x) (sym here)
      (ap (λ (g : ℕ → Option (Pair V)). g x) (put_here (answers_of stations n told_answers) s f ∙ sym (put_here (answers_of stations n answers) s f))))
      (λ there.
      ap (λ (g : ℕ → Option (Pair V)). g x) (put_other (answers_of stations n told_answers) s f r there)
      ∙ others_kept r x there ∙ sym (ap (λ (g : ℕ → Option (Pair V)). g x) (put_other (answers_of stations n answers) s f r there)))
      (cases_eq r s)

  module _ (h hand : Hand V) (held : (station_at stations s).hand ≡ Some h) (told : hand.told ≡ bit_or h.told (2 ^ c)) where
    -- the station's answers, with the one more
    pub own_told : (x : ℕ) → live_in_line n told_answers s x (Some hand) ≡ put (answers_of stations n answers s) c (Some pair) x
    own_told x =
        ⊎_elim
        (λ here.
        subst (λ (k : ℕ). live_in_line n told_answers s k (Some hand) ≡ put (answers_of stations n answers s) c (Some pair) k) (sym here)
        (cond-true (ltb c n) _ None (lt-ltb c n below)
        ∙ cond-true (eqb (hand.told / 2 ^ c % 2) 1) _ None (eq-eqb (hand.told / 2 ^ c % 2) 1 (subst (Member c) (sym told) (with_member h.told c)))
        ∙ slice_get-get_or told_answers ((s - 1) * n + c) pair (omega (arith, length-set answers ((s - 1) * n + c) pair))
        ∙ ap Some (get_or-set_same answers ((s - 1) * n + c) pair pair wide) ∙ sym (put_here (answers_of stations n answers s) c (Some pair))))
        (λ there.
        live_kept s x one (λ both. there both.1) (Some hand)
        ∙ ap (λ (b : ℕ). cond (ltb x n) (cond (eqb b 1) (slice_get answers ((s - 1) * n + x)) None) None) (ap (λ (t : ℕ). t / 2 ^ x % 2) told ∙ other_bit h.told c x there)
        ∙ ap (live_in_line n answers s x) (sym held) ∙ sym (own_answers stations n answers s x one) ∙ sym (put_other (answers_of stations n answers s) c (Some pair) x there))
        (cases_eq x c)
