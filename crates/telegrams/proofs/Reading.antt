-- The words of a telegram as the reader meets them: head, tag, and the value's own part.
use Rattle.std.proofs.Common.{◌≡◌, ℕ, zero, suc, ◌/◌, ◌%◌, ◌^◌, ◌<◌, ◌≤◌, min, Bool, true, false, cond, ◌&&◌, eqb, leb, List, [], ◌∷◌, ◌++◌, length, get_or, take, drop, Ok, Err, Result, sym, refl, ap, subst, ⊎_elim, arith}
use Rattle.std.proofs.lemmas.List.{take_all}
use Rattle.std.proofs.lemmas.Bool.{cases_lt, cond-true, eq-eqb, le-leb, and_from}
use Rattle.std.proofs.lemmas.Bool.Decides.{nat_tests}
use Rattle.std.specs.Result.{IsErrAnd, MatchResult}
use Rattle.words.specs.Judged.{judged, verdict, Faulted}
use Rattle.words.specs.Refusals.{shifted}
use Rattle.telegrams.specs.Telegrams.{IsHead, head_judge, owner_judge, tag_judges}
use Rattle.words.specs.Words.{head_word, kind_of, kind_judge, marked}
use Rattle.words.specs.declared.refusal.Refusal.{Refusal}
use Rattle.words.specs.declared.refusal.Refusal.TheVariants.{BadWord}
use Rattle.words.specs.declared.word.Head.{Head}
use Rattle.words.specs.Judging.{behind, first, judged_long}
use Rattle.telegrams.proofs.TagWords.{clean_2, clean_3}

-- owners
bad_and : (t u : Bool) → ◌≡◌ {A = ℕ} (cond t 0 10) 10 → ◌≡◌ {A = ℕ} (cond (t && u) 0 10) 10
bad_and true u e = absurd (omega arith)
bad_and false u e = refl

pub owner_kind : (ws : List ℕ) (k : ℕ) → verdict (kind_judge 6) ws k ≡ 10 → verdict owner_judge ws k ≡ 10
owner_kind [] k e = refl
owner_kind (w ∷ ws) zero e = bad_and (eqb (kind_of w) 6) (leb (w % 2 ^ 28) 32) e
owner_kind (w ∷ ws) (suc k) e = owner_kind ws k e

pub owner_low : (w b : ℕ) → marked 6 b ≡ w → b ≤ 32 → owner_judge w ≡ 0
owner_low w b e l =
    cond-true (eqb (kind_of w) 6 && leb (w % 2 ^ 28) 32) 0 10
    (and_from (eqb (kind_of w) 6) (leb (w % 2 ^ 28) 32) (eq-eqb (kind_of w) 6 (omega arith)) (le-leb (w % 2 ^ 28) 32 (omega arith)))

-- the part of the words that a value's reader gets is judged as the words are
pub judged_take : (js : List (ℕ → ℕ)) (ws : List ℕ) (n : ℕ) → length js ≤ n → judged js (take n ws) ≡ judged js ws
judged_take [] ws n h = refl
judged_take (j ∷ js) ws zero h = absurd (omega arith)
judged_take (j ∷ js) [] (suc n) h = refl
judged_take (j ∷ js) (w ∷ ws) (suc n) h = ap (λ (vs : List ℕ). j w ∷ vs) (judged_take js ws n (omega arith))

module _ (js : List (ℕ → ℕ)) where
  pub judged_part : (ws : List ℕ) (n : ℕ) → min (length js) (length ws) ≤ n → judged js (take n ws) ≡ judged js ws
  judged_part ws n h =
      ⊎_elim (λ l. ap (judged js) (take_all n ws (omega arith))) (λ l. judged_take js ws n l) (cases_lt n (length js))

  -- faults behind a good head, by place
  abbrev pub after_head : List ℕ → List ℕ
  after_head ws = 0 ∷ judged (tag_judges ++ js) (drop 1 ws)

  pub at_owner : (ws : List ℕ) → 1 < length ws → kind_judge 5 (get_or ws 1 0) ≡ 0 → verdict owner_judge ws 2 ≡ 10 → Faulted (after_head ws) (BadWord 2)
  at_owner [] l c e = absurd (omega arith)
  at_owner (w ∷ []) l c e = absurd (omega arith)
  at_owner (w ∷ a ∷ []) l c e = first (0 ∷ kind_judge 5 a ∷ []) 10 _ (BadWord 2) (clean_2 0 (kind_judge 5 a) refl c) refl refl
  at_owner (w ∷ a ∷ b ∷ ws) l c e = first (0 ∷ kind_judge 5 a ∷ []) (owner_judge b) _ (BadWord 2) (clean_2 0 (kind_judge 5 a) refl c) e refl

  pub at_value : (ws : List ℕ) (e : Refusal) → 2 < length ws → kind_judge 5 (get_or ws 1 0) ≡ 0 → owner_judge (get_or ws 2 0) ≡ 0 → length js < 2 ^ 16 → Faulted (judged js (drop 3 ws)) e → Faulted (after_head ws) (shifted 3 e)
  at_value [] e l c o few f = absurd (omega arith)
  at_value (w ∷ []) e l c o few f = absurd (omega arith)
  at_value (w ∷ a ∷ []) e l c o few f = absurd (omega arith)
  at_value (w ∷ a ∷ b ∷ ws) e l c o few f =
      behind (0 ∷ kind_judge 5 a ∷ owner_judge b ∷ []) (judged js ws) e (clean_3 0 (kind_judge 5 a) (owner_judge b) refl c o)
      (omega (arith, judged_long js ws)) f

-- what a part of the words is read as, where a closure counts its refusal from three words further back
pub handed_on : {X : Type 0} (Q : X → Type 0) (G : Refusal → Type 0) (R : Refusal → Refusal → Type 0) (r s : Result X Refusal) {P : X → Type 0} {F : Refusal → Type 0} → MatchResult r (λ x. s ≡ Ok x) (λ e. IsErrAnd s (R e)) → MatchResult r P F → ((e d : Refusal) → R e d → d ≡ shifted 3 e) → ((x : X) → P x → Q x) → ((e : Refusal) → F e → G (shifted 3 e)) → MatchResult s Q G
handed_on Q G R (Ok x) s m h by p f = subst (λ u. MatchResult u Q G) (sym m) (p x h)
handed_on Q G R (Err e) (Ok x) m h by p f = absurd m
handed_on Q G R (Err e) (Err d) m h by p f = subst G (sym (by e d m)) (f e h)

-- heads
module _ (h : Head) (cabinet : h.cabinet < 16) (station : h.station < 256) (job : h.job < 2 ^ 16) where
  pub head_good : (w : ℕ) → head_word h ≡ w → IsHead h → head_judge w ≡ 0
  head_good w e is =
      let k : kind_of w ≡ h.kind = omega arith in
      let s : w / 2 ^ 16 % 2 ^ 8 ≡ h.station = omega arith in
      let j : w % 2 ^ 16 ≡ h.job = omega arith in
      rw (k, s, j) (grind (arith, nat_tests))
