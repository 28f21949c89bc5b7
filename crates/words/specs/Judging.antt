-- What stands at a place of a list of judgements, and faults that lie behind clean places.
use Rattle.std.specs.Prelude.{◌≡◌, ℕ, zero, suc, ◌+◌, ◌-◌, ◌^◌, ◌<◌, ◌≤◌, min, List, [], ◌∷◌, ◌++◌, map, length, ◌==◌, ◌≢◌, slice_index, slice_index_or, refl}
use Rattle.std.proofs.Common.{◌∙◌, sym, ap, ⊎_elim, arith, lit<}
use Rattle.std.proofs.lemmas.List.{get_or-append-add, get_or_append_left, get_or_at, get_or-append_right, get_or-map, get_or_past, length-map}
use Rattle.std.proofs.lemmas.Bool.{cases_lt, cond-true, cond-false, eq-eqb, ne_eqb}
use Rattle.words.specs.Judged.{judged, verdict, Clean, Faulted}
use Rattle.words.specs.Refusals.{number, carried, shifted}
use Rattle.words.specs.Words.{kind_of, kind_judge, marked}
use Rattle.words.specs.declared.refusal.Refusal.{Refusal}
use Rattle.words.specs.declared.refusal.Refusal.TheVariants.{BadPlan, LooseCrews, NoStation, HandsFull, BusFull, BookFull, NoTelegram, NotOver, StrangeTicket, BadWord, BadValue, BadTape, ShortStrip}

-- each word has the verdict of its own judge
pub judged_at : (d : ℕ → ℕ) (js : List (ℕ → ℕ)) (ws : List ℕ) (k : ℕ) → k < length js → slice_index (judged js ws) k ≡ verdict (slice_index_or js k d) ws k
judged_at d [] ws k h = absurd (omega arith)
judged_at d (j ∷ js) [] zero h = refl
judged_at d (j ∷ js) [] (suc k) h = judged_at d js [] k (omega arith)
judged_at d (j ∷ js) (w ∷ ws) zero h = refl
judged_at d (j ∷ js) (w ∷ ws) (suc k) h = judged_at d js ws k (omega arith)

pub judged_long : (js : List (ℕ → ℕ)) (ws : List ℕ) → length (judged js ws) ≡ length js
judged_long [] ws = refl
judged_long (j ∷ js) [] = ap suc (judged_long js [])
judged_long (j ∷ js) (w ∷ ws) = ap suc (judged_long js ws)

-- a word of the kind that is asked for is good
pub of_kind : (kind bits w : ℕ) → bits < 2 ^ 28 → marked kind bits ≡ w → kind_judge kind w ≡ 0
of_kind kind bits w h e = cond-true (kind_of w == kind) 0 10 (eq-eqb (kind_of w) kind (omega arith))

pub other_kind : (kind w : ℕ) → (kind_of w ≢ kind) → kind_judge kind w ≡ 10
other_kind kind w h = cond-false (kind_of w == kind) 0 10 (ne_eqb (kind_of w) kind h)

pub verdict_at : (j : ℕ → ℕ) (ws : List ℕ) (k : ℕ) → k < length ws → verdict j ws k ≡ j (slice_index ws k)
verdict_at j ws k h = get_or-map j ws k 0 10 h

pub verdict_missing : (j : ℕ → ℕ) (ws : List ℕ) (k : ℕ) → length ws ≤ k → verdict j ws k ≡ 10
verdict_missing j ws k h = get_or_past (map j ws) k 10 (simp length-map h)

-- every refusal has a number above 0
pub number_pos : (e : Refusal) → 0 < number e
number_pos BadPlan = lit< tt
number_pos LooseCrews = lit< tt
number_pos NoStation = lit< tt
number_pos HandsFull = lit< tt
number_pos BusFull = lit< tt
number_pos BookFull = lit< tt
number_pos NoTelegram = lit< tt
number_pos NotOver = lit< tt
number_pos StrangeTicket = lit< tt
number_pos (BadWord place) = lit< tt
number_pos (BadValue place) = lit< tt
number_pos (BadTape inner place) = lit< tt
number_pos ShortStrip = lit< tt

-- what has a fault is not clean
pub not_clean : {fs : List ℕ} {e : Refusal} → Clean fs → Faulted fs e → ⊥
not_clean {fs} {e} clean f = omega (arith, clean f.place, f.at, number_pos e)

pub near : {fs : List ℕ} {e : Refusal} → (f : Faulted fs e) → f.place < length fs
near {fs} {e} f =
    ⊎_elim (λ h. h) (λ h. absurd (omega (arith, get_or_past fs f.place 0 h, f.at, number_pos e)))
    (cases_lt f.place (length fs))

shifted_number : (n : ℕ) (e : Refusal) → number (shifted n e) ≡ number e
shifted_number n BadPlan = refl
shifted_number n LooseCrews = refl
shifted_number n NoStation = refl
shifted_number n HandsFull = refl
shifted_number n BusFull = refl
shifted_number n BookFull = refl
shifted_number n NoTelegram = refl
shifted_number n NotOver = refl
shifted_number n StrangeTicket = refl
shifted_number n (BadWord place) = refl
shifted_number n (BadValue place) = refl
shifted_number n (BadTape inner place) = refl
shifted_number n ShortStrip = refl

capped : (n p q : ℕ) → p ≡ q → q + n < 2 ^ 64 → min (p + n) (2 ^ 64 - 1) ≡ n + q
capped n p q e h = omega arith

none : {p : ℕ} {A : Type 0} → ◌≡◌ {A = List ℕ} [] (p ∷ []) → A
none e = let z : ◌≡◌ {A = ℕ} 0 1 = cc in absurd (omega arith)

shifted_place : (n p : ℕ) (e : Refusal) → p + n < 2 ^ 64 → carried e ≡ p ∷ [] → carried (shifted n e) ≡ (n + p) ∷ []
shifted_place n p BadPlan h c = none c
shifted_place n p LooseCrews h c = none c
shifted_place n p NoStation h c = none c
shifted_place n p HandsFull h c = none c
shifted_place n p BusFull h c = none c
shifted_place n p BookFull h c = none c
shifted_place n p NoTelegram h c = none c
shifted_place n p NotOver h c = none c
shifted_place n p StrangeTicket h c = none c
shifted_place n p (BadWord place) h c = let same : place ≡ p = cc in ap (λ (k : ℕ). k ∷ []) (capped n place p same h)
shifted_place n p (BadValue place) h c = let same : place ≡ p = cc in ap (λ (k : ℕ). k ∷ []) (capped n place p same h)
shifted_place n p (BadTape inner place) h c = let z : ◌≡◌ {A = ℕ} 0 1 = cc in absurd (omega arith)
shifted_place n p ShortStrip h c = none c

-- a fault behind clean places
pub behind : (zs fs : List ℕ) (e : Refusal) → Clean zs → length zs + length fs < 2 ^ 64 → Faulted fs e → Faulted (zs ++ fs) (shifted (length zs) e)
behind zs fs e clean few f =
    let n = length zs in
    record {
      place = n + f.place;
      before = λ k h.
          ⊎_elim (λ l. get_or_append_left zs fs 0 k l ∙ clean k)
          (λ l. get_or-append_right zs fs n k 0 refl l ∙ f.before (k - n) (omega arith)) (cases_lt k n);
      at = get_or-append-add zs fs f.place 0 ∙ f.at ∙ sym (shifted_number n e);
      carries = shifted_place n f.place e (omega (arith, near f)) f.carries;
    }

pub clean_none : Clean []
clean_none k = refl

pub clean_more : (f : ℕ) (fs : List ℕ) → f ≡ 0 → Clean fs → Clean (f ∷ fs)
clean_more f fs e h zero = e
clean_more f fs e h (suc k) = h k

-- the first fault stands right behind clean places
pub first : (zs : List ℕ) (f : ℕ) (fs : List ℕ) (e : Refusal) → Clean zs → f ≡ number e → carried e ≡ length zs ∷ [] → Faulted (zs ++ f ∷ fs) e
first zs f fs e clean is carries = record {
  place = length zs;
  before = λ k h. get_or_append_left zs (f ∷ fs) 0 k h ∙ clean k;
  at = get_or_at zs f fs 0 (length zs) refl ∙ is;
  carries = carries;
}
