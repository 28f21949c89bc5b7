-- One run for each telegram, and words are read as a telegram exactly when they open with its run.
use Rattle.std.proofs.Common.{◌≡◌, ℕ, ◌≤◌, cond, List, [], ◌∷◌, ◌++◌, length, take, drop, Some, Ok, Err, Result, sym, refl, ap, ◌∙◌, subst, arith, lit≤}
use Rattle.std.proofs.lemmas.List.{take-append-drop, take_at}
use Rattle.words.specs.Judged.{judged, Clean}
use Rattle.telegrams.specs.Telegrams.{Exact, IsPair, IsTelegram, OneRun, ReadAs, head_judge, head_of, kind_number, owner_judge, pair_of, pair_run, tag_judges, telegram_judges, telegram_run, within}
use Rattle.words.specs.Words.{head_word, kind_judge, kind_of, marked}
use Rattle.words.specs.declared.refusal.Refusal.{Refusal}
use Rattle.telegrams.specs.declared.Pair.{Pair}
use Rattle.telegrams.specs.declared.Telegram.{Telegram}
use Rattle.telegrams.specs.declared.TelegramKind.{TelegramKind}
use Rattle.telegrams.specs.declared.TelegramKind.TheVariants.{Query, Told, Set, Took}
use Rattle.words.specs.Judging.{clean_more, clean_none, not_clean, of_kind}
use Rattle.telegrams.proofs.Reading.{head_good, judged_take, owner_low}

-- lists of one length that open the same list
same_front : (a b x y : List ℕ) → length a ≡ length b → a ++ x ≡ b ++ y → a ≡ b
same_front a b x y l e = sym (take_at a x (length a) refl) ∙ ap (take (length a)) e ∙ take_at b y (length a) (sym l)

module _ {V : Type 0} where
  number_small : (k : TelegramKind V) → (1 ≤ kind_number k) × (kind_number k ≤ 4)
  number_small Query = (lit≤ tt, lit≤ tt)
  number_small (Told pair) = (lit≤ tt, lit≤ tt)
  number_small (Set pair) = (lit≤ tt, lit≤ tt)
  number_small Took = (lit≤ tt, lit≤ tt)

module _ {V : Type 0} (valid : V → Type 0) (run : V → List ℕ) (judges : List (ℕ → ℕ))
    (long : (v : V) → valid v → length (run v) ≡ length judges)
    (apart : (v w : V) → valid v → valid w → run v ≡ run w → v ≡ w) where
  pairs : (p q : Pair V) (x y : List ℕ) → IsPair valid (Some p) → IsPair valid (Some q) → pair_run run (Some p) ++ x ≡ pair_run run (Some q) ++ y → p ≡ q
  pairs p q x y ip iq e =
      let counts : marked 5 p.tag.count ≡ marked 5 q.tag.count = cc in
      let owners : marked 6 p.tag.owner ≡ marked 6 q.tag.owner = cc in
      let values : run p.value ++ x ≡ run q.value ++ y = cc in
      let count : p.tag.count ≡ q.tag.count = omega arith in
      let owner : p.tag.owner ≡ q.tag.owner = omega arith in
      let front = same_front (run p.value) (run q.value) x y (long p.value ip.2 ∙ sym (long q.value iq.2)) values in
      let value = apart p.value q.value ip.2 iq.2 front in
      λ i. record { tag = record { count = count i; owner = owner i }; value = value i }

  kinds : (a b : TelegramKind V) (x y : List ℕ) → IsPair valid (pair_of a) → IsPair valid (pair_of b) → kind_number a ≡ kind_number b → pair_run run (pair_of a) ++ x ≡ pair_run run (pair_of b) ++ y → a ≡ b
  kinds Query Query x y ia ib n e = refl
  kinds Query (Told q) x y ia ib n e = absurd (omega arith)
  kinds Query (Set q) x y ia ib n e = absurd (omega arith)
  kinds Query Took x y ia ib n e = absurd (omega arith)
  kinds (Told p) Query x y ia ib n e = absurd (omega arith)
  kinds (Told p) (Told q) x y ia ib n e = ap Told (pairs p q x y ia ib e)
  kinds (Told p) (Set q) x y ia ib n e = absurd (omega arith)
  kinds (Told p) Took x y ia ib n e = absurd (omega arith)
  kinds (Set p) Query x y ia ib n e = absurd (omega arith)
  kinds (Set p) (Told q) x y ia ib n e = absurd (omega arith)
  kinds (Set p) (Set q) x y ia ib n e = ap Set (pairs p q x y ia ib e)
  kinds (Set p) Took x y ia ib n e = absurd (omega arith)
  kinds Took Query x y ia ib n e = absurd (omega arith)
  kinds Took (Told q) x y ia ib n e = absurd (omega arith)
  kinds Took (Set q) x y ia ib n e = absurd (omega arith)
  kinds Took Took x y ia ib n e = refl

  pub one_run : OneRun valid run
  one_run t u x y it iu e =
      let heads : head_word (head_of t) ≡ head_word (head_of u) = cc in
      let rest : pair_run run (pair_of t.kind) ++ x ≡ pair_run run (pair_of u.kind) ++ y = cc in
      let small = number_small t.kind in
      let small' = number_small u.kind in
      let number : kind_number t.kind ≡ kind_number u.kind = omega arith in
      let cabinet : t.cabinet ≡ u.cabinet = omega arith in
      let station : t.station ≡ u.station = omega arith in
      let job : t.job ≡ u.job = omega arith in
      let kind = kinds t.kind u.kind x y it.pair iu.pair number rest in
      λ i. record { cabinet = cabinet i; station = station i; job = job i; kind = kind i }

  module _ (good : (v : V) → valid v → Clean (judged judges (run v))) where
    values_clean : (v : V) (rest : List ℕ) → valid v → Clean (judged judges (run v ++ rest))
    values_clean v rest is =
        let same = judged_take judges (run v ++ rest) (length (run v)) (omega (arith, long v is)) in
        subst Clean (ap (judged judges) (sym (take_at (run v) rest (length (run v)) refl)) ∙ same) (good v is)

    pair_clean : (p : Pair V) (rest : List ℕ) → IsPair valid (Some p) → Clean (judged (tag_judges ++ judges) (pair_run run (Some p) ++ rest))
    pair_clean p rest is =
        clean_more (kind_judge 5 (marked 5 p.tag.count)) (owner_judge (marked 6 p.tag.owner) ∷ judged judges (run p.value ++ rest))
        (of_kind 5 p.tag.count (marked 5 p.tag.count) is.0 refl)
        (clean_more (owner_judge (marked 6 p.tag.owner)) (judged judges (run p.value ++ rest)) (owner_low (marked 6 p.tag.owner) p.tag.owner refl is.1)
        (values_clean p.value rest is.2))

    -- what follows a head, as that head says
    abbrev after : ℕ → List (ℕ → ℕ)
    after n = cond (within 2 3 n) (tag_judges ++ judges) []

    rest_clean : (k : TelegramKind V) (rest : List ℕ) → IsPair valid (pair_of k) → Clean (judged (after (kind_number k)) (pair_run run (pair_of k) ++ rest))
    rest_clean Query rest is = clean_none
    rest_clean (Told p) rest is = pair_clean p rest is
    rest_clean (Set p) rest is = pair_clean p rest is
    rest_clean Took rest is = clean_none

    run_clean : (t : Telegram V) (rest : List ℕ) → IsTelegram valid t → Clean (judged (telegram_judges judges (telegram_run run t ++ rest)) (telegram_run run t ++ rest))
    run_clean t rest is =
        let w = head_word (head_of t) in
        let small = number_small t.kind in
        let number : kind_number t.kind ≡ kind_of w = omega arith in
        clean_more (head_judge w) (judged (after (kind_of w)) (pair_run run (pair_of t.kind) ++ rest))
        (head_good (head_of t) (omega arith) (omega arith) (omega arith) w refl (omega arith))
        (subst (λ (n : ℕ). Clean (judged (after n) (pair_run run (pair_of t.kind) ++ rest))) number (rest_clean t.kind rest is.pair))

    pub exact : (ws : List ℕ) (r : Result (Telegram V × ℕ) Refusal) → ReadAs valid run judges ws r → Exact valid run ws r
    exact ws (Err e) f t rest is same =
        absurd (not_clean (subst (λ (us : List ℕ). Clean (judged (telegram_judges judges us) us)) (sym same) (run_clean t rest is)) f)
    exact ws (Ok (u, n)) got t rest is same =
        let opens : telegram_run run u ++ drop n ws ≡ telegram_run run t ++ rest =
        ap (λ (front : List ℕ). front ++ drop n ws) (sym got.2) ∙ take-append-drop n ws ∙ same in
        let found = one_run u t (drop n ws) rest got.0 is opens in
        let size : n ≡ length (telegram_run run t) = got.1 ∙ ap (λ (v : Telegram V). length (telegram_run run v)) found in
        λ i. Ok (found i, size i)
