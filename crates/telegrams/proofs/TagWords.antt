-- The fields of a tag, to be written and as read.
use Rattle.std.proofs.Common.{◌≡◌, ℕ, ◌^◌, ◌<◌, ◌≤◌, ltb, leb, [], ◌∷◌}
use Rattle.std.proofs.lemmas.Bool.{cond-true, cond-false, lt-ltb, le-leb, lt-leb}
use Rattle.words.specs.Judged.{Clean}
use Rattle.telegrams.specs.Telegrams.{count_fault, owner_fault}
use Rattle.words.specs.Judging.{clean_more, clean_none}

pub count_good : (n : ℕ) → n < 2 ^ 28 → count_fault n ≡ 0
count_good n h = cond-true (ltb n (2 ^ 28)) 0 10 (lt-ltb n (2 ^ 28) h)

pub owner_good : (n : ℕ) → n ≤ 32 → owner_fault n ≡ 0
owner_good n h = cond-true (leb n 32) 0 10 (le-leb n 32 h)

pub owner_bad : (n : ℕ) → 32 < n → owner_fault n ≡ 10
owner_bad n h = cond-false (leb n 32) 0 10 (lt-leb n 32 h)

-- one, two and three clean places
pub clean_1 : (a : ℕ) → a ≡ 0 → Clean (a ∷ [])
clean_1 a p = clean_more a [] p clean_none

pub clean_2 : (a b : ℕ) → a ≡ 0 → b ≡ 0 → Clean (a ∷ b ∷ [])
clean_2 a b p q = clean_more a (b ∷ []) p (clean_1 b q)

pub clean_3 : (a b c : ℕ) → a ≡ 0 → b ≡ 0 → c ≡ 0 → Clean (a ∷ b ∷ c ∷ [])
clean_3 a b c p q r = clean_more a (b ∷ c ∷ []) p (clean_2 b c q r)
