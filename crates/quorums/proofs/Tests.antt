-- Tests on sets, as the functions on sets compute them.
use Rattle.std.proofs.Common.{◌≡◌, ℕ, ◌<◌, Bool, true, false, eqb, MatchBool, List, length, slice_index, sym, arith, rules}
use borrow.Author.Tests.{tests}
use lib.Bits.{bit_and}
use Rattle.std.specs.List.{AllWithin, HoldsAt}
use Rattle.std.proofs.lemmas.Bool.{eq-eqb, ne_eqb}
use Rattle.quorums.specs.Sets.{Member, Inside}
use Rattle.quorums.specs.Members.{and_inside, bit, inside_and}

-- whether s lies inside t
abbrev pub lies : ℕ → ℕ → Bool
lies t s = eqb (bit_and s t) s

pub lies_so : (t s : ℕ) → MatchBool (lies t s) (Inside s t) (Inside s t → ⊥)
lies_so t s = grind (arith, inside_and, and_inside)

pub lies_same : (t s : ℕ) (b : Bool) → MatchBool b (Inside s t) (Inside s t → ⊥) → b ≡ lies t s
lies_same t s true i = sym (eq-eqb (bit_and s t) s (and_inside s t i))
lies_same t s false out = sym (ne_eqb (bit_and s t) s (λ e. out (inside_and s t e)))

-- whether k is a member of s
abbrev pub joins : ℕ → ℕ → Bool
joins s k = eqb (bit k s) 1

pub joins_so : (s k : ℕ) → MatchBool (joins s k) (Member k s) (Member k s → ⊥)
joins_so s k = search (rules, tests)

pub joins_same : (s k : ℕ) (b : Bool) → MatchBool b (Member k s) (Member k s → ⊥) → b ≡ joins s k
joins_same s k true m = sym (eq-eqb (bit k s) 1 m)
joins_same s k false out = sym (ne_eqb (bit k s) 1 out)

-- whether all of a list have P
pub all_listed : (P : ℕ → Type 0) (xs : List ℕ) (b : Bool) → MatchBool b (AllWithin P xs 0 (length xs)) ((k : ℕ) × (k < length xs) × HoldsAt (λ t. P t → ⊥) xs k) → MatchBool b ((k : ℕ) → k < length xs → P (slice_index xs k)) (((k : ℕ) → k < length xs → P (slice_index xs k)) → ⊥)
all_listed P xs true h = λ k l. h k 0 (omega arith) l
all_listed P xs false h = λ every. h.2 0 (every h.0 h.1)
