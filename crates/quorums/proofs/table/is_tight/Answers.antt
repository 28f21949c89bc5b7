use Rattle.std.proofs.Common.{◌≡◌, ℕ, ◌-◌, ◌^◌, ◌<◌, ◌≤◌, length, List, slice_index, Bool, true, false, MatchBool, min, rules, ap, ◌∙◌, subst, arith}
use borrow.Author.Tests.{tests}
use Rattle.std.proofs.lemmas.Iterator.{YieldsList-from_slice, cases_from_all}
use Rattle.quorums.specs.Families.{Tight}
use Rattle.quorums.specs.Members.{all_inside, inside_all}
use Rattle.quorums.specs.Sets.{Inside, Share}
use Rattle.quorums.proofs.Tests.{all_listed}
use Rattle.quorums.proofs.table.is_tight.Goals as goal

-- what the function tells of each listed set
abbrev Fit : ℕ → List ℕ → ℕ → Type 0
Fit line sets s = Inside s line × ((k : ℕ) → k < length sets → Share s (slice_index sets k))

told : (n : ℕ) (sets : List ℕ) (b : Bool) → n ≤ 16 → 1 ≤ length sets → length sets ≤ 32
    → MatchBool b ((k : ℕ) → k < length sets → Fit (2 ^ n - 1) sets (slice_index sets k)) (((k : ℕ) → k < length sets → Fit (2 ^ n - 1) sets (slice_index sets k)) → ⊥)
    → MatchBool b (Tight n sets) (Tight n sets → ⊥)
told n sets true h some few f = record { some = some; few = few; line = λ i l. inside_all n (slice_index sets i) (f i l).0; share = λ i j l m. (f i l).1 j m }
told n sets false h some few f = λ t. f (λ k l. (all_inside n (slice_index sets k) (t.line k l), λ j m. t.share k j l m))

pub returns-then-contains : goal.returns-then-contains
returns-then-contains c =
    let sets = c.args.sets.now in
    let n = c.args.cabinets.count in
    let r = c.all-line.result in
    let h = all_listed (Fit r sets) sets c.all.result
    (cases_from_all _ _ c.all.result (Fit r sets) (λ s. Fit r sets s → ⊥) c.all.ensures.ran (YieldsList-from_slice sets (cc)) (λ x q k. search rules) (λ x q k. search rules)) in
    let all_of_them : min c.count.result 16 ≡ n = omega arith in
    let e : r ≡ 2 ^ n - 1 = c.all-line.ensures ∙ ap (λ (k : ℕ). 2 ^ k - 1) all_of_them in
    told n sets c.all.result c.args.cabinets.most (search (rules, tests)) (search (rules, tests))
    (subst (λ (l : ℕ). MatchBool c.all.result ((k : ℕ) → k < length sets → Fit l sets (slice_index sets k)) (((k : ℕ) → k < length sets → Fit l sets (slice_index sets k)) → ⊥)) e h)
