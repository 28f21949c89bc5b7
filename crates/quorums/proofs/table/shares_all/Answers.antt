use Rattle.std.proofs.Common.{ℕ, rules}
use Rattle.std.proofs.lemmas.Iterator.{YieldsList-from_slice, cases_from_all}
use Rattle.quorums.specs.Sets.{Share}
use Rattle.quorums.proofs.Tests.{all_listed}
use Rattle.quorums.proofs.table.shares_all.Goals as goal

pub returns : goal.returns
returns c =
    let sets = c.args.sets.now in
    let Met : ℕ → Type 0 = λ t. Share c.args.s t in
    all_listed Met sets c.all.result
    (cases_from_all _ _ c.all.result Met (λ t. Met t → ⊥) c.all.ensures.ran (YieldsList-from_slice sets (cc)) (λ x q k. search rules) (λ x q k. search rules))
