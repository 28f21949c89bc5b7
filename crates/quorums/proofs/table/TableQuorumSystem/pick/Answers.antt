use Rattle.std.proofs.Common.{None, rules, sym, subst}
use Rattle.std.proofs.lemmas.Iterator.{YieldsList-from_slice}
use Rattle.std.proofs.lemmas.Iterator.Consumers.{YieldsList-from_copied, YieldsList-from_filter, fold_from_yields_List}
use Rattle.quorums.specs.Families.{TableOf}
use Rattle.quorums.specs.Sets.{Picked}
use Rattle.quorums.proofs.Picks.{better, least_listed}
use Rattle.quorums.proofs.Tests.{lies, lies_same}
use Rattle.quorums.proofs.table.TableQuorumSystem.pick.Goals as goal

pub returns : goal.returns
returns c =
    let list = c.args.self.now.quorums.items in
    let given = c.args.given in
    let e = fold_from_yields_List _ better None c.fold.result c.fold.ensures.ran
    (YieldsList-from_filter _ (lies given) (YieldsList-from_copied (YieldsList-from_slice list (cc))) c.filter.ensures.closure (λ x b q k. search (rules, lies_same)))
    (λ a x b q k. search rules) in
    subst (Picked (TableOf list) given) (sym e) (least_listed given list)
