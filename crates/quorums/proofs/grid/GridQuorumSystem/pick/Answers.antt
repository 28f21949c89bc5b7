use Rattle.std.proofs.Common.{None, map, rules, sym, subst, arith}
use Rattle.std.specs.List.{range_with_len}
use Rattle.std.proofs.lemmas.Iterator.{YieldsList-from_map, YieldsList-from_range}
use Rattle.std.proofs.lemmas.Iterator.Consumers.{YieldsList-at, YieldsList-from_filter, fold_from_yields_List}
use Rattle.quorums.specs.Families.{GridOf, TableOf}
use Rattle.quorums.specs.Sets.{Picked}
use Rattle.quorums.proofs.Crossings.{crossing, crossing_same, grid_of_crossing, crossing_of_grid}
use Rattle.quorums.proofs.Picks.{better, least_listed, pick_like}
use Rattle.quorums.proofs.Tests.{lies, lies_same}
use Rattle.quorums.proofs.grid.GridQuorumSystem.pick.Goals as goal

pub returns : goal.returns
returns c =
    let g = c.args.self.now in
    let n = g.cabinets.count in
    let given = c.args.given in
    let sets = map (crossing n g.columns) (range_with_len 0 n) in
    let e = fold_from_yields_List _ better None c.fold.result c.fold.ensures.ran
    (YieldsList-from_filter _ (lies given)
    (YieldsList-at c.filter.ensures.source (YieldsList-from_map _ (crossing n g.columns) (YieldsList-from_range 0 n n (cc) (omega arith)) c.map.ensures.closure (λ x r q k. search (rules, crossing_same))))
    c.filter.ensures.closure (λ x b q k. search (rules, lies_same)))
    (λ a x b q k. search rules) in
    pick_like (TableOf sets) (GridOf g.rows g.columns) given (grid_of_crossing n g.rows g.columns g.whole g.cabinets.some) (crossing_of_grid n g.rows g.columns g.whole)
    c.fold.result (subst (Picked (TableOf sets) given) (sym e) (least_listed given sets))
