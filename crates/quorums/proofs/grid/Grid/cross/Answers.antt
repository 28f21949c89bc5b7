use Rattle.std.proofs.Common.{◌≡◌, ℕ, min, ◌/◌, ◌%◌, ◌||◌, eqb, rules, subst, sym, arith}
use borrow.Author.Tests.{tests}
use Rattle.std.proofs.lemmas.Iterator.{YieldsList-from_range}
use Rattle.std.proofs.lemmas.Iterator.Consumers.{fold_from_yields_List}
use Rattle.quorums.specs.Families.{CrossOf}
use Rattle.quorums.specs.Grids.{Taken}
use Rattle.quorums.specs.Sets.{Those}
use Rattle.quorums.proofs.Gathers.{gathered, put_if}
use Rattle.quorums.proofs.grid.Grid.cross.Goals as goal

pub returns : goal.returns
unfolding CrossOf
returns c =
    let g = c.args.self.now in
    let n = g.cabinets.count in
    let test = λ (k : ℕ). eqb (k / g.columns) (c.args.at / g.columns) || eqb (k % g.columns) (c.args.at % g.columns) in
    let most : min n 16 ≡ n = omega arith in
    let e = fold_from_yields_List _ (put_if test) 0 c.fold.result c.fold.ensures.ran (YieldsList-from_range 0 n n (cc most) (omega arith)) (λ a k b q r. search (rules, tests)) in
    subst (Those (Taken g.columns c.args.at) n) (sym e) (gathered (Taken g.columns c.args.at) test (λ k. search (rules, tests)) n (omega arith))
