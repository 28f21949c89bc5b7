use Rattle.line.proofs.Order.{laws_at, order_of_jobs}
use Rattle.line.proofs.Single.{one_result}
use Rattle.line.proofs.check_sizes.Goals as goal

pub returns-clause-order : goal.returns-clause-order
returns-clause-order g c =
    let s = c.args.system.now in
    let met = g.met.S.QuorumSystem in
    order_of_jobs (g.S.QuorumSystem.quorum s) (g.S.QuorumSystem.size s) (laws_at _ _ met.sized met.member met.line met.share s)

pub returns-clause-single : goal.returns-clause-single
returns-clause-single g c = one_result g.row.V.Denot (g.S.QuorumSystem.quorum c.args.system.now)
