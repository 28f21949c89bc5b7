use Rattle.views.proofs.Known.{known_settings}
use Rattle.line.specs.Runs.{Laws}
use Rattle.line.proofs.Excludes.{excluded}
use Rattle.line.proofs.KnownRuns.{known_run}
use Rattle.line.proofs.Order.{laws_at, order_of_jobs, trips_carry}
use Rattle.line.proofs.Single.{one_result}
use Rattle.line.proofs.steps_hold.Goals as goal

pub returns : goal.returns
returns g c =
    let s = c.args._system.now in
    let met = g.met.S.QuorumSystem in
    let F = g.S.QuorumSystem.quorum s in
    let n = g.S.QuorumSystem.size s in
    let laws : Laws F n = laws_at _ _ met.sized met.member met.line met.share s in
    record {
      order = order_of_jobs F n laws;
      single = one_result g.row.V.Denot F;
      carried = trips_carry F n laws;
      known = record { settings = known_settings; excluded = excluded g.row.V.Denot F; run = known_run };
    }
