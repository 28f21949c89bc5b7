use Rattle.std.proofs.Common.{sym, ◌∙◌, subst, arith}
use Rattle.line.proofs.Sounds.{owed_unfinished}
use Rattle.calls.proofs.Outcomes.{rows_left}
use Rattle.calls.specs.Tickets.{ResultOf}
use Rattle.calls.proofs.Views.{not_some}
use Rattle.calls.proofs.jobs.give_up.Goals as goal

pub abandon-requires : goal.abandon-requires
abandon-requires g c =
    let m = c.args.m.now in
    let h = c.in_ok-hand.hand.now in
    let job = c.in_ok-hand.ensures in
    let left = rows_left _ m c.args.ticket.station h job.0 job.1.0 job.1.1 in
    let owes = owed_unfinished h.work h.stage (subst (ResultOf h.stage) (not_some c.result_of.result (sym c.is_some-over.ensures ∙ c.if-over.false)) c.result_of.ensures) in
    omega (arith, left, owes)
