use Rattle.std.proofs.Common.{sym}
use Rattle.example.proofs.Shelving.{begun_good, shelves}
use Rattle.example.proofs.tickets.start.Goals as goal

pub returns-in-Ok : goal.returns-in-Ok
returns-in-Ok g c = (c.in_ok-ticket.ticket, c.begin.new.m, sym c.job-job.ensures, c.in_ok-ticket.ensures, c.in-Ok.ensures.called)

-- the line takes a new ticket
pub returns-in-Err : goal.returns-in-Err
returns-in-Err g c =
    let t = c.in_ok-ticket.ticket in
    let n = g.S.QuorumSystem.size c.args.system.now in
    let F = g.S.QuorumSystem.quorum c.args.system.now in
    shelves n F c.begin.new.m c.shelve.new.m t.station t.job _ (begun_good n F c.args.m.now c.begin.new.m c.args.station t.station t.job c.args.work (c.in_ok-ticket.ensures)) c.in-Err.ensures.called
