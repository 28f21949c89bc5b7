use Rattle.std.proofs.Common.{Ok, Err, subst, inr}
use Rattle.line.specs.declared.types.Memory.{Memory}
use Rattle.line.specs.Memories.{Called}
use Rattle.line.specs.Runs.{collected, shelved}
use Rattle.calls.specs.declared.ticket.Ticket.{Ticket}
use Rattle.example.proofs.Shelving.{claimed_good, left, shelves}
use Rattle.example.proofs.tickets.finish.Goals as goal

-- the refused collect left the memory and handed the same ticket back
pub returns-in-Ok-shelve : goal.returns-in-Ok-shelve
returns-in-Ok-shelve g c =
    let n = g.S.QuorumSystem.size c.args.system.now in
    let F = g.S.QuorumSystem.quorum c.args.system.now in
    let t = c.in_ok-ticket.ticket in
    let e = c.in-Err.back.refusal in
    let m = c.claim.new.m in
    let same = left n F m c.collect.new.m t.station t.job e c.in-Err.ensures.called in
    inr (
      t,
      m,
      c.in_ok-ticket.ensures,
      subst (λ (x : Memory g.row.V.Denot). Called n F (collected t.station t.job (Err e)) m x) same c.in-Err.ensures.called,
      subst (λ (x : Memory g.row.V.Denot). Called n F (shelved t.station t.job (Ok tt)) x c.shelve.new.m) same
          (subst (λ (x : Ticket). Called n F (shelved x.station x.job (Ok tt)) c.collect.new.m c.shelve.new.m) c.in-Err.ensures.returned c.in-Ok-shelve.ensures.called),
    )

-- the line takes the ticket that it gave
pub returns-in-Err-shelve : goal.returns-in-Err-shelve
returns-in-Err-shelve g c =
    let n = g.S.QuorumSystem.size c.args.system.now in
    let F = g.S.QuorumSystem.quorum c.args.system.now in
    let t = c.in_ok-ticket.ticket in
    let e = c.in-Err-shelve.field-0.refusal in
    let m = c.claim.new.m in
    let same = left n F m c.collect.new.m t.station t.job c.in-Err.back.refusal c.in-Err.ensures.called in
    shelves n F m c.shelve.new.m t.station t.job e (claimed_good n F c.args.m.now m c.args.station t.station t.job c.in_ok-ticket.ensures)
    (subst (λ (x : Memory g.row.V.Denot). Called n F (shelved t.station t.job (Err e)) x c.shelve.new.m) same
    (subst (λ (x : Ticket). Called n F (shelved x.station x.job (Err e)) c.collect.new.m c.shelve.new.m) c.in-Err.ensures.returned c.in-Err-shelve.ensures.called))
