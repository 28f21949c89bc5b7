use Rattle.std.proofs.Common.{Some, length, sym, ap, ◌∙◌, arith}
use Rattle.line.specs.Lines.{put}
use Rattle.line.specs.Seen.{seen}
use Rattle.line.proofs.Keeps.{put_here, put_other}
use Rattle.calls.proofs.Tellers.{told_at, told_length}
use Rattle.calls.proofs.tellings.Tellings.at.Goals as goal

pub answer_at-requires-clause-wide : goal.answer_at-requires-clause-wide
answer_at-requires-clause-wide g c =
    let x = c.self.inside in
    (omega (arith, told_length (seen x.m.now) x.t x.pair, ap length c.self.view_is), c.self.invariant.2, c.self.invariant.3)

pub returns-then-k-self : goal.returns-then-k-self
returns-then-k-self g c =
    let x = c.self.inside in
    let known = (seen x.m.now).answers x.t.station in
    told_at (seen x.m.now) x.t x.pair c.args.self.now c.args.k c.self.view_is c.requires
    ∙ ap Some (ap (put known x.t.cabinet (Some x.pair)) c.if-k-self.true ∙ put_here known x.t.cabinet (Some x.pair))

pub returns-else-k-self : goal.returns-else-k-self
returns-else-k-self g c =
    let x = c.self.inside in
    let known = (seen x.m.now).answers x.t.station in
    told_at (seen x.m.now) x.t x.pair c.args.self.now c.args.k c.self.view_is c.requires
    ∙ ap Some (put_other known x.t.cabinet (Some x.pair) c.args.k c.if-k-self.false ∙ sym c.answer_at.ensures)
