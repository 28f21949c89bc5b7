use Rattle.std.proofs.Common.{Some, ap, ◌∙◌, rules}
use Rattle.line.specs.Lines.{View, change, last_of, put}
use Rattle.line.specs.Seen.{seen}
use Rattle.calls.specs.Changes.{Becomes, off}
use Rattle.calls.proofs.Outcomes.{lends_on}
use Rattle.calls.proofs.progress.receive.Goals as goal

pub returns : goal.returns
returns g c =
    let m = c.args.m.now in
    let s = c.args.t.station in
    let told : View g.row.V.Denot → View g.row.V.Denot = λ v. change v s (last_of v s) (Some c.args.hand) (put (v.answers s) c.args.t.cabinet (Some c.args.pair)) in
    let done : Becomes m (told (off (seen m) c.args.place)) c.tell.new.self.m.now = (
      c.tell.ensures.0.0 ∙ ap told c.take_off.ensures.0,
      lends_on m c.take_off.new.m c.tell.new.self.m.now c.take_off.ensures.1 c.tell.ensures.0.1,
    ) in
    search rules
