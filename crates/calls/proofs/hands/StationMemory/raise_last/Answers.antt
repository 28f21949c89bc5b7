use Rattle.std.proofs.Common.{length, Option, sym, ap, ◌∙◌, subst}
use Rattle.line.specs.declared.types.Hand.{Hand}
use Rattle.line.specs.Lines.{change}
use Rattle.line.specs.Seen.{live_in_line}
use Rattle.calls.specs.Stations.{Goes, line}
use Rattle.calls.proofs.Live.{own_answers}
use Rattle.calls.proofs.hands.StationMemory.raise_last.Goals as goal

pub returns : goal.returns
returns g c =
    let a = c.args.self.now in
    let m = a.m.now in
    let s = a.station in
    let n = length m.replicas.now in
    let known = m.answers.now in
    let held = c.copied-hand.ensures ∙ c.hand_at.ensures in
    subst (λ (h : Option (Hand g.row.V.Denot)). Goes a (change (line a) s c.args.last h ((line a).answers s)) c.change.new.self) held
    (c.change.ensures ((line a).answers s)
    (λ x. ap (λ (h : Option (Hand g.row.V.Denot)). live_in_line n known s x h) held ∙ sym (own_answers m.stations.now n known s x a.there.0)))
