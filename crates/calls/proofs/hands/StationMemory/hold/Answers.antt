use Rattle.std.proofs.Common.{length, Option, sym, ap, ◌∙◌}
use Rattle.line.specs.declared.types.Hand.{Hand}
use Rattle.line.specs.Seen.{live_in_line}
use Rattle.calls.specs.Stations.{line}
use Rattle.calls.proofs.Live.{own_answers, same_told}
use Rattle.calls.proofs.hands.StationMemory.hold.Goals as goal

pub returns : goal.returns
returns g c =
    let a = c.args.self.now in
    let m = a.m.now in
    let s = a.station in
    let n = length m.replicas.now in
    let known = m.answers.now in
    let same = c.requires in
    c.put_hand.ensures ((line a).answers s)
    (λ x.
    sym (own_answers m.stations.now n known s x a.there.0
    ∙ ap (λ (h : Option (Hand g.row.V.Denot)). live_in_line n known s x h) same.1 ∙ same_told n known s x same.0 c.args.hand same.2))
