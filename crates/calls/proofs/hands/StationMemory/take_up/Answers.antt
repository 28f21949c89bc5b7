use Rattle.std.proofs.Common.{length, None}
use Rattle.calls.proofs.Live.{none_told}
use Rattle.calls.proofs.hands.StationMemory.take_up.Goals as goal

pub returns : goal.returns
returns g c =
    let a = c.args.self.now in
    let m = a.m.now in
    c.put_hand.ensures (λ x. None) (λ x. none_told (length m.replicas.now) m.answers.now a.station x c.args.hand c.requires)
