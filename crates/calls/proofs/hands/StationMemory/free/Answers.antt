use Rattle.std.proofs.Common.{None, refl}
use Rattle.calls.proofs.hands.StationMemory.free.Goals as goal

pub returns : goal.returns
returns g c = c.put_hand.ensures (λ x. None) (λ x. refl)
