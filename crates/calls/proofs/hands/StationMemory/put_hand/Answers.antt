use Rattle.std.proofs.Common.{ℕ, subst}
use Rattle.calls.specs.Stations.{Changes}
use Rattle.calls.proofs.hands.StationMemory.put_hand.Goals as goal

pub returns : goal.returns
returns g c = subst (λ (k : ℕ). Changes c.args.self.now k c.args.hand c.change.new.self) c.last_at-last.ensures c.change.ensures
