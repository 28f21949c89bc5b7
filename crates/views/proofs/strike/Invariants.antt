use Rattle.std.proofs.Common.{◌≡◌}
use lib.Count.{ones}
use Rattle.views.proofs.Strikes.{Going}
use Rattle.views.proofs.strike.Given as goal

abbrev pub invariant-loop-next : goal.invariant-loop-next
invariant-loop-next g l = (l.remaining.tags.now ≡ l.quorum.tags.now) × Going l.quorum.tags.now l.quorum.members (g.S.QuorumSystem.quorum l.system) l.remaining.members l.at l.strikes

abbrev pub decreases-loop-next : goal.decreases-loop-next
decreases-loop-next g l = ones l.remaining.members
