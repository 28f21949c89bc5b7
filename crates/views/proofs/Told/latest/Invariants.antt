use Rattle.std.proofs.Common.{◌^◌, ◌<◌}
use Rattle.views.proofs.Tops.{Top}
use Rattle.views.proofs.Told.latest.Given as goal

abbrev pub invariant-loop-k : goal.invariant-loop-k
invariant-loop-k l = (l.members < 2 ^ 16) × Top l.self.tags.now l.members l.k l.best
