use Rattle.std.proofs.Common.{arith}
use Rattle.quorums.specs.Members.{and_inside, inside_and}
use Rattle.quorums.proofs.sets.is_inside.Goals as goal

pub returns : goal.returns
returns c = grind (arith, and_inside, inside_and)
