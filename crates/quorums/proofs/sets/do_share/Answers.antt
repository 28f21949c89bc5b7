use Rattle.std.proofs.Common.{arith}
use Rattle.quorums.specs.Members.{share_and, share_some}
use Rattle.quorums.proofs.sets.do_share.Goals as goal

pub returns : goal.returns
returns c = grind (arith, share_and, share_some)
