use Rattle.std.proofs.Common.{rules}
use Rattle.telegrams.proofs.Reading.{owner_kind}
use Rattle.telegrams.proofs.owner_at.Goals as goal

pub returns-in_err-bits_at : goal.returns-in_err-bits_at
returns-in_err-bits_at c = search (rules, owner_kind)
