use Rattle.std.proofs.Common.{get_or, vec_items, subst}
use Rattle.quorums.specs.Families.{Tight}
use Rattle.quorums.specs.Members.{share_some}
use Rattle.quorums.proofs.table.Table.new.Goals as goal

pub invariant_of-result : goal.invariant_of-result
invariant_of-result c =
    let list = vec_items c.args.quorums in
    let tight = subst (Tight c.in_ok-cabinets.cabinets.count) c.as_slice.ensures.value c.if-is_tight.ensures in
    record { listed = tight.some; line = tight.line; share = (λ i j h l. share_some (get_or list i 0) (get_or list j 0) (tight.share i j h l)) }
