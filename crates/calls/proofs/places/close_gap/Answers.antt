use Rattle.std.proofs.Common.{arith, rules}
use Rattle.std.proofs.lemmas.List.{places, same_lists}
use Rattle.calls.proofs.places.close_gap.Goals as goal

pub returns : goal.returns
returns g c =
    let len = c.rotate_left.ensures.len in
    let moved = c.rotate_left.ensures.by_index.0 in
    same_lists _ _ (search (rules, places)) (λ k d h. grind (arith, places))
