use Rattle.std.proofs.Common.{◌≡◌, length, replicate, sym, ◌∙◌, arith}
use Rattle.std.proofs.lemmas.List.{get_or-replicate, length-replicate, same_lists}
use Rattle.calls.proofs.places.fill.Goals as goal

pub returns : goal.returns
returns g c =
    let n = length c.args.places.now in
    let x = c.args.x in
    let all : length c.loop-place.places ≡ n = c.loop-place.auto.places in
    same_lists c.loop-place.places (replicate n x) (all ∙ sym (length-replicate n x))
    (λ k d l. c.loop-place.invariant k d (omega (arith, c.loop-place-test.false, c.loop-place.auto.place-index-end)) ∙ sym (get_or-replicate n k x d (omega arith)))
