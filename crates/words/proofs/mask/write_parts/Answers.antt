use Rattle.std.proofs.Common.{◌≡◌, get_or, set, ap, ◌∙◌, arith}
use Rattle.words.specs.Words.{marked}
use Rattle.words.specs.PartRows.{write_more}
use Rattle.words.proofs.mask.write_parts.Goals as goal

pub loop-place-preserved : goal.loop-place-preserved
loop-place-preserved c =
    let part = get_or c.args.parts.now c.loop-place.place 0 in
    let word : c.mark.result ≡ marked 7 part = omega (arith, c.mark.ensures, c.requires.small c.loop-place.place) in
    ap (set c.loop-place.out c.loop-place.place) word
    ∙ write_more c.loop-place.out c.args.parts.now c.args.out.now c.loop-place.place (omega arith) (omega arith) c.loop-place.invariant
