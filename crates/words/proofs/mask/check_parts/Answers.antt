use Rattle.std.proofs.Common.{refl, ◌∙◌, arith}
use Rattle.words.specs.PartRows.{fault_at, fits, too_wide}
use Rattle.words.proofs.mask.check_parts.Goals as goal

pub returns-then-part-gt-MAX_PART : goal.returns-then-part-gt-MAX_PART
returns-then-part-gt-MAX_PART c =
    let ps = c.args.parts.now in
    let i = c.loop-place.place in
    record {
      place = i;
      before = λ k h. fault_at ps k (omega arith) ∙ fits _ (c.loop-place.invariant k h);
      at = fault_at ps i (omega arith) ∙ too_wide _ (omega arith);
      carries = refl;
    }
