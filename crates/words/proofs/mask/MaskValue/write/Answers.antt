use Rattle.std.proofs.Common.{◌≡◌, ℕ, ◌++◌, length, drop, sym, refl, ap, ◌∙◌, inr, arith}
use Rattle.std.proofs.lemmas.List.{length-map}
use Rattle.words.specs.Parts.{mask_run}
use Rattle.words.specs.Words.{marked}
use Rattle.words.specs.PartRows.{mask_clean}
use Rattle.words.proofs.mask.MaskValue.write.Goals as goal

pub returns-then-out-lt-MASK_PARTS : goal.returns-then-out-lt-MASK_PARTS
returns-then-out-lt-MASK_PARTS c =
    let m = c.args.self.now in
    let is = c.in_ok-check.ensures in
    let long = length-map m.parts (marked 7) in
    (refl, inr (mask_clean m is, omega arith, refl))

pub returns : goal.returns
returns c =
    let m = c.args.self.now in
    let is = c.in_ok-check.ensures in
    let long : length (mask_run m) ≡ length m.parts = length-map m.parts (marked 7) in (
      mask_clean m is,
      omega arith,
      omega arith,
      c.write_parts.ensures ∙ ap (λ (n : ℕ). mask_run m ++ drop n c.args.out.now) (sym long),
    )
