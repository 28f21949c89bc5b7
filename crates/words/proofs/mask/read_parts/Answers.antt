use Rattle.std.proofs.Common.{◌<◌, ◌≢◌, length, get_or, refl, ◌∙◌, arith, below_more}
use Rattle.std.proofs.lemmas.List.{get_or-set_other, get_or-set_same}
use Rattle.words.specs.Words.{kind_judge}
use Rattle.words.specs.Judging.{of_kind, verdict_at}
use Rattle.words.specs.PartRows.{read_more, row_judged}
use Rattle.words.proofs.mask.read_parts.Goals as goal

pub returns-in_default : goal.returns-in_default
returns-in_default c = record {
  place = c.loop-place.place;
  before = c.loop-place.invariant.1;
  at = row_judged _ c.args.words.now c.loop-place.place (omega arith) ∙ c.in_default.ensures;
  carries = refl;
}

pub loop-place-preserved : goal.loop-place-preserved
loop-place-preserved c =
    let i = c.loop-place.place in
    let ws = c.args.words.now in
    let got = c.in-Some.ensures in
    let good = of_kind 7 c.in-Some.bits (get_or ws i 0) got.1 got.2 in
    let here : i < length c.loop-place.parts = omega arith in (
      below_more _ _
          (λ k h. let other : k ≢ i = omega arith in rw get_or-set_other (c.loop-place.invariant.0 k h))
          (rw get_or-set_same got.1),
      below_more _ _ c.loop-place.invariant.1 (row_judged _ ws i (omega arith) ∙ verdict_at (kind_judge 7) ws i got.0 ∙ good),
      read_more ws c.loop-place.parts i c.in-Some.bits got.0 here got.2 c.loop-place.invariant.2,
    )
