use Rattle.std.proofs.Common.{◌≡◌, ◌+◌, ◌<◌, List, [], ◌∷◌, ◌++◌, map, length, get_or, take, set, Option, sym, ap, ◌∙◌, arith}
use Rattle.std.proofs.lemmas.List.{length-set, map-append, take_more, take_more_set}
use Rattle.std.proofs.lemmas.Option.{get_or_from_slice_get}
use Rattle.telegrams.specs.declared.Pair.{Pair}
use Rattle.line.specs.Lines.{tag_of}
use Rattle.calls.proofs.tellings.Tellings.tags.Goals as goal

pub loop-k-preserved : goal.loop-k-preserved
loop-k-preserved g c =
    let told = c.args.self.now in
    let tags = c.loop-k.tags in
    let k = c.loop-k.k in
    let x = c.at.result in
    let in_told : k < length told = omega (arith, c.loop-k-test.true) in
    let read : get_or told k x ≡ x = get_or_from_slice_get told k x x c.at.ensures in
    let more : take (k + 1) told ≡ take k told ++ (x ∷ []) = take_more told k x in_told ∙ ap (λ (y : Option (Pair g.row.V.Denot)). take k told ++ (y ∷ [])) read in (
      length-set tags c.from.result c.tag_of.result ∙ c.loop-k.invariant.0,
      ap (λ i. take (k + 1) (set tags i c.tag_of.result)) c.from.ensures
          ∙ take_more_set tags k c.tag_of.result (omega (arith, c.loop-k-test.true, c.loop-k.invariant.0))
          ∙ (λ i. c.loop-k.invariant.1 i ++ (c.tag_of.ensures i ∷ []))
          ∙ sym (ap (λ (xs : List (Option (Pair g.row.V.Denot))). map tag_of xs) more ∙ map-append tag_of (take k told) (x ∷ [])),
    )
