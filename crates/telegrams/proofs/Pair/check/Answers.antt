use Rattle.std.proofs.Common.{[], ◌∷◌, Some, refl, arith, rules}
use Rattle.telegrams.specs.Telegrams.{count_fault, owner_fault, pair_faults}
use Rattle.words.specs.declared.refusal.Refusal.TheVariants.{BadWord}
use Rattle.words.specs.Judged.{Faulted}
use Rattle.words.specs.Judging.{behind, first}
use Rattle.telegrams.proofs.Reading.{handed_on}
use Rattle.telegrams.proofs.TagWords.{clean_2, clean_3, count_good, owner_bad, owner_good}
use Rattle.telegrams.proofs.Pair.check.Goals as goal

pub returns-then-self-gt-MAX_STATION : goal.returns-then-self-gt-MAX_STATION
returns-then-self-gt-MAX_STATION g c =
    let tag = c.args.self.now.tag in
    first (0 ∷ count_fault tag.count ∷ []) _ _ (BadWord 2) (clean_2 0 (count_fault tag.count) refl (count_good tag.count (omega arith)))
    (owner_bad tag.owner (omega arith)) refl

pub returns : goal.returns
returns g c =
    let pair = c.args.self.now in
    let count = count_good pair.tag.count (omega arith) in
    let owner = owner_good pair.tag.owner (omega arith) in
    handed_on _ (Faulted (0 ∷ pair_faults g.V.Value.faults (Some pair))) _ c.check.result c.map_err.result c.map_err.ensures.cases c.check.ensures
    (λ e d k. search rules) (λ _ valid. (omega arith, omega arith, valid))
    (λ e f.
    behind (0 ∷ count_fault pair.tag.count ∷ owner_fault pair.tag.owner ∷ []) (g.V.Value.faults pair.value) e (clean_3 0 _ _ refl count owner)
    (omega (arith, g.met.V.Value.within pair.value, g.met.V.Value.few)) f)
