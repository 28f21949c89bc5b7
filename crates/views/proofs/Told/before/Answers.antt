use Rattle.std.proofs.Common.{ℕ, ◌+◌, sym, subst, arith}
use Rattle.words.specs.Tags.{Before, Upto}
use Rattle.words.proofs.TagOrders.{tag_order}
use Rattle.quorums.specs.Sets.{Member, Those}
use Rattle.quorums.specs.Members.{those_passed, those_with}
use Rattle.views.specs.Views.{told}
use Rattle.views.proofs.Told.before.Goals as goal
use Rattle.views.proofs.Told.before.Goals.{then-has+then-is_later, else-has, else-has-via-then-has+else-is_later, else-has-via-else-has}

pub loop-k-preserved : goal.loop-k-preserved
loop-k-preserved c =
    let k = c.loop-k.k in
    let tags = c.args.self.now.tags.now in
    let at = c.args.tag.now in
    let P : ℕ → Type 0 = λ j. Member j c.args.self.now.members × Before (told tags j) at in
    elim c.if-has.branch [
      | then-has+then-is_later w ↦
          subst (Those P (k + 1)) (sym w.rest-is)
          (those_with P k c.loop-k.rest w.with-rest.result (omega arith) c.loop-k.invariant
          (w.if-has.ensures, subst (λ (j : ℕ). Before (told tags j) at) w.from.ensures w.if-is_later.ensures.later) w.with-rest.ensures)
      | else-has w ↦
          subst (Those P (k + 1)) (sym w.rest-is)
          (those_passed P k c.loop-k.rest c.loop-k.invariant
          (λ p.
          elim w.else-has.branch [
            | else-has-via-then-has+else-is_later v ↦
                tag_order.not_both (told tags k) at p.1 (subst (λ (j : ℕ). Upto at (told tags j)) v.from.ensures v.if-is_later.ensures.later)
            | else-has-via-else-has v ↦ v.if-has.ensures p.0
          ]))
    ]
