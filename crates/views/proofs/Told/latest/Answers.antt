use Rattle.std.proofs.Common.{◌≡◌, ℕ, ◌+◌, sym, ap, subst, arith, ◌∙◌, ◌^◌, ◌<◌}
use Rattle.quorums.specs.Members.{member_below}
use Rattle.views.specs.Views.{told}
use Rattle.views.proofs.Tops.{Top, top_all, top_max, top_same}
use Rattle.views.proofs.Told.latest.Goals as goal
use Rattle.views.proofs.Told.latest.Goals.{then-has, else-has}

pub loop-k-preserved : goal.loop-k-preserved
loop-k-preserved c = (
  c.loop-k.invariant.0,
  elim c.if-has.branch [
    | then-has w ↦
        subst (Top c.args.self.now.tags.now c.args.self.now.members (c.loop-k.k + 1)) (sym (w.best-is ∙ w.max-best.ensures))
        (top_max c.args.self.now.tags.now c.args.self.now.members c.loop-k.k c.loop-k.best _ c.loop-k.invariant.1 w.if-has.ensures
        (ap (told c.args.self.now.tags.now) (sym w.from.ensures)))
    | else-has w ↦ subst (Top c.args.self.now.tags.now c.args.self.now.members (c.loop-k.k + 1)) (sym w.best-is) (top_same c.args.self.now.tags.now c.args.self.now.members c.loop-k.k c.loop-k.best c.loop-k.invariant.1 w.if-has.ensures)
  ],
)

pub returns : goal.returns
returns c =
    let end : c.loop-k.k ≡ 16 = omega arith in
    let small : c.args.self.now.members < 2 ^ 16 = c.loop-k.invariant.0 in
    top_all c.args.self.now.tags.now c.args.self.now.members c.loop-k.best (λ k m. member_below 16 k c.args.self.now.members (omega arith) m)
    (subst (λ (n : ℕ). Top c.args.self.now.tags.now c.args.self.now.members n c.loop-k.best) end c.loop-k.invariant.1)
