use Rattle.std.proofs.Common.{◌+◌, sym, ◌∙◌, subst, arith}
use Rattle.calls.proofs.Tellers.{GreatestBelow, greatest_kept, greatest_more, told_below}
use Rattle.calls.proofs.tellings.Tellings.greatest.Goals.{in-Some, in_default}
use Rattle.calls.proofs.tellings.Tellings.greatest.Goals as goal

pub loop-k-preserved : goal.loop-k-preserved
loop-k-preserved g c =
    let told = c.args.self.now in
    let q = c.args.q in
    let i = c.loop-k.k in
    elim c.match-of_member.branch [
      | in-Some w ↦ greatest_more told q i c.args.last c.loop-k.g c.match-of_member.g w.in-Some.pair c.loop-k.invariant w.in-Some.ensures (w.g-is ∙ w.max-g.ensures)
      | in_default w ↦
          subst (GreatestBelow told q (i + 1) c.args.last) (sym w.g-is) (greatest_kept told q i c.args.last c.loop-k.g c.loop-k.invariant w.in_default.ensures)
    ]

pub returns : goal.returns
returns g c =
    let inv = c.loop-k.invariant in
    (inv.0, (λ k p tells. inv.1 k (omega (arith, c.loop-k-test.false, told_below c.args.self.now c.args.q k p tells)) p tells), inv.2)
