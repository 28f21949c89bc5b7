use Rattle.std.proofs.Common.{◌≡◌, ℕ, arith, tests, rules}
use borrow.Author.Count.{below_more}
use Rattle.telegrams.specs.declared.Pair.{Pair}
use Rattle.calls.specs.Choices.{Tells}
use Rattle.calls.proofs.Tellers.{none_told, told_below, told_once}
use Rattle.calls.proofs.tellings.Tellings.holder.Goals.{in_default-via-in-None-1, in_default-via-in-Some+else-eq}
use Rattle.calls.proofs.tellings.Tellings.holder.Goals as goal

pub loop-k-preserved : goal.loop-k-preserved
loop-k-preserved g c =
    let told = c.args.self.now in
    let q = c.args.q in
    let i = c.loop-k.k in
    below_more (λ (k : ℕ). (p : Pair g.row.V.Denot) → Tells told q k p → p.tag ≡ c.args.tag → ⊥) i c.loop-k.invariant
    (λ p tells e. elim c.in_default.branch [
      | in_default-via-in-None-1 w ↦ none_told told q i c.of_member.result c.of_member.ensures (cc) p tells
      | in_default-via-in-Some+else-eq w ↦
          let same : p ≡ w.in-Some.pair = told_once told q i p w.in-Some.pair tells w.in-Some.ensures in
          grind (arith, tests)
    ])

pub unreachable-requires : goal.unreachable-requires
unreachable-requires g c =
    let held = c.requires in
    c.loop-k.invariant held.0 (omega (arith, c.loop-k-test.false, told_below c.args.self.now c.args.q held.0 held.1 held.2)) held.1 held.2 held.3

pub returns-in-loop-k : goal.returns-in-loop-k
returns-in-loop-k g c =
    let same : c.in-Some.pair.tag ≡ c.args.tag = search (rules, tests) in
    (c.loop-k.k, c.in-Some.ensures, same, λ i u below tells e. c.loop-k.invariant i below u tells e)
