use Rattle.std.proofs.Common.{◌≡◌, ℕ, ◌-◌, ◌^◌, ◌<◌, min, sym, ap, ◌∙◌, subst, arith}
use Rattle.quorums.specs.Sets.{Inside, Member}
use Rattle.quorums.specs.Members.{all_inside, below, inside_all, member_below}
use Rattle.views.proofs.Known.{known_settings}
use Rattle.views.proofs.Laws.{lawful}
use Rattle.views.proofs.judge.Goals as goal

-- `all` of as many cabinets as told a tag, and at most 16
module _ (q long line : ℕ) (small : q < 2 ^ 16) (is : line ≡ 2 ^ min (min long 16) 16 - 1) where
  told_all : Inside q line → (k : ℕ) → Member k q → k < long
  told_all i k m =
      let n = min (min long 16) 16 in
      omega (arith, member_below n k q (inside_all n q (subst (Inside q) is i)) m)

  all_told : ((k : ℕ) → Member k q → k < long) → Inside q line
  all_told h =
      let n = min (min long 16) 16 in
      subst (Inside q) (sym is) (all_inside n q (below n q (λ k m. omega (arith, h k m, member_below 16 k q small m))))

line_is : (long n line : ℕ) → n ≡ min long 16 → line ≡ 2 ^ min n 16 - 1 → line ≡ 2 ^ min (min long 16) 16 - 1
line_is long n line e is = is ∙ ap (λ (k : ℕ). 2 ^ min k 16 - 1) e

pub returns-then-not-is_inside : goal.returns-then-not-is_inside
returns-then-not-is_inside g c = record {
  judges = λ some told.
      c.if-not-is_inside.ensures (all_told c.args.q _ c.all.result (omega arith) (line_is _ _ c.all.result c.min-told.ensures c.all.ensures) told);
  known = known_settings;
}

pub invariant_of-quorum : goal.invariant_of-quorum
invariant_of-quorum g c = record {
  told = told_all c.args.q _ c.all.result (omega arith) (line_is _ _ c.all.result c.min-told.ensures c.all.ensures) c.if-not-is_inside.ensures;
}

pub returns-in_err-top-clause-known : goal.returns-in_err-top-clause-known
returns-in_err-top-clause-known g c = known_settings

pub returns : goal.returns
returns g c = record {
  judges = (
    told_all c.args.q _ c.all.result (omega arith) (line_is _ _ c.all.result c.min-told.ensures c.all.ensures) c.if-not-is_inside.ensures,
    c.strike.ensures,
    lawful c.args.tags.now c.args.q (g.S.QuorumSystem.quorum c.args.system.now) (omega arith) (g.met.S.QuorumSystem.share c.args.system.now) c.strike.result.0 c.strike.result.1 c.strike.ensures,
  );
  known = known_settings;
}
