use Rattle.std.proofs.Common.{◌≡◌, ℕ, min, refl, ◌∙◌, subst, arith}
use Rattle.quorums.specs.Sets.{Member, Those}
use Rattle.views.proofs.Strikes.{fewer, one_trip, onward, second_trip, start}
use Rattle.views.proofs.strike.Goals as goal

pub loop-next-init : goal.loop-next-init
loop-next-init g c =
    (refl, start c.args.quorum.now.tags.now c.args.quorum.now.members (g.S.QuorumSystem.quorum c.args.system.now) c.args.top (omega arith) c.requires.0 c.requires.1)

pub loop-next-smaller : goal.loop-next-smaller
loop-next-smaller g c =
    fewer c.args.quorum.now.tags.now c.args.quorum.now.members (g.S.QuorumSystem.quorum c.args.system.now) c.loop-next.remaining.members c.loop-next.at c.loop-next.strikes
    c.loop-next.invariant.1 (omega arith) c.before-rest.result.members (rw c.loop-next.invariant.0 at c.before-rest.ensures.those)

pub loop-next-preserved : goal.loop-next-preserved
loop-next-preserved g c =
    let m = g.S.QuorumSystem in
    let met = g.met.S.QuorumSystem in
    let s = c.args.system.now in
    let same = c.before-rest.ensures.same ∙ c.loop-next.invariant.0 in
    let got = rw same at c.in-Some.ensures in
    let n : min c.cabinets.result 16 ≡ m.size s = omega (arith, c.cabinets.ensures, met.sized s) in (
      same,
      onward c.args.quorum.now.tags.now c.args.quorum.now.members (m.quorum s) c.loop-next.remaining.members c.loop-next.at c.loop-next.strikes
          c.loop-next.invariant.1 (omega arith) c.before-rest.result.members (rw c.loop-next.invariant.0 at c.before-rest.ensures.those) c.in-Some.next got.0 got.1
          (m.size s) (met.line s) c.outside.result
          (subst (λ (k : ℕ). Those (λ j. Member j c.before-rest.result.members → ⊥) k c.outside.result) n c.outside.ensures) c.in_default-pick.ensures,
    )

pub returns-in_default : goal.returns-in_default
returns-in_default g c =
    one_trip c.args.quorum.now.tags.now c.args.quorum.now.members (g.S.QuorumSystem.quorum c.args.system.now) c.loop-next.remaining.members c.loop-next.at c.loop-next.strikes
    c.loop-next.invariant.1 (omega arith) c.before-rest.result.members (rw c.loop-next.invariant.0 at c.before-rest.ensures.those) c.in_default.ensures

pub returns-in-Some-pick : goal.returns-in-Some-pick
returns-in-Some-pick g c =
    let got = rw (c.before-rest.ensures.same ∙ c.loop-next.invariant.0) at c.in-Some.ensures in
    let picked = c.in-Some-pick.ensures in
    second_trip c.args.quorum.now.tags.now c.args.quorum.now.members (g.S.QuorumSystem.quorum c.args.system.now) c.loop-next.remaining.members c.loop-next.at c.loop-next.strikes
    c.loop-next.invariant.1 (omega arith) c.before-rest.result.members (rw c.loop-next.invariant.0 at c.before-rest.ensures.those) c.in-Some.next got.0 got.1
    c.args.top (min c.cabinets.result 16) c.in-Some-pick._other c.requires.0 c.requires.1 c.outside.result c.outside.ensures picked.0 picked.1
