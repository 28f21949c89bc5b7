use Rattle.std.proofs.Common.{Err, refl, inl, arith}
use Rattle.words.specs.declared.refusal.Refusal.TheVariants.{NoTelegram}
use Rattle.line.specs.Runs.{lost}
use Rattle.calls.proofs.Outcomes.{refused, sent_is}
use Rattle.calls.proofs.wire.lose.Goals as goal

pub returns-then-place-m : goal.returns-then-place-m
returns-then-place-m g c =
    let m = c.args.m.now in
    let system = c.args.system.now in
    let sound = c.in_ok-check.ensures.sound.0 in
    refused (g.S.QuorumSystem.size system) (g.S.QuorumSystem.quorum system) (lost c.args.place (Err NoTelegram)) m sound
    (inl (omega (arith, c.if-place-m.true, sent_is _ m sound), (NoTelegram, refl, refl, refl)))
