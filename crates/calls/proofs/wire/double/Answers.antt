use Rattle.std.proofs.Common.{Err, sym, refl, ◌∙◌, inl, inr, arith}
use Rattle.words.specs.declared.refusal.Refusal.TheVariants.{BusFull}
use Rattle.line.specs.Runs.{doubled}
use Rattle.calls.proofs.Outcomes.{refused, sent_is}
use Rattle.calls.proofs.wire.double.Goals as goal

pub returns-then-m : goal.returns-then-m
returns-then-m g c =
    let m = c.args.m.now in
    let system = c.args.system.now in
    let sound = c.in_ok-check.ensures.sound.0 in
    refused (g.S.QuorumSystem.size system) (g.S.QuorumSystem.quorum system) (doubled c.args.place (Err BusFull)) m sound
    (inr (inl (c.in-Some.telegram, sym c.telegram_at.ensures ∙ c.in-Some.is, (λ room. omega (arith, c.if-m.true, sent_is _ m sound)), (BusFull, refl, refl, refl))))
