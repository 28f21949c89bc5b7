use Rattle.std.proofs.Common.{Ok, sym, refl, subst}
use Rattle.telegrams.specs.declared.TelegramKind.{TelegramKind}
use Rattle.line.specs.declared.types.Delivered.TheVariants as answer
use Rattle.line.specs.Seen.{seen}
use Rattle.line.specs.Steps.{Handed}
use Rattle.calls.specs.Changes.{off}
use Rattle.calls.proofs.deliver.hand_over.Goals as goal

pub returns-in-Set-clause-step : goal.returns-in-Set-clause-step
returns-in-Set-clause-step g c =
    let v = seen c.args.m.now in
    let stored = c.answer_set.ensures in
    subst (λ (k : TelegramKind g.row.V.Denot). Handed (g.S.QuorumSystem.quorum c.args.system.now) v (off v c.args.place) c.args.t k (Ok answer.Answered) (seen c.answer_set.new.m)) (sym c.in-Set.is)
    (refl, (stored.0, stored.1, stored.2.0))
