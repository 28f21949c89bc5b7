use Rattle.calls.proofs.Tellers.{GreatestBelow}
use Rattle.calls.proofs.tellings.Tellings.greatest.Given as goal

abbrev pub invariant-loop-k : goal.invariant-loop-k
invariant-loop-k g l = GreatestBelow l.self l.q l.k l.last l.g
