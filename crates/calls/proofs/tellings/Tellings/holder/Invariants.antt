use Rattle.std.proofs.Common.{◌≡◌, ℕ, ◌<◌}
use Rattle.telegrams.specs.declared.Pair.{Pair}
use Rattle.calls.specs.Choices.{Tells}
use Rattle.calls.proofs.tellings.Tellings.holder.Given as goal

-- no member so far holds the tag
abbrev pub invariant-loop-k : goal.invariant-loop-k
invariant-loop-k g l = (k : ℕ) → k < l.k → (p : Pair g.row.V.Denot) → Tells l.self l.q k p → p.tag ≡ l.tag → ⊥
