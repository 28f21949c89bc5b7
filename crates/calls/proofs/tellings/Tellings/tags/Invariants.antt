use Rattle.std.proofs.Common.{◌≡◌, map, length, take}
use Rattle.line.specs.Lines.{tag_of}
use Rattle.calls.proofs.tellings.Tellings.tags.Given as goal

-- the tags so far
abbrev pub invariant-loop-k : goal.invariant-loop-k
invariant-loop-k g l = (length l.tags ≡ 16) × (take l.k l.tags ≡ map tag_of (take l.k l.self))
