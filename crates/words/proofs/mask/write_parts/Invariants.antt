use Rattle.std.proofs.Common.{◌≡◌, ◌++◌, take, drop}
use Rattle.words.specs.Parts.{parts_run}
use Rattle.words.proofs.mask.write_parts.Given as goal

abbrev pub invariant-loop-place : goal.invariant-loop-place
invariant-loop-place l = l.out ≡ parts_run (take l.place l.parts) ++ drop l.place l.initial.out
