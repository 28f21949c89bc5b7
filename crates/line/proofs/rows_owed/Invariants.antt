use Rattle.std.proofs.Common.{◌≡◌, ◌+◌, ◌*◌, ◌≤◌, drop}
use Rattle.line.specs.Lines.{owed}
use Rattle.line.proofs.rows_owed.Given as goal

-- what was counted and what is left make up the whole
abbrev pub invariant-loop-station : goal.invariant-loop-station
invariant-loop-station g l = (l.rows + owed (drop l.station-index l.stations) ≡ owed l.stations) × (l.rows ≤ 2 * l.station-index)
