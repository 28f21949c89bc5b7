use Rattle.std.proofs.Common.{◌-◌, ◌≤◌, List, ◌++◌, length, Result, vec_items}
use Rattle.capture.specs.Scans.{Scans}
use Rattle.words.specs.declared.refusal.Refusal.{Refusal}
use Rattle.capture.specs.declared.scan.Found.{Found}
use Rattle.capture.proofs.scan.scan.Given as goal

-- whatever the scan goes on with from here, behind the items so far it is a scan from the start
abbrev pub invariant-loop-place : goal.invariant-loop-place
invariant-loop-place g l =
    let m = g.V.Value in
    (l.place ≤ length l.words)
    × ((rest : List (Result (Found g.row.V.Denot) Refusal)) → Scans m.valid m.run m.judges l.words l.place rest
    → Scans m.valid m.run m.judges l.words 0 (vec_items l.items ++ rest))

abbrev pub decreases-loop-place : goal.decreases-loop-place
decreases-loop-place g l = length l.words - l.place
