use Rattle.std.proofs.Common.{map}
use Rattle.std.specs.List.{range_with_len}
use Rattle.line.specs.Lines.{send}
use Rattle.calls.specs.Stations.{Goes, line}
use Rattle.calls.proofs.hands.StationMemory.send_all.Given as goal

-- those for the cabinets so far have joined
abbrev pub invariant-loop-cabinet : goal.invariant-loop-cabinet
invariant-loop-cabinet g l =
    let a = l.initial.self in
    Goes a (send (line a) (map (λ c. record { cabinet = c; station = a.station; job = l.job; kind = l.kind }) (range_with_len 0 l.cabinet))) l.self
