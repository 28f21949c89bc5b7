-- The live parts of a memory as calls see them: answers of station 0 and beyond the cabinets are dead too.
use Rattle.std.specs.Prelude.{ℕ, ◌+◌, ◌-◌, ◌*◌, ◌/◌, ◌%◌, ◌^◌, cond, List, length, take, Some, None, Option, ◌==◌, nat_lt}
use Rattle.std.specs.List.{slice_get}
use Rattle.telegrams.specs.declared.Pair.{Pair}
use Rattle.line.specs.declared.types.Hand.{Hand}
use Rattle.line.specs.declared.types.Memory.{Memory}
use Rattle.line.specs.declared.types.Station.{Station}
use Rattle.line.specs.Lines.{View, station_at}

module _ {V : Type 0} where
  -- an answer is live if the cabinet, one of n, has told the station's present job
  abbrev pub live_in_line : ℕ → List (Pair V) → ℕ → ℕ → Option (Hand V) → Option (Pair V)
  live_in_line n answers s c None = None
  live_in_line n answers s c (Some h) = cond (nat_lt c n) (cond (h.told / 2 ^ c % 2 == 1) (slice_get answers ((s - 1) * n + c)) None) None

  abbrev pub answers_of : List (Station V) → ℕ → List (Pair V) → ℕ → ℕ → Option (Pair V)
  answers_of stations n answers s c = cond (nat_lt 0 s) (live_in_line n answers s c (station_at stations s).hand) None

  abbrev pub seen : Memory V → View V
  seen m = record {
    first = m.first;
    replicas = m.replicas.now;
    stations = m.stations.now;
    answers = answers_of m.stations.now (length m.replicas.now) m.answers.now;
    bus = take m.sent m.bus.now;
    journal = take m.written m.journal.now;
    bus_places = length m.bus.now;
    journal_places = length m.journal.now;
  }
