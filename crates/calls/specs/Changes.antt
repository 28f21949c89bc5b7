-- One change of the memory, within the ends and lengths that a call has judged.
use Rattle.std.specs.Prelude.{◌≡◌, ℕ, ◌*◌, ◌<◌, ◌≤◌, List, map, length, Some, None, Option}
use Rattle.std.specs.List.{remove, range_with_len}
use Rattle.telegrams.specs.declared.Pair.{Pair}
use Rattle.telegrams.specs.declared.Telegram.{Telegram}
use Rattle.line.specs.declared.types.Hand.{Hand}
use Rattle.line.specs.declared.types.Memory.{Memory}
use Rattle.line.specs.Lines.{View, put, size, with_bus}
use Rattle.line.specs.Seen.{seen}
use Rattle.line.specs.Memories.{Lends}
use Rattle.line.specs.Steps.{Fits, InHand}

module _ {V : Type 0} where
  -- the two ends lie within their places
  abbrev pub Ends : Memory V → Type 0
  Ends m = (m.sent ≤ length m.bus.now) × (m.written ≤ length m.journal.now)

  -- a telegram lies at the place of the bus
  abbrev pub OnBus : Memory V → ℕ → Type 0
  OnBus m place = Ends m × (place < m.sent)

  -- there is such a cabinet
  abbrev pub IsCabinet : Memory V → ℕ → Type 0
  IsCabinet m cabinet = cabinet < length m.replicas.now

  -- the cabinet, one of at most 16, has its places for answers to all stations
  abbrev pub HasAnswers : Memory V → ℕ → Type 0
  HasAnswers m cabinet =
      IsCabinet m cabinet × (length m.replicas.now ≤ 16) × (length m.answers.now ≡ length m.replicas.now * length m.stations.now)

  -- the memory holds the line v now, in the same slices
  abbrev pub Becomes : Memory V → View V → Memory V → Type 0
  Becomes m v after = (seen after ≡ v) × Lends m after

  -- the job in hand that a ticket stands for, if there is one
  abbrev pub Found : View V → ℕ → ℕ → Option (Hand V) → Type 0
  Found v s job (Some h) = InHand v s job h
  Found v s job None = (h : Hand V) → InHand v s job h → ⊥

  -- the line without the telegram at a place
  abbrev pub off : View V → ℕ → View V
  off v place = with_bus v (remove v.bus place)

  -- the telegram names a cabinet and a station of the line, whose answers have their places
  abbrev pub Placed : Memory V → Telegram V → Type 0
  Placed m t =
      Fits (seen m) t × (length m.stations.now ≤ 32) × (length m.replicas.now ≤ 16)
      × (length m.answers.now ≡ length m.replicas.now * length m.stations.now)

  -- what the cabinets told the station's job, with one more telling: the telegram's
  abbrev pub told_list : View V → Telegram V → Pair V → List (Option (Pair V))
  told_list v t p = map (put (v.answers t.station) t.cabinet (Some p)) (range_with_len 0 (size v))
