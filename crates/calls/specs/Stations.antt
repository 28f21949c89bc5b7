-- A station of the line, with the line's memory.
use Rattle.std.specs.Prelude.{◌≡◌, ℕ, ◌+◌, ◌<◌, ◌≤◌, length, Some, Option}
use Rattle.telegrams.specs.declared.Pair.{Pair}
use Rattle.line.specs.declared.types.Hand.{Hand}
use Rattle.line.specs.Lines.{View, change, hand_of}
use Rattle.line.specs.Seen.{live_in_line, seen}
use Rattle.calls.specs.Changes.{Becomes}
use Rattle.calls.specs.declared.hands.StationMemory.{StationMemory}

module _ {V : Type 0} where
  -- the line that the memory holds
  abbrev pub line : StationMemory V → View V
  line a = seen a.m.now

  -- the same station of the same memory, which holds the line v now
  abbrev pub Goes : StationMemory V → View V → StationMemory V → Type 0
  Goes a v after = Becomes a.m.now v after.m.now × (after.m.ghost_name ≡ a.m.ghost_name) × (after.station ≡ a.station)

  -- the station's own last count and job in hand are these, whatever the answers then are that are live
  abbrev pub Changes : StationMemory V → ℕ → Option (Hand V) → StationMemory V → Type 0
  Changes a last hand after =
      (told : ℕ → Option (Pair V))
      → ((c : ℕ) → live_in_line (length a.m.now.replicas.now) a.m.now.answers.now a.station c hand ≡ told c)
      → Goes a (change (line a) a.station last hand told) after

  -- the job is the one in hand, or goes on from it: the same cabinets have told it
  abbrev pub Follows : StationMemory V → Hand V → Type 0
  Follows a hand = (h : Hand V) × (hand_of (line a) a.station ≡ Some h) × (h.told ≡ hand.told)

  -- a row of the journal is free
  abbrev pub HasRow : StationMemory V → Type 0
  HasRow a = a.m.now.written < length a.m.now.journal.now

  -- the bus has a place for a telegram to each cabinet, of which there are at most 16
  abbrev pub HasPlaces : StationMemory V → Type 0
  HasPlaces a = (length a.m.now.replicas.now ≤ 16) × (a.m.now.sent + length a.m.now.replicas.now ≤ length a.m.now.bus.now)
