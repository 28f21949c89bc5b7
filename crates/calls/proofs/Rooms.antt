-- Room on the bus and free rows, as the ends of sound memory show them.
use Rattle.std.proofs.Common.{◌≡◌, ℕ, ◌+◌, ◌-◌, ◌<◌, ◌≤◌, length, arith}
use Rattle.line.specs.declared.types.Memory.{Memory}
use Rattle.line.specs.declared.types.Work.{Work}
use Rattle.line.specs.declared.types.Work.TheVariants.{Read, Write}
use Rattle.line.specs.Lines.{owed}
use Rattle.line.specs.Seen.{seen}
use Rattle.line.specs.Memories.{Sound}
use Rattle.line.specs.Steps.{Free, Room, wants}
use Rattle.calls.proofs.Outcomes.{sent_is, written_is}

module _ {V : Type 0} (n : ℕ) (m : Memory V) (sound : Sound n m) where
  pub has_room : (k : ℕ) → k ≤ length m.bus.now - m.sent → Room (seen m) k
  has_room k l = omega (arith, sent_is n m sound, sound.1)

  pub no_room : (k : ℕ) → length m.bus.now - m.sent < k → Room (seen m) k → ⊥
  no_room k l room = omega (arith, sent_is n m sound, sound.1)

  -- the places for so many more
  pub places_left : (k : ℕ) → k ≤ length m.bus.now - m.sent → m.sent + k ≤ length m.bus.now
  places_left k l = omega (arith, sound.1)

  pub few_cabinets : n ≤ 16 → length m.replicas.now ≤ 16
  few_cabinets few = omega (arith, sound.0.1)

  module _ (free : ℕ) (is : m.written + owed m.stations.now + free ≡ length m.journal.now) where
    pub has_free : (k : ℕ) → k ≤ free → Free (seen m) k
    has_free k l = omega (arith, written_is n m sound)

    pub not_free : (k : ℕ) → free < k → Free (seen m) k → ⊥
    not_free k l f = omega (arith, written_is n m sound)

    pub row_left : (work : Work V) → wants work ≤ free → m.written < length m.journal.now
    row_left (Write x) l = omega arith
    row_left Read l = omega arith
