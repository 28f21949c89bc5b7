-- The lengths and limits of the memory lent to a line of n cabinets.
use Rattle.std.specs.Prelude.{◌≡◌, ℕ, ◌*◌, ◌≤◌, length}
use Rattle.line.specs.declared.types.Memory.{Memory}

abbrev pub Sized : {V : Type 0} → ℕ → Memory V → Type 0
Sized n m =
    (m.first.count ≤ 268435455)
    × (length m.replicas.now ≡ n)
    × (1 ≤ length m.stations.now) × (length m.stations.now ≤ 32)
    × (length m.answers.now ≡ n * length m.stations.now)
    × (n ≤ length m.bus.now) × (length m.bus.now ≤ 1024) × (m.sent ≤ length m.bus.now)
    × (3 ≤ length m.journal.now) × (length m.journal.now ≤ 4096) × (m.written ≤ length m.journal.now)
