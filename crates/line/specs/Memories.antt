-- The memory lent to a line: what every call judges first, what a call leaves, and an opening.
use Rattle.std.specs.Prelude.{◌≡◌, ℕ, ◌+◌, ◌-◌, ◌*◌, ◌^◌, ◌≤◌, ◌⊎◌, List, [], ◌∷◌, length, Some, None, Ok, Err, Option, Result}
use Rattle.words.specs.declared.refusal.Refusal.{Refusal}
use Rattle.words.specs.Refusals.{number}
use Rattle.line.specs.declared.types.First.{First}
use Rattle.line.specs.declared.types.Memory.{Memory}
use Rattle.line.specs.Lines.{owed}
use Rattle.line.specs.Seen.{seen}
use Rattle.line.specs.Runs.{Carried, Event, Moment, Ordered, Shown, Step, began, claimed, collected, delivered, doubled, gave_up, lost, opened, shelved}

-- the refusal of a call, if it was refused
abbrev pub refusal_of : {R : Type 0} → Result R Refusal → Option Refusal
refusal_of (Ok x) = None
refusal_of (Err e) = Some e

abbrev pub refusal : {V : Type 0} → Event V → Option Refusal
refusal (began s work r) = refusal_of r
refusal (delivered place r) = refusal_of r
refusal (lost place r) = refusal_of r
refusal (doubled place r) = refusal_of r
refusal (collected s job r) = refusal_of r
refusal (gave_up s job r) = refusal_of r
refusal (shelved s job r) = refusal_of r
refusal (claimed s r) = refusal_of r

module _ {V : Type 0} where
  -- lengths and a first count that suit a line of n cabinets
  abbrev pub Suits : ℕ → ℕ → Memory V → Type 0
  Suits n count m =
      (count ≤ 2 ^ 28 - 1)
      × (length m.replicas.now ≡ n)
      × (1 ≤ length m.stations.now) × (length m.stations.now ≤ 32)
      × (length m.answers.now ≡ n * length m.stations.now)
      × (n ≤ length m.bus.now) × (length m.bus.now ≤ 1024)
      × (3 ≤ length m.journal.now) × (length m.journal.now ≤ 4096)

  -- besides, the two ends lie within their places, and no more rows are owed than free
  abbrev pub Sound : ℕ → Memory V → Type 0
  Sound n m =
      Suits n m.first.count m × (m.sent ≤ length m.bus.now)
      × (m.written + owed m.stations.now ≤ length m.journal.now)

  -- judging it: the rows that are free beyond those owed, or refusal 1
  abbrev pub Judges : ℕ → Memory V → Result ℕ Refusal → Type 0
  Judges n m (Ok free) = Sound n m × (m.written + owed m.stations.now + free ≡ length m.journal.now)
  Judges n m (Err e) = (number e ≡ 1) × (Sound n m → ⊥)

  -- the same slices are lent, and the ends lie within their places
  abbrev pub Lends : Memory V → Memory V → Type 0
  Lends m after =
      (after.replicas.ghost_name ≡ m.replicas.ghost_name)
      × (after.stations.ghost_name ≡ m.stations.ghost_name)
      × (after.answers.ghost_name ≡ m.answers.ghost_name) × (length after.answers.now ≡ length m.answers.now)
      × (after.bus.ghost_name ≡ m.bus.ghost_name) × (after.sent ≤ length after.bus.now)
      × (after.journal.ghost_name ≡ m.journal.ghost_name) × (after.written ≤ length after.journal.now)

  -- An opening. What the memory held before is not judged, its lengths are.
  abbrev pub Opens : ℕ → First V → Memory V → Result (Unit {0}) Refusal → Memory V → Type 0
  Opens n first m r after =
      ((Suits n first.count m → ⊥) × ((e : Refusal) × (r ≡ Err e) × (number e ≡ 1)) × (after ≡ m))
      ⊎ (Suits n first.count m × (r ≡ Ok tt) × Lends m after
      × (seen after ≡ opened first n (length m.stations.now) (length m.bus.now) (length m.journal.now)))

  -- A call. It judges the memory; if that is sound it is a step; refused, it leaves all memory as found.
  abbrev pub Called : ℕ → (ℕ → Type 0) → Event V → Memory V → Memory V → Type 0
  Called n F e m after =
      ((Sound n m → ⊥) × ((x : Refusal) × (refusal e ≡ Some x) × (number x ≡ 1)) × (after ≡ m))
      ⊎ (Sound n m × Step F (seen m) e (seen after) × Lends m after × ((x : Refusal) → refusal e ≡ Some x → after ≡ m))

  -- calls one after the other on the same memory, the newest first
  pub data Calls (n : ℕ) (F : ℕ → Type 0) (start : Memory V) : List (Moment V) → Memory V → Type 0 where
    none : Calls n F start [] start
    more : {ms : List (Moment V)} {m after : Memory V} {e : Event V} → Calls n F start ms m → Called n F e m after
        → Calls n F start (record { before = seen m; event = e; after = seen after } ∷ ms) after

  -- The order of jobs, whatever calls follow on the memory that an opening left; and that memory stays sound.
  abbrev pub OrderAfter : ℕ → (ℕ → Type 0) → First V → Memory V → Type 0
  OrderAfter n F first start =
      (ms : List (Moment V)) (m : Memory V) → Calls n F start ms m → Ordered ms first.value × Carried ms × Shown ms (seen m) × Sound n m
