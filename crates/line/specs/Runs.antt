-- Runs of calls from an opening on, and the order in which tags place their jobs.
use Rattle.std.specs.Prelude.{◌≡◌, ℕ, ◌<◌, ◌≤◌, ◌⊎◌, List, [], ◌∷◌, length, replicate, Some, None, Ok, Result, ◌≢◌}
use Rattle.std.specs.List.{slice_get}
use Rattle.words.specs.declared.refusal.Refusal.{Refusal}
use Rattle.words.specs.declared.tag.Tag.{Tag}
use Rattle.words.specs.Tags.{Before}
use Rattle.telegrams.specs.declared.Pair.{Pair}
use Rattle.telegrams.specs.declared.Telegram.{Telegram}
use Rattle.quorums.specs.Sets.{Member, Share}
use Rattle.line.specs.declared.types.Collected.{Collected}
use Rattle.line.specs.declared.types.Collected.TheVariants as result
use Rattle.line.specs.declared.types.Delivered.{Delivered}
use Rattle.line.specs.declared.types.Delivered.TheVariants as answer
use Rattle.line.specs.declared.types.First.{First}
use Rattle.line.specs.declared.types.Hand.{Hand}
use Rattle.line.specs.declared.types.Row.{Row}
use Rattle.line.specs.declared.types.Stage.TheVariants.{Setting, Ended}
use Rattle.line.specs.declared.types.Work.{Work}
use Rattle.line.specs.declared.types.Work.TheVariants.{Write, Read}
use Rattle.line.specs.Lines.{View, begin_row, ended_row, hand_of, idle, tagged_row}
use Rattle.line.specs.Steps.{Begins, Claims, Collects, Delivers, Doubles, GivesUp, Loses, Shelves}

-- the laws of a quorum system of n cabinets
pub record Laws (F : ℕ → Type 0) (n : ℕ) : Type 0 where
  pub few : n ≤ 16
  pub member : (q : ℕ) → F q → (k : ℕ) × Member k q
  pub line : (q : ℕ) → F q → (k : ℕ) → Member k q → k < n
  pub share : (p q : ℕ) → F p → F q → Share p q

-- a call with its arguments and its answer
pub data Event (V : Type 0) : Type 0 where
  began : ℕ → Work V → Result (ℕ × ℕ) Refusal → Event V
  delivered : ℕ → Result Delivered Refusal → Event V
  lost : ℕ → Result (Unit {0}) Refusal → Event V
  doubled : ℕ → Result (Unit {0}) Refusal → Event V
  collected : ℕ → ℕ → Result (Collected V) Refusal → Event V
  gave_up : ℕ → ℕ → Result (Unit {0}) Refusal → Event V
  shelved : ℕ → ℕ → Result (Unit {0}) Refusal → Event V
  claimed : ℕ → Result (ℕ × ℕ) Refusal → Event V

-- a call with the line before it and after it
pub record Moment (V : Type 0) : Type 0 where
  pub before : View V
  pub event : Event V
  pub after : View V

-- jobs are writes and reads
pub data Sort : Type 0 where
  write read : Sort

module _ {V : Type 0} where
  abbrev pub Step : (ℕ → Type 0) → View V → Event V → View V → Type 0
  Step F v (began s work r) w = Begins v s work r w
  Step F v (delivered place r) w = Delivers F v place r w
  Step F v (lost place r) w = Loses v place r w
  Step F v (doubled place r) w = Doubles v place r w
  Step F v (collected s job r) w = Collects v s job r w
  Step F v (gave_up s job r) w = GivesUp v s job r w
  Step F v (shelved s job r) w = Shelves v s job r w
  Step F v (claimed s r) w = Claims v s r w

  -- a line at its opening: every replica the first pair, bus and journal empty, each own last count 0
  abbrev pub opened : First V → ℕ → ℕ → ℕ → ℕ → View V
  opened first n m bus_places journal_places = record {
    first = first;
    replicas = replicate n (record { tag = record { count = first.count; owner = 0 }; value = first.value });
    stations = replicate m idle;
    answers = λ s c. None;
    bus = [];
    journal = [];
    bus_places = bus_places;
    journal_places = journal_places;
  }

  -- calls one after the other, the newest first, each finding what the one before left
  pub data Run (F : ℕ → Type 0) (start : View V) : List (Moment V) → View V → Type 0 where
    none : Run F start [] start
    more : {ms : List (Moment V)} {v w : View V} {e : Event V} → Run F start ms v → Step F v e w → Run F start (record { before = v; event = e; after = w } ∷ ms) w

  -- the moment at a time; times count from 0
  abbrev pub AtTime : List (Moment V) → ℕ → Moment V → Type 0
  AtTime [] k m = ⊥
  AtTime (x ∷ ms) k m = ((k ≡ length ms) × (x ≡ m)) ⊎ AtTime ms k m

  -- a job began in the begin that handed out its ticket
  abbrev pub BeginsAt : Moment V → ℕ → ℕ → Work V → Type 0
  BeginsAt m s job work = m.event ≡ began s work (Ok (s, job))

  -- a telegram of the job is delivered
  abbrev pub DeliversAt : Moment V → ℕ → ℕ → Delivered → Type 0
  DeliversAt m s job a =
      (place : ℕ) × (t : Telegram V) × (m.event ≡ delivered place (Ok a)) × (slice_get m.before.bus place ≡ Some t)
      × (t.station ≡ s) × (t.job ≡ job)

  -- a second trip begins with a pair
  abbrev pub TripsAt : Moment V → ℕ → ℕ → Pair V → Type 0
  TripsAt m s job p =
      DeliversAt m s job answer.SecondTrip
      × ((h : Hand V) × (strikes : ℕ) × (took : ℕ) × (hand_of m.after s ≡ Some h) × (h.stage ≡ Setting p strikes took))

  -- a job ends with a pair
  abbrev pub EndsAt : Moment V → ℕ → ℕ → Pair V → Type 0
  EndsAt m s job p =
      DeliversAt m s job answer.Ended
      × ((h : Hand V) × (trips : ℕ) × (strikes : ℕ) × (hand_of m.after s ≡ Some h) × (h.stage ≡ Ended p trips strikes))

  module _ (ms : List (Moment V)) where
    -- a write's tag comes with its second trip, and its value is the one handed to begin; a read has
    -- the tag and the value that it ends with
    abbrev pub Got : Sort → ℕ → ℕ → Tag → V → Type 0
    Got write s job tag value =
        (k : ℕ) × (m : Moment V) × (p : Pair V) × AtTime ms k m × TripsAt m s job p × (p.tag ≡ tag)
    Got read s job tag value =
        (k : ℕ) × (m : Moment V) × (p : Pair V) × AtTime ms k m × EndsAt m s job p × (p.tag ≡ tag) × (p.value ≡ value)

    abbrev pub work_of : Sort → V → Work V
    work_of write value = Write value
    work_of read value = Read

    -- a job with a place in the order: a write with a tag, or a read that ended
    pub record Placed : Type 0 where
      pub sort : Sort
      pub station : ℕ
      pub job : ℕ
      pub tag : Tag
      pub value : V
      pub began_at : ℕ
      pub moment : Moment V
      pub at : AtTime ms began_at moment
      pub begins : BeginsAt moment station job (work_of sort value)
      pub got : Got sort station job tag value

    -- by tag; at equal tags a write before a read, and of two reads the one that began first
    abbrev pub AtEqualTags : Sort → Sort → ℕ → ℕ → Type 0
    AtEqualTags write write a b = ⊥
    AtEqualTags write read a b = Unit {0}
    AtEqualTags read write a b = ⊥
    AtEqualTags read read a b = a < b

    abbrev pub StandsBefore : Placed → Placed → Type 0
    StandsBefore x y = Before x.tag y.tag ⊎ ((x.tag ≡ y.tag) × AtEqualTags x.sort y.sort x.began_at y.began_at)

    -- a placed job ended at a time
    abbrev pub EndedAt : Placed → ℕ → Type 0
    EndedAt x k = (m : Moment V) × (p : Pair V) × AtTime ms k m × EndsAt m x.station x.job p

    -- The order of jobs is one in which they could have run one at a time.
    pub record Ordered (first : V) : Type 0 where
      -- of two different placed jobs exactly one stands before the other
      pub total : (x y : Placed) → (x.job ≢ y.job) → StandsBefore x y ⊎ StandsBefore y x
      pub one_way : (x y : Placed) → StandsBefore x y → StandsBefore y x → ⊥
      -- one that ended before another began stands before it
      pub in_time : (x y : Placed) (k : ℕ) → EndedAt x k → k < y.began_at → StandsBefore x y
      -- a read gives the value of the last write before it, or the first value
      pub last_write : (y : Placed) → y.sort ≡ read
          → (((x : Placed) → x.sort ≡ write → StandsBefore x y → ⊥) × (y.value ≡ first))
          ⊎ ((x : Placed) × (x.sort ≡ write) × StandsBefore x y × (y.value ≡ x.value)
          × ((z : Placed) → z.sort ≡ write → StandsBefore z y → (z.job ≡ x.job) ⊎ StandsBefore z x))

    -- A second trip carries the job's tag and value.
    abbrev pub Carried : Type 0
    Carried = (x : Placed) (k : ℕ) (m : Moment V) (p : Pair V) → AtTime ms k m → TripsAt m x.station x.job p → (p.tag ≡ x.tag) × (p.value ≡ x.value)

    -- The journal shows it. A row's number is how many rows stood before its call, and rows stay.
    pub record Shown (v : View V) : Type 0 where
      pub stays : (k : ℕ) (m : Moment V) (i : ℕ) (row : Row V) → AtTime ms k m → slice_get m.after.journal i ≡ Some row → slice_get v.journal i ≡ Some row
      pub begun : (k : ℕ) (m : Moment V) (s job : ℕ) (work : Work V) → AtTime ms k m → BeginsAt m s job work
          → (job ≡ length m.before.journal) × (slice_get v.journal job ≡ Some (begin_row v s job work))
      pub tagged : (x : Placed) → x.sort ≡ write
          → (k : ℕ) × (slice_get v.journal k ≡ Some (tagged_row x.station x.job (record { tag = x.tag; value = x.value })))
      pub ended : (x : Placed) (k : ℕ) (m : Moment V) (p : Pair V) → AtTime ms k m → EndsAt m x.station x.job p
          → (p.tag ≡ x.tag) × (p.value ≡ x.value)
          × ((trips : ℕ) × (strikes : ℕ) × (slice_get v.journal (length m.before.journal) ≡ Some (ended_row x.station x.job p trips strikes)))
      pub collect : (x : Placed) (k : ℕ) (m : Moment V) (p : Pair V) (trips : ℕ) → AtTime ms k m → m.event ≡ collected x.station x.job (Ok (result.Got p trips))
          → (p.tag ≡ x.tag) × (p.value ≡ x.value)

  -- the order of jobs of every run that follows an opening
  abbrev pub OrderOfJobs : (ℕ → Type 0) → First V → ℕ → ℕ → ℕ → ℕ → Type 0
  OrderOfJobs F first n m bus_places journal_places =
      (ms : List (Moment V)) (v : View V) → Run F (opened first n m bus_places journal_places) ms v → Ordered ms first.value × Shown ms v

  -- in every such run a second trip carries its job's tag and value
  abbrev pub TripsCarry : (ℕ → Type 0) → First V → ℕ → ℕ → ℕ → ℕ → Type 0
  TripsCarry F first n m bus_places journal_places =
      (ms : List (Moment V)) (v : View V) → Run F (opened first n m bus_places journal_places) ms v → Carried ms
