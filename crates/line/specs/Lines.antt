-- What a line's memory holds, with the dead places cut off, and the parts that steps speak of.
use Rattle.std.specs.Prelude.{ℕ, ◌+◌, ◌-◌, ◌*◌, ◌/◌, ◌%◌, ◌^◌, ◌≤◌, cond, List, [], ◌∷◌, ◌++◌, map, length, take, Some, None, Option, ◌==◌, slice_index_or, slice_set}
use Rattle.std.specs.List.{slice_get, range_with_len}
use Rattle.words.specs.declared.tag.Tag.{Tag}
use Rattle.telegrams.specs.declared.Pair.{Pair}
use Rattle.telegrams.specs.declared.Telegram.{Telegram}
use Rattle.telegrams.specs.declared.TelegramKind.{TelegramKind}
use Rattle.line.specs.declared.types.First.{First}
use Rattle.line.specs.declared.types.Hand.{Hand}
use Rattle.line.specs.declared.types.Memory.{Memory}
use Rattle.line.specs.declared.types.Row.{Row}
use Rattle.line.specs.declared.types.RowKind.TheVariants as kind
use Rattle.line.specs.declared.types.Stage.{Stage}
use Rattle.line.specs.declared.types.Stage.TheVariants.{Querying, Setting, Ended, Spent}
use Rattle.line.specs.declared.types.Station.{Station}
use Rattle.line.specs.declared.types.Work.{Work}
use Rattle.line.specs.declared.types.Work.TheVariants.{Write, Read}

-- the live parts of a line
pub record View (V : Type 0) : Type 0 where
  pub first : First V
  pub replicas : List (Pair V)
  pub stations : List (Station V)
  -- what a cabinet told a station's present job, by the station's number and the cabinet's
  pub answers : ℕ → ℕ → Option (Pair V)
  pub bus : List (Telegram V)
  pub journal : List (Row V)
  -- how many places bus and journal have
  pub bus_places : ℕ
  pub journal_places : ℕ

-- a function changed at one number
abbrev pub put : {X : Type 0} → (ℕ → X) → ℕ → X → ℕ → X
put f i x k = cond (k == i) x (f k)

module _ {V : Type 0} where
  abbrev pub idle : Station V
  idle = record { last = 0; hand = None }

  abbrev pub station_at : List (Station V) → ℕ → Station V
  station_at stations s = slice_index_or stations (s - 1) idle

  -- an answer is live if the cabinet has told the station's present job
  abbrev pub live : ℕ → List (Pair V) → ℕ → ℕ → Option (Hand V) → Option (Pair V)
  live n answers s c None = None
  live n answers s c (Some h) = cond (h.told / 2 ^ c % 2 == 1) (slice_get answers ((s - 1) * n + c)) None

  abbrev pub view : Memory V → View V
  view m = record {
    first = m.first;
    replicas = m.replicas.now;
    stations = m.stations.now;
    answers = λ s c. live (length m.replicas.now) m.answers.now s c (station_at m.stations.now s).hand;
    bus = take m.sent m.bus.now;
    journal = take m.written m.journal.now;
    bus_places = length m.bus.now;
    journal_places = length m.journal.now;
  }

  -- Reading a line: the first pair, a cabinet's replica, a station's own last count and its job in hand.
  abbrev pub first_tag : View V → Tag
  first_tag v = record { count = v.first.count; owner = 0 }

  abbrev pub first_pair : View V → Pair V
  first_pair v = record { tag = first_tag v; value = v.first.value }

  abbrev pub size : View V → ℕ
  size v = length v.replicas

  abbrev pub replica : View V → ℕ → Pair V
  replica v c = slice_index_or v.replicas c (first_pair v)

  abbrev pub last_of : View V → ℕ → ℕ
  last_of v s = (station_at v.stations s).last

  abbrev pub hand_of : View V → ℕ → Option (Hand V)
  hand_of v s = (station_at v.stations s).hand

  abbrev pub IsStation : View V → ℕ → Type 0
  IsStation v s = (1 ≤ s) × (s ≤ length v.stations)

  -- the tags that the cabinets told a station's present job
  abbrev pub tag_of : Option (Pair V) → Tag
  tag_of None = record { count = 0; owner = 0 }
  tag_of (Some p) = p.tag

  abbrev pub told_tags : View V → ℕ → List Tag
  told_tags v s = map (λ c. tag_of (v.answers s c)) (range_with_len 0 (size v))

  -- Changing one: telegrams join the bus, a row joins the journal, a cabinet's replica, a station's record.
  abbrev pub with_bus : View V → List (Telegram V) → View V
  with_bus v bus = record {
    first = v.first;
    replicas = v.replicas;
    stations = v.stations;
    answers = v.answers;
    bus = bus;
    journal = v.journal;
    bus_places = v.bus_places;
    journal_places = v.journal_places;
  }

  abbrev pub send : View V → List (Telegram V) → View V
  send v telegrams = with_bus v (v.bus ++ telegrams)

  abbrev pub note : View V → Row V → View V
  note v row = record {
    first = v.first;
    replicas = v.replicas;
    stations = v.stations;
    answers = v.answers;
    bus = v.bus;
    journal = v.journal ++ (row ∷ []);
    bus_places = v.bus_places;
    journal_places = v.journal_places;
  }

  abbrev pub store : View V → ℕ → Pair V → View V
  store v c p = record {
    first = v.first;
    replicas = slice_set v.replicas c p;
    stations = v.stations;
    answers = v.answers;
    bus = v.bus;
    journal = v.journal;
    bus_places = v.bus_places;
    journal_places = v.journal_places;
  }

  -- the station's own last count, its job in hand, and what was told it
  abbrev pub change : View V → ℕ → ℕ → Option (Hand V) → (ℕ → Option (Pair V)) → View V
  change v s last hand answers = record {
    first = v.first;
    replicas = v.replicas;
    stations = slice_set v.stations (s - 1) (record { last = last; hand = hand });
    answers = put v.answers s answers;
    bus = v.bus;
    journal = v.journal;
    bus_places = v.bus_places;
    journal_places = v.journal_places;
  }

  -- the job in hand alone
  abbrev pub hold : View V → ℕ → Hand V → View V
  hold v s h = change v s (last_of v s) (Some h) (v.answers s)

  abbrev pub at_stage : Hand V → Stage V → Hand V
  at_stage h stage = record { job = h.job; work = h.work; told = h.told; stage = stage; shelved = h.shelved }

  -- Telegrams.
  abbrev pub to_all : View V → ℕ → ℕ → TelegramKind V → List (Telegram V)
  to_all v s job kind = map (λ c. record { cabinet = c; station = s; job = job; kind = kind }) (range_with_len 0 (size v))

  abbrev pub reply : Telegram V → TelegramKind V → Telegram V
  reply t kind = record { cabinet = t.cabinet; station = t.station; job = t.job; kind = kind }

  -- Rows; fields without a use hold the first tag, 0 and the first value.
  abbrev pub begin_row : View V → ℕ → ℕ → Work V → Row V
  begin_row v s job (Write x) = record { kind = kind.Write; station = s; job = job; tag = first_tag v; trips = 0; strikes = 0; value = x }
  begin_row v s job Read = record { kind = kind.Read; station = s; job = job; tag = first_tag v; trips = 0; strikes = 0; value = v.first.value }

  abbrev pub tagged_row : ℕ → ℕ → Pair V → Row V
  tagged_row s job p = record { kind = kind.Tagged; station = s; job = job; tag = p.tag; trips = 1; strikes = 0; value = p.value }

  abbrev pub ended_row : ℕ → ℕ → Pair V → ℕ → ℕ → Row V
  ended_row s job p trips strikes = record { kind = kind.Ended; station = s; job = job; tag = p.tag; trips = trips; strikes = strikes; value = p.value }

  abbrev pub given_row : View V → ℕ → ℕ → Row V
  given_row v s job = record { kind = kind.Given; station = s; job = job; tag = first_tag v; trips = 0; strikes = 0; value = v.first.value }

  abbrev pub spent_row : View V → ℕ → ℕ → Row V
  spent_row v s job = record { kind = kind.Spent; station = s; job = job; tag = first_tag v; trips = 1; strikes = 0; value = v.first.value }

  -- Rows owed: 2 for a write still querying, 1 for any other unfinished job.
  abbrev pub owed_by : Work V → Stage V → ℕ
  owed_by (Write x) Querying = 2
  owed_by Read Querying = 1
  owed_by work (Setting pair strikes took) = 1
  owed_by work (Ended pair trips strikes) = 0
  owed_by work Spent = 0

  abbrev pub owed_in : Option (Hand V) → ℕ
  owed_in None = 0
  owed_in (Some h) = owed_by h.work h.stage

  abbrev pub owed : List (Station V) → ℕ
  owed [] = 0
  owed (st ∷ stations) = owed_in st.hand + owed stations
