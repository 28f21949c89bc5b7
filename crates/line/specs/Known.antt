-- One run, so that the order of jobs is not a statement about nothing: three cabinets, majority, two stations. The write
-- of `new` over `old` by station 1 gets its tag and does not end; the read by station 2 needs two trips and gives `new`.
use Rattle.std.specs.Prelude.{◌≡◌, ℕ, List, [], ◌∷◌, map, Ok}
use Rattle.telegrams.specs.declared.Pair.{Pair}
use Rattle.quorums.specs.Families.{MajorityOf}
use Rattle.views.specs.Settings.{KnownSettings}
use Rattle.line.specs.declared.types.Collected.TheVariants as result
use Rattle.line.specs.declared.types.Delivered.TheVariants as answer
use Rattle.line.specs.declared.types.Work.TheVariants.{Write, Read}
use Rattle.line.specs.Excluded.{Excluded}
use Rattle.line.specs.Lines.{View, begin_row, ended_row, tagged_row}
use Rattle.line.specs.Runs.{EndedAt, Event, Moment, Placed, Run, StandsBefore, began, collected, delivered, opened, read, write}

module _ {V : Type 0} (old new : V) where
  abbrev pub start : View V
  start = opened (record { count = 0; value = old }) 3 2 256 1024

  -- the pair of the write
  abbrev pub written : Pair V
  written = record { tag = record { count = 1; owner = 1 }; value = new }

  -- the calls with their answers, the newest first
  abbrev pub calls : List (Event V)
  calls =
      collected 2 2 (Ok (result.Got written 2))
      ∷ delivered 6 (Ok answer.Ended)
      ∷ delivered 6 (Ok answer.Kept)
      ∷ delivered 5 (Ok answer.Answered)
      ∷ delivered 5 (Ok answer.Answered)
      ∷ delivered 5 (Ok answer.SecondTrip)
      ∷ delivered 5 (Ok answer.Kept)
      ∷ delivered 4 (Ok answer.Answered)
      ∷ delivered 4 (Ok answer.Answered)
      ∷ began 2 Read (Ok (2, 2))
      ∷ delivered 1 (Ok answer.Answered)
      ∷ delivered 1 (Ok answer.SecondTrip)
      ∷ delivered 1 (Ok answer.Kept)
      ∷ delivered 0 (Ok answer.Answered)
      ∷ delivered 0 (Ok answer.Answered)
      ∷ began 1 (Write new) (Ok (1, 0))
      ∷ []

  pub record KnownRun : Type 0 where
    pub moments : List (Moment V)
    pub line : View V
    pub run : Run (MajorityOf 3) start moments line
    pub events : map (λ (m : Moment V). m.event) moments ≡ calls
    pub journal : line.journal ≡ begin_row start 1 0 (Write new) ∷ tagged_row 1 0 written ∷ begin_row start 2 2 Read ∷ ended_row 2 2 written 2 0 ∷ []
    -- the write and the read are placed, in this order
    pub write_job : Placed moments
    pub writes : (write_job.sort ≡ write) × (write_job.job ≡ 0) × (write_job.value ≡ new)
    pub unfinished : (k : ℕ) → EndedAt moments write_job k → ⊥
    pub read_job : Placed moments
    pub reads : (read_job.sort ≡ read) × (read_job.job ≡ 2) × (read_job.value ≡ new)
    pub in_order : StandsBefore moments write_job read_job

-- The known facts in one statement: what is picked and judged in some small lines, with the counts that come last; what
-- the steps leave no room for; and the run, for every two values.
pub record KnownFacts (V : Type 0) (F : ℕ → Type 0) : Type 0 where
  pub settings : KnownSettings
  pub excluded : Excluded V F
  pub run : (old new : V) → KnownRun old new
