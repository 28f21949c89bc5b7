-- What holds of a line after every call, from which the order of jobs follows.
use Rattle.std.proofs.Common.{◌≡◌, ℕ, ◌<◌, ◌≤◌, ◌⊎◌, [], Some, None}
use Rattle.std.specs.List.{Contains, slice_get}
use Rattle.words.specs.declared.tag.Tag.{Tag}
use Rattle.words.specs.Tags.{Before, Upto}
use Rattle.telegrams.specs.declared.Pair.{Pair}
use Rattle.telegrams.specs.declared.Telegram.{Telegram}
use Rattle.telegrams.specs.declared.TelegramKind.{TelegramKind}
use Rattle.telegrams.specs.declared.TelegramKind.TheVariants.{Query, Told, Set, Took}
use Rattle.quorums.specs.Sets.{Member}
use Rattle.line.specs.declared.types.Hand.{Hand}
use Rattle.line.specs.declared.types.Stage.{Stage}
use Rattle.line.specs.declared.types.Stage.TheVariants.{Querying, Setting, Ended, Spent}
use Rattle.line.specs.declared.types.Work.{Work}
use Rattle.line.specs.declared.types.Work.TheVariants.{Write, Read}
use Rattle.line.specs.Lines.{View, begin_row, ended_row, first_pair, hand_of, last_of, replica, tagged_row}

module _ {V : Type 0} (v : View V) where
  -- rows of the journal
  abbrev pub Begun : ℕ → ℕ → Work V → Type 0
  Begun s job work = slice_get v.journal job ≡ Some (begin_row v s job work)

  abbrev pub TaggedRow : ℕ → ℕ → ℕ → Pair V → Type 0
  TaggedRow k s job p = slice_get v.journal k ≡ Some (tagged_row s job p)

  abbrev pub EndedRow : ℕ → ℕ → ℕ → Pair V → Type 0
  EndedRow i s job p = (trips : ℕ) × (strikes : ℕ) × (slice_get v.journal i ≡ Some (ended_row s job p trips strikes))

  -- the first pair, or one of a tagged row
  abbrev pub Known : Pair V → Type 0
  Known p = (p ≡ first_pair v) ⊎ ((k : ℕ) × (s : ℕ) × (job : ℕ) × TaggedRow k s job p)

  -- no earlier than what ended before the job began
  abbrev pub AboveEnded : ℕ → Tag → Type 0
  AboveEnded job tag = (i s j : ℕ) (p : Pair V) → EndedRow i s j p → i < job → Upto p.tag tag

  -- a job's pair, as its work asks
  abbrev pub Earned : ℕ → ℕ → Work V → Pair V → Type 0
  Earned s job (Write x) p = (k : ℕ) × TaggedRow k s job p
  Earned s job Read p = AboveEnded job p.tag

  -- sets and tooks about a job in hand
  abbrev pub SetFits : Stage V → Pair V → Type 0
  SetFits Querying p = ⊥
  SetFits (Setting u strikes took) p = u ≡ p
  SetFits (Ended u trips strikes) p = Unit {0}
  SetFits Spent p = Unit {0}

  abbrev pub TookFits : ℕ → Stage V → Type 0
  TookFits c Querying = ⊥
  TookFits c (Setting u strikes took) = Upto u.tag (replica v c).tag
  TookFits c (Ended u trips strikes) = Unit {0}
  TookFits c Spent = Unit {0}

  abbrev pub KindFits : Telegram V → TelegramKind V → Hand V → Type 0
  KindFits t Query h = Unit {0}
  KindFits t (Told p) h = Unit {0}
  KindFits t (Set p) h = SetFits h.stage p
  KindFits t Took h = TookFits t.cabinet h.stage

  abbrev pub Carries : Telegram V → TelegramKind V → Type 0
  Carries t Query = Unit {0}
  Carries t (Told p) = Known p × Upto p.tag (replica v t.cabinet).tag
  Carries t (Set p) = Known p
  Carries t Took = Unit {0}

  pub record Sound (t : Telegram V) : Type 0 where
    pub station : 1 ≤ t.station
    pub work : Work V
    pub begun : Begun t.station t.job work
    pub carries : Carries t t.kind
    pub fits : (h : Hand V) → hand_of v t.station ≡ Some h → h.job ≡ t.job → KindFits t t.kind h

  abbrev pub StageFits : ℕ → Hand V → Stage V → Type 0
  StageFits s h Querying = Unit {0}
  StageFits s h (Setting p strikes took) =
      Known p × ((c : ℕ) → Member c took → Upto p.tag (replica v c).tag) × Earned s h.job h.work p
  StageFits s h (Ended p trips strikes) = Unit {0}
  StageFits s h Spent = Unit {0}

  -- nothing of cabinet c is earlier than the pair that row i ended with, where it was told to a later job
  pub record Guard (i : ℕ) (p : Pair V) (c : ℕ) : Type 0 where
    pub stored : Upto p.tag (replica v c).tag
    pub under_way : (t : Telegram V) (u : Pair V) → Contains v.bus t → t.kind ≡ Told u → t.cabinet ≡ c → i < t.job → Upto p.tag u.tag
    pub kept : (s : ℕ) (h : Hand V) (u : Pair V) → 1 ≤ s → hand_of v s ≡ Some h → v.answers s c ≡ Some u → i < h.job → Upto p.tag u.tag

  -- of a tagged row, and of an ended one: the first pair and the journal tell it
  pub record TaggedFits (k s job : ℕ) (p : Pair V) : Type 0 where
    pub owner : p.tag.owner ≡ s
    pub station : 1 ≤ s
    pub above_first : v.first.count < p.tag.count
    pub begun : Begun s job (Write p.value)
    pub above_ended : (i r j : ℕ) (u : Pair V) → EndedRow i r j u → i < job → Before u.tag p.tag
    pub rises : (i j : ℕ) (u : Pair V) → i < k → TaggedRow i s j u → u.tag.count < p.tag.count

  pub record EndedFits (F : ℕ → Type 0) (s job : ℕ) (p : Pair V) : Type 0 where
    pub work : Work V
    pub begun : Begun s job work
    pub known : Known p
    pub earned : Earned s job work p
    pub quorum : ℕ
    pub is_quorum : F quorum

-- the line's first pair and journal alone
abbrev pub page : {V : Type 0} → View V → View V
page v = record {
  first = v.first;
  replicas = [];
  stations = [];
  answers = λ s c. None;
  bus = [];
  journal = v.journal;
  bus_places = 0;
  journal_places = 0;
}

module _ {V : Type 0} (v : View V) (F : ℕ → Type 0) where
  pub record Ending (i s job : ℕ) (p : Pair V) : Type 0 where
    pub fits : EndedFits (page v) F s job p
    pub guards : (c : ℕ) → Member c fits.quorum → Guard v i p c

  pub record Inv : Type 0 where
    pub replicas : (c : ℕ) → Known v (replica v c)
    pub bus : (t : Telegram V) → Contains v.bus t → Sound v t
    pub answers : (s c : ℕ) (p : Pair V) → 1 ≤ s → v.answers s c ≡ Some p → Known v p × Upto p.tag (replica v c).tag
    pub hands : (s : ℕ) (h : Hand V) → 1 ≤ s → hand_of v s ≡ Some h → Begun v s h.job h.work × StageFits v s h h.stage
    pub told : (s : ℕ) (h : Hand V) → 1 ≤ s → hand_of v s ≡ Some h → (c : ℕ) → Member c h.told → (p : Pair V) × (v.answers s c ≡ Some p)
    pub lasts : (k s job : ℕ) (p : Pair V) → TaggedRow v k s job p → p.tag.count ≤ last_of v s
    pub tagged : (k s job : ℕ) (p : Pair V) → TaggedRow v k s job p → TaggedFits (page v) k s job p
    pub ended : (i s job : ℕ) (p : Pair V) → EndedRow v i s job p → Ending i s job p
