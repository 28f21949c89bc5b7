-- What the steps leave no room for, each as what a call must do instead.
use Rattle.std.specs.Prelude.{◌≡◌, ℕ, ◌-◌, ◌^◌, ◌<◌, ◌≤◌, ◌⊎◌, length, Some, None, Ok, Option, Result, bit_or}
use Rattle.std.specs.List.{slice_get}
use Rattle.words.specs.declared.refusal.Refusal.{Refusal}
use Rattle.words.specs.declared.tag.Tag.{Tag}
use Rattle.words.specs.Tags.{Before, Upto}
use Rattle.telegrams.specs.declared.Pair.{Pair}
use Rattle.telegrams.specs.declared.Telegram.{Telegram}
use Rattle.telegrams.specs.declared.TelegramKind.TheVariants.{Query, Told, Set, Took}
use Rattle.quorums.specs.Sets.{Inside, Member, Picked}
use Rattle.line.specs.declared.types.Delivered.{Delivered}
use Rattle.line.specs.declared.types.Delivered.TheVariants as answer
use Rattle.line.specs.declared.types.Hand.{Hand}
use Rattle.line.specs.declared.types.Stage.{Stage}
use Rattle.line.specs.declared.types.Stage.TheVariants.{Querying, Setting, Ended}
use Rattle.line.specs.declared.types.Work.{Work}
use Rattle.line.specs.declared.types.Work.TheVariants.{Write, Read}
use Rattle.line.specs.Lines.{IsStation, View, hand_of, last_of, put, replica, reply, size}
use Rattle.line.specs.Steps.{Begins, Delivers, Fits, Free, GivesUp, Room, wants}

-- it stands on the bus
abbrev pub Stands : {V : Type 0} → View V → Telegram V → Type 0
Stands v t = (place : ℕ) × (slice_get v.bus place ≡ Some t)

module _ {V : Type 0} (F : ℕ → Type 0) (v : View V) (place : ℕ) (t : Telegram V) where
  -- the telegram at the place is delivered, with an answer
  pub record Delivery (r : Result Delivered Refusal) (w : View V) : Type 0 where
    pub on : slice_get v.bus place ≡ Some t
    pub fits : Fits v t
    pub delivers : Delivers F v place r w

  -- it is a telling that counts: of a job in hand that still queries, by a cabinet that has not told it
  pub record Counts (h : Hand V) (p : Pair V) : Type 0 where
    pub kind : t.kind ≡ Told p
    pub held : hand_of v t.station ≡ Some h
    pub job : h.job ≡ t.job
    pub querying : h.stage ≡ Querying
    pub new : Member t.cabinet h.told → ⊥

  -- the cabinets that told the job, and what they told, this telling among them
  abbrev pub tellers : Hand V → ℕ
  tellers h = bit_or h.told (2 ^ t.cabinet)

  abbrev pub telling : Pair V → ℕ → Option (Pair V)
  telling p = put (v.answers t.station) t.cabinet (Some p)

  -- the job's stage after the delivery
  abbrev pub Now : View V → Stage V → Type 0
  Now w stage = (k : Hand V) × (hand_of w t.station ≡ Some k) × (k.job ≡ t.job) × (k.stage ≡ stage)

pub record Excluded (V : Type 0) (F : ℕ → Type 0) : Type 0 where
  -- not begins that always refuse
  pub begins : (v : View V) (s : ℕ) (work : Work V) (r : Result (ℕ × ℕ) Refusal) (w : View V) → IsStation v s → hand_of v s ≡ None → Room v (size v) → Free v (wants work) → Begins v s work r w → r ≡ Ok (s, length v.journal)
  -- not a deliver that only takes off
  pub answers : (v : View V) (place : ℕ) (t : Telegram V) (r : Result Delivered Refusal) (w : View V) → Delivery F v place t r w → t.kind ≡ Query → Stands w (reply t (Told (replica v t.cabinet)))
  -- not a took with nothing stored
  pub stores : (v : View V) (place : ℕ) (t : Telegram V) (p : Pair V) (r : Result Delivered Refusal) (w : View V) → Delivery F v place t r w → t.kind ≡ Set p
      → Stands w (reply t Took) × Upto p.tag (replica w t.cabinet).tag × (Before (replica v t.cabinet).tag p.tag → replica w t.cabinet ≡ p)
  -- not a line that never picks by its system
  pub picks : (v : View V) (place : ℕ) (t : Telegram V) (h : Hand V) (p : Pair V) (q : ℕ) (w : View V) → Counts F v place t h p → F q → Inside q (tellers F v place t h) → Delivery F v place t (Ok answer.Kept) w → ⊥
  -- not reads that always make two trips, and no strikes where all tags agree
  pub one_trip : (v : View V) (place : ℕ) (t : Telegram V) (h : Hand V) (p : Pair V) (q : ℕ) (tag : Tag) (r : Result Delivered Refusal) (w : View V) → Counts F v place t h p → h.work ≡ Read → Picked F (tellers F v place t h) (Some q) → ((k : ℕ) → Member k q → (k < size v) × ((u : Pair V) × (telling F v place t p k ≡ Some u) × (u.tag ≡ tag))) → (k : ℕ) → Member k q → Delivery F v place t r w
      → (r ≡ Ok answer.Ended) × ((u : Pair V) × (u.tag ≡ tag) × Now F v place t w (Ended u 1 0))
  -- not a second trip that sends nothing
  pub sends : (v : View V) (place : ℕ) (t : Telegram V) (w : View V) → Delivery F v place t (Ok answer.SecondTrip) w
      → (p : Pair V) × (strikes : ℕ) × Now F v place t w (Setting p strikes 0) × ((c : ℕ) → c < size v → Stands w (record { cabinet = c; station = t.station; job = t.job; kind = Set p }))
  -- not a second trip of a read with a tag left after striking: it has the latest of its quorum
  pub latest : (v : View V) (place : ℕ) (t : Telegram V) (h : Hand V) (p : Pair V) (q : ℕ) (u : Pair V) (strikes : ℕ) (w : View V) → Counts F v place t h p → h.work ≡ Read → Picked F (tellers F v place t h) (Some q) → Delivery F v place t (Ok answer.SecondTrip) w → Now F v place t w (Setting u strikes 0)
      → (k : ℕ) (x : Pair V) → k < size v → Member k q → telling F v place t p k ≡ Some x → Upto x.tag u.tag
  -- not a tag made twice: a write's count is above the station's own last count, and becomes it
  pub fresh : (v : View V) (place : ℕ) (t : Telegram V) (h : Hand V) (p u : Pair V) (x : V) (strikes : ℕ) (w : View V) → Counts F v place t h p → h.work ≡ Write x → Delivery F v place t (Ok answer.SecondTrip) w → Now F v place t w (Setting u strikes 0)
      → (last_of v t.station < u.tag.count) × (last_of w t.station ≡ u.tag.count)
  -- and giving up keeps it
  pub keeps : (v : View V) (s job : ℕ) (r : Result (Unit {0}) Refusal) (w : View V) → GivesUp v s job r w → (k : ℕ) → last_of w k ≡ last_of v k
  -- not "spent" below the limit
  pub spent : (v : View V) (place : ℕ) (t : Telegram V) (h : Hand V) (p : Pair V) (w : View V) → Counts F v place t h p → Delivery F v place t (Ok answer.Spent) w
      → (2 ^ 28 - 1 ≤ last_of v t.station) ⊎ ((k : ℕ) × (u : Pair V) × (telling F v place t p k ≡ Some u) × (2 ^ 28 - 1 ≤ u.tag.count))
  -- not a cabinet counted twice
  pub once : (v : View V) (place : ℕ) (t : Telegram V) (h : Hand V) (p : Pair V) (r : Result Delivered Refusal) (w : View V) → t.kind ≡ Told p → hand_of v t.station ≡ Some h → Member t.cabinet h.told → Delivery F v place t r w → r ≡ Ok answer.Nothing
  -- the last count: after 268,435,454 comes 268,435,455, and after that none
  pub last_count : (v : View V) (place : ℕ) (t : Telegram V) (h : Hand V) (p : Pair V) (q : ℕ) (x : V) (r : Result Delivered Refusal) (w : View V) → Counts F v place t h p → h.work ≡ Write x → Picked F (tellers F v place t h) (Some q) → Room v (size v) → last_of v t.station ≤ 268435454
      → ((k : ℕ) (u : Pair V) → Member k q → telling F v place t p k ≡ Some u → u.tag.count ≤ 268435454)
      → (k : ℕ) (u : Pair V) → Member k q → telling F v place t p k ≡ Some u → u.tag.count ≡ 268435454 → Delivery F v place t r w
      → (r ≡ Ok answer.SecondTrip) × Now F v place t w (Setting (record { tag = record { count = 268435455; owner = t.station }; value = x }) 0 0)
  pub no_count : (v : View V) (place : ℕ) (t : Telegram V) (h : Hand V) (p : Pair V) (q : ℕ) (x : V) (r : Result Delivered Refusal) (w : View V) → Counts F v place t h p → h.work ≡ Write x → Picked F (tellers F v place t h) (Some q)
      → (k : ℕ) (u : Pair V) → Member k q → telling F v place t p k ≡ Some u → u.tag.count ≡ 268435455 → Delivery F v place t r w → r ≡ Ok answer.Spent
