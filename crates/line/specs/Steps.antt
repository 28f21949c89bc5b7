-- What each call answers and leaves, for every line and every arguments.
use Rattle.std.specs.Prelude.{◌≡◌, ℕ, ◌+◌, ◌-◌, ◌^◌, ◌<◌, ◌≤◌, Bool, true, false, ◌⊎◌, [], ◌∷◌, length, Some, None, Ok, Err, Option, Result, ◌≢◌, bit_or}
use Rattle.std.specs.List.{slice_get, remove}
use Rattle.words.specs.declared.refusal.Refusal.{Refusal}
use Rattle.words.specs.declared.tag.Tag.{Tag}
use Rattle.words.specs.Refusals.{number}
use Rattle.words.specs.Tags.{Before, Upto}
use Rattle.telegrams.specs.declared.Pair.{Pair}
use Rattle.telegrams.specs.declared.Telegram.{Telegram}
use Rattle.telegrams.specs.declared.TelegramKind.{TelegramKind}
use Rattle.telegrams.specs.declared.TelegramKind.TheVariants.{Query, Told, Set, Took}
use Rattle.quorums.specs.Sets.{Member, Picked}
use Rattle.views.specs.Views.{Judged}
use Rattle.views.specs.declared.Verdict.{Verdict}
use Rattle.views.specs.declared.Verdict.TheVariants.{OneTrip, SecondTrip}
use Rattle.line.specs.declared.types.Collected.{Collected}
use Rattle.line.specs.declared.types.Collected.TheVariants as collected
use Rattle.line.specs.declared.types.Delivered.{Delivered}
use Rattle.line.specs.declared.types.Delivered.TheVariants as answer
use Rattle.line.specs.declared.types.Hand.{Hand}
use Rattle.line.specs.declared.types.Stage.{Stage}
use Rattle.line.specs.declared.types.Stage.TheVariants.{Querying, Setting, Ended, Spent}
use Rattle.line.specs.declared.types.Work.{Work}
use Rattle.line.specs.declared.types.Work.TheVariants.{Write, Read}
use Rattle.line.specs.Lines.{IsStation, View, at_stage, begin_row, change, ended_row, given_row, hand_of, hold, last_of, note, owed, put, replica, reply, send, size, spent_row, store, tagged_row, to_all, told_tags, with_bus}

module _ {V : Type 0} where
  -- a refusal has its number and changes nothing
  abbrev pub Refused : {R : Type 0} → ℕ → View V → Result R Refusal → View V → Type 0
  Refused n before r after = (e : Refusal) × (r ≡ Err e) × (number e ≡ n) × (after ≡ before)

  -- whether the bus has room for so many more
  abbrev pub Room : View V → ℕ → Type 0
  Room v n = length v.bus + n ≤ v.bus_places

  -- beside the rows owed, so many rows are free
  abbrev pub Free : View V → ℕ → Type 0
  Free v n = length v.journal + owed v.stations + n ≤ v.journal_places

  -- Begin. The row's number is the job's; queries go to all cabinets in turn.
  abbrev pub wants : Work V → ℕ
  wants (Write x) = 3
  wants Read = 2

  abbrev pub begun : View V → ℕ → Work V → View V
  begun v s work =
      let job = length v.journal in
      let hand : Hand V = record { job = job; work = work; told = 0; stage = Querying; shelved = false } in
      send (change (note v (begin_row v s job work)) s (last_of v s) (Some hand) (λ c. None)) (to_all v s job Query)

  abbrev pub Begins : View V → ℕ → Work V → Result (ℕ × ℕ) Refusal → View V → Type 0
  Begins v s work r after =
      ((IsStation v s → ⊥) × Refused 3 v r after)
      ⊎ (IsStation v s × ((hand_of v s ≢ None) × Refused 4 v r after))
      ⊎ (IsStation v s × (hand_of v s ≡ None) × ((Room v (size v) → ⊥) × Refused 5 v r after))
      ⊎ (IsStation v s × (hand_of v s ≡ None) × Room v (size v) × ((Free v (wants work) → ⊥) × Refused 6 v r after))
      ⊎ (IsStation v s × (hand_of v s ≡ None) × Room v (size v) × Free v (wants work) × (r ≡ Ok (s, length v.journal)) × (after ≡ begun v s work))

  -- Delivering, at a cabinet. A set's pair is stored if its tag is later.
  abbrev pub Stored : View V → ℕ → Pair V → View V → Type 0
  Stored v c p after =
      (Before (replica v c).tag p.tag × (after ≡ store v c p)) ⊎ (Upto p.tag (replica v c).tag × (after ≡ v))

  -- Delivering, at a station: `v` is the line with the telegram off the bus, `before` with it on.
  module _ (F : ℕ → Type 0) (before v : View V) (t : Telegram V) where
    abbrev s : ℕ
    s = t.station

    abbrev c : ℕ
    c = t.cabinet

    abbrev pub Answer : Delivered → View V → Result Delivered Refusal → View V → Type 0
    Answer a expected r after = (r ≡ Ok a) × (after ≡ expected)

    -- the second trip sends a set to all cabinets in turn, if the bus has room
    abbrev pub Second : View V → Hand V → Pair V → ℕ → Result Delivered Refusal → View V → Type 0
    Second w h p strikes r after =
        (Room w (size w) × Answer answer.SecondTrip (send (hold w s (at_stage h (Setting p strikes 0))) (to_all w s h.job (Set p))) r after)
        ⊎ ((Room w (size w) → ⊥) × Refused 5 before r after)

    -- the greatest of q's counts and the station's own last count
    abbrev pub Greatest : View V → ℕ → ℕ → Type 0
    Greatest w q g =
        (last_of w s ≤ g) × ((k : ℕ) (p : Pair V) → Member k q → w.answers s k ≡ Some p → p.tag.count ≤ g)
        × ((last_of w s ≡ g) ⊎ ((k : ℕ) × (p : Pair V) × Member k q × (w.answers s k ≡ Some p) × (p.tag.count ≡ g)))

    -- what q's lowest-numbered holder of the tag told
    abbrev pub Lowest : View V → ℕ → Tag → Pair V → Type 0
    Lowest w q tag p =
        (k : ℕ) × Member k q × (w.answers s k ≡ Some p) × (p.tag ≡ tag)
        × ((i : ℕ) (u : Pair V) → i < k → Member i q → w.answers s i ≡ Some u → u.tag ≢ tag)

    -- a write that was told counts up to g: the next count, or none is left
    abbrev pub TagsAfter : View V → Hand V → V → ℕ → Result Delivered Refusal → View V → Type 0
    TagsAfter w h x g r after =
        ((2 ^ 28 - 1 ≤ g) × Answer answer.Spent (note (hold w s (at_stage h Spent)) (spent_row w s h.job)) r after)
        ⊎ ((g < 2 ^ 28 - 1)
        × (let p : Pair V = record { tag = record { count = g + 1; owner = s }; value = x } in
        Second (note (change w s (g + 1) (Some h) (w.answers s)) (tagged_row s h.job p)) h p 0 r after))

    -- a write with the quorum q
    abbrev pub Tags : View V → Hand V → V → ℕ → Result Delivered Refusal → View V → Type 0
    Tags w h x q r after = (g : ℕ) × Greatest w q g × TagsAfter w h x g r after

    -- a read with the quorum q: as it is judged
    abbrev pub Reads : View V → Hand V → ℕ → Verdict → ℕ → Result Delivered Refusal → View V → Type 0
    Reads w h q (OneTrip tag) strikes r after =
        (p : Pair V) × Lowest w q tag p
        × Answer answer.Ended (note (hold w s (at_stage h (Ended p 1 strikes))) (ended_row s h.job p 1 strikes)) r after
    Reads w h q (SecondTrip tag) strikes r after = (p : Pair V) × Lowest w q tag p × Second w h p strikes r after

    abbrev pub Chosen : View V → Hand V → ℕ → Work V → Result Delivered Refusal → View V → Type 0
    Chosen w h q (Write x) r after = Tags w h x q r after
    Chosen w h q Read r after =
        (verdict : Verdict) × (strikes : ℕ) × Judged (told_tags w s) q F verdict strikes × Reads w h q verdict strikes r after

    -- a telling that counts is kept, and a quorum is picked from the cabinets that told
    abbrev pub Tells : Hand V → Pair V → Result Delivered Refusal → View V → Type 0
    Tells h p r after =
        let told = bit_or h.told (2 ^ c) in
        let h1 : Hand V = record { job = h.job; work = h.work; told = told; stage = Querying; shelved = h.shelved } in
        let w = change v s (last_of v s) (Some h1) (put (v.answers s) c (Some p)) in
        (Picked F told None × Answer answer.Kept w r after)
        ⊎ ((q : ℕ) × Picked F told (Some q) × Chosen w h1 q h.work r after)

    -- a took that counts is counted; the job has ended when those counted hold a quorum
    abbrev pub Takes : Hand V → Pair V → ℕ → ℕ → Result Delivered Refusal → View V → Type 0
    Takes h p strikes took r after =
        let counted = bit_or took (2 ^ c) in
        (Picked F counted None × Answer answer.Kept (hold v s (at_stage h (Setting p strikes counted))) r after)
        ⊎ ((q : ℕ) × Picked F counted (Some q)
        × Answer answer.Ended (note (hold v s (at_stage h (Ended p 2 strikes))) (ended_row s h.job p 2 strikes)) r after)

    -- what a telegram does depends on the stage of the station's job and on its kind
    abbrev pub AtStation : Hand V → Stage V → TelegramKind V → Result Delivered Refusal → View V → Type 0
    AtStation h Querying (Told p) r after =
        ((h.job ≡ t.job) × (Member c h.told → ⊥) × Tells h p r after)
        ⊎ (((h.job ≢ t.job) ⊎ Member c h.told) × Answer answer.Nothing v r after)
    AtStation h (Setting p strikes took) Took r after =
        ((h.job ≡ t.job) × (Member c took → ⊥) × Takes h p strikes took r after)
        ⊎ (((h.job ≢ t.job) ⊎ Member c took) × Answer answer.Nothing v r after)
    AtStation h Querying Query r after = Answer answer.Nothing v r after
    AtStation h Querying (Set p) r after = Answer answer.Nothing v r after
    AtStation h Querying Took r after = Answer answer.Nothing v r after
    AtStation h (Setting p strikes took) Query r after = Answer answer.Nothing v r after
    AtStation h (Setting p strikes took) (Told u) r after = Answer answer.Nothing v r after
    AtStation h (Setting p strikes took) (Set u) r after = Answer answer.Nothing v r after
    AtStation h (Ended p trips strikes) kind r after = Answer answer.Nothing v r after
    AtStation h Spent kind r after = Answer answer.Nothing v r after

  -- Delivering: the telegram at a place of the bus is taken off and handed over.
  abbrev pub AtHand : (ℕ → Type 0) → View V → View V → Telegram V → Option (Hand V) → Result Delivered Refusal → View V → Type 0
  AtHand F before v t None r after = (r ≡ Ok answer.Nothing) × (after ≡ v)
  AtHand F before v t (Some h) r after = AtStation F before v t h h.stage t.kind r after

  abbrev pub Handed : (ℕ → Type 0) → View V → View V → Telegram V → TelegramKind V → Result Delivered Refusal → View V → Type 0
  Handed F before v t Query r after = (r ≡ Ok answer.Answered) × (after ≡ send v (reply t (Told (replica v t.cabinet)) ∷ []))
  Handed F before v t (Set p) r after =
      (r ≡ Ok answer.Answered) × ((w : View V) × Stored v t.cabinet p w × (after ≡ send w (reply t Took ∷ [])))
  Handed F before v t (Told p) r after = AtHand F before v t (hand_of v t.station) r after
  Handed F before v t Took r after = AtHand F before v t (hand_of v t.station) r after

  -- a telegram that names a cabinet and a station of the line, and a job that there can be
  abbrev pub Fits : View V → Telegram V → Type 0
  Fits v t = (t.cabinet < size v) × IsStation v t.station × (t.job ≤ 4095)

  abbrev pub Delivers : (ℕ → Type 0) → View V → ℕ → Result Delivered Refusal → View V → Type 0
  Delivers F v place r after =
      ((length v.bus ≤ place) × Refused 7 v r after)
      ⊎ ((t : Telegram V) × (slice_get v.bus place ≡ Some t) × (Fits v t → ⊥) × Refused 1 v r after)
      ⊎ ((t : Telegram V) × (slice_get v.bus place ≡ Some t) × Fits v t × Handed F v (with_bus v (remove v.bus place)) t t.kind r after)

  -- Losing takes a telegram off the bus; doubling adds a copy at its end.
  abbrev pub Loses : View V → ℕ → Result (Unit {0}) Refusal → View V → Type 0
  Loses v place r after =
      ((length v.bus ≤ place) × Refused 7 v r after)
      ⊎ ((place < length v.bus) × (r ≡ Ok tt) × (after ≡ with_bus v (remove v.bus place)))

  abbrev pub Doubles : View V → ℕ → Result (Unit {0}) Refusal → View V → Type 0
  Doubles v place r after =
      ((length v.bus ≤ place) × Refused 7 v r after)
      ⊎ ((t : Telegram V) × (slice_get v.bus place ≡ Some t) × (Room v 1 → ⊥) × Refused 5 v r after)
      ⊎ ((t : Telegram V) × (slice_get v.bus place ≡ Some t) × Room v 1 × (r ≡ Ok tt) × (after ≡ send v (t ∷ [])))

  -- Tickets. One is good for a job in hand that is not shelved.
  abbrev pub InHand : View V → ℕ → ℕ → Hand V → Type 0
  InHand v s job h = IsStation v s × (hand_of v s ≡ Some h) × (h.job ≡ job) × (h.shelved ≡ false)

  abbrev pub freed : View V → ℕ → View V
  freed v s = change v s (last_of v s) None (λ c. None)

  -- the result of a job that is over, and whether it is
  abbrev pub Over : Stage V → Collected V → Type 0
  Over Querying got = ⊥
  Over (Setting p strikes took) got = ⊥
  Over (Ended p trips strikes) got = got ≡ collected.Got p trips
  Over Spent got = got ≡ collected.Spent

  abbrev pub Unfinished : Stage V → Type 0
  Unfinished stage = (got : Collected V) → Over stage got → ⊥

  abbrev pub Collects : View V → ℕ → ℕ → Result (Collected V) Refusal → View V → Type 0
  Collects v s job r after =
      (((h : Hand V) → InHand v s job h → ⊥) × Refused 9 v r after)
      ⊎ ((h : Hand V) × InHand v s job h × Unfinished h.stage × Refused 8 v r after)
      ⊎ ((h : Hand V) × InHand v s job h × ((got : Collected V) × Over h.stage got × (r ≡ Ok got)) × (after ≡ freed v s))

  -- giving up leaves a row of an unfinished job
  abbrev pub GivesUp : View V → ℕ → ℕ → Result (Unit {0}) Refusal → View V → Type 0
  GivesUp v s job r after =
      (((h : Hand V) → InHand v s job h → ⊥) × Refused 9 v r after)
      ⊎ ((h : Hand V) × InHand v s job h × Unfinished h.stage × (r ≡ Ok tt) × (after ≡ freed (note v (given_row v s job)) s))
      ⊎ ((h : Hand V) × InHand v s job h × ((got : Collected V) × Over h.stage got) × (r ≡ Ok tt) × (after ≡ freed v s))

  abbrev pub with_shelf : Hand V → Bool → Hand V
  with_shelf h shelved = record { job = h.job; work = h.work; told = h.told; stage = h.stage; shelved = shelved }

  abbrev pub Shelves : View V → ℕ → ℕ → Result (Unit {0}) Refusal → View V → Type 0
  Shelves v s job r after =
      (((h : Hand V) → InHand v s job h → ⊥) × Refused 9 v r after)
      ⊎ ((h : Hand V) × InHand v s job h × (r ≡ Ok tt) × (after ≡ hold v s (with_shelf h true)))

  abbrev pub OnShelf : View V → ℕ → Hand V → Type 0
  OnShelf v s h = (hand_of v s ≡ Some h) × (h.shelved ≡ true)

  abbrev pub Claims : View V → ℕ → Result (ℕ × ℕ) Refusal → View V → Type 0
  Claims v s r after =
      ((IsStation v s → ⊥) × Refused 3 v r after)
      ⊎ (IsStation v s × (((h : Hand V) → OnShelf v s h → ⊥) × Refused 9 v r after))
      ⊎ (IsStation v s × ((h : Hand V) × OnShelf v s h × (r ≡ Ok (s, h.job)) × (after ≡ hold v s (with_shelf h false))))
