-- Sound memory stays sound: no call spoils the lengths, and rows owed stay free.
use Rattle.std.proofs.Common.{◌≡◌, ℕ, ◌+◌, ◌-◌, ◌*◌, ◌^◌, ◌<◌, ◌≤◌, List, [], ◌∷◌, length, get_or, set, Some, Option, sym, refl, ap, ◌∙◌, subst, ⊎_elim, arith}
use Rattle.std.proofs.lemmas.Grind.{common_steps}
use Rattle.std.proofs.lemmas.List.Recursion.{is_sum_by}
use Rattle.std.proofs.lemmas.List.{length-append, length-set, length-take-le}
use Rattle.telegrams.specs.declared.Pair.{Pair}
use Rattle.line.specs.declared.types.Collected.TheVariants as result
use Rattle.line.specs.declared.types.First.{First}
use Rattle.line.specs.declared.types.Hand.{Hand}
use Rattle.line.specs.declared.types.Memory.{Memory}
use Rattle.line.specs.declared.types.Row.{Row}
use Rattle.line.specs.declared.types.Stage.{Stage}
use Rattle.line.specs.declared.types.Stage.TheVariants.{Querying, Setting, Ended, Spent}
use Rattle.line.specs.declared.types.Station.{Station}
use Rattle.line.specs.declared.types.Work.{Work}
use Rattle.line.specs.declared.types.Work.TheVariants.{Write, Read}
use Rattle.line.specs.Lines.{IsStation, View, hand_of, idle, owed, owed_by, owed_in}
use Rattle.line.specs.Seen.{seen}
use Rattle.line.specs.Memories.{Calls, Lends, Sound, more, none}
use Rattle.line.specs.Runs.{Event, Moment, Run, Step}
use Rattle.line.specs.Runs as run
use Rattle.line.specs.Steps.{Unfinished}
use Rattle.line.proofs.Shapes.{Like, Noted, Quiet, Same, Shape, begun_row, ended_row_of, freed, given_row_of, kept, like_lasts, noted, quiet, spent_row_of, step_outcome, still, tagged_row_of, took_row_of, trip}

module _ {V : Type 0} where
  -- rows owed after one station's record has changed
  pub owed_set : (xs : List (Station V)) (i : ℕ) (st : Station V) → i < length xs
      → owed (set xs i st) + owed_in (get_or xs i idle).hand ≡ owed xs + owed_in st.hand
  owed_set xs i st l = grind (arith, common_steps, is_sum_by {X = Station V} owed (λ (s : Station V). owed_in s.hand) refl (λ _ _. refl))

  owed_like : (work : Work V) (a b : Stage V) → Like a b → owed_by work a ≡ owed_by work b
  owed_like work a b like = like_lasts (λ (c : Stage V). owed_by work a ≡ owed_by work c) (λ p strikes took counted e. e) a b like refl

  pub owed_unfinished : (work : Work V) (a : Stage V) → Unfinished a → 1 ≤ owed_by work a
  owed_unfinished (Write x) Querying u = omega arith
  owed_unfinished Read Querying u = omega arith
  owed_unfinished (Write x) (Setting p strikes took) u = omega arith
  owed_unfinished Read (Setting p strikes took) u = omega arith
  owed_unfinished work (Ended p trips strikes) u = absurd (u (result.Got p trips) refl)
  owed_unfinished work Spent u = absurd (u result.Spent refl)

  -- what is owed for a hand, by its work and stage
  owed_is : (hand : Option (Hand V)) (k : Hand V) (work : Work V) (stage : Stage V) → hand ≡ Some k → k.work ≡ work → k.stage ≡ stage
      → owed_in hand ≡ owed_by work stage
  owed_is hand k work stage e f g = ap owed_in e ∙ (λ i. owed_by (f i) (g i))

  pub setting_owes : (work : Work V) (p : Pair V) (strikes took : ℕ) → owed_by work (Setting p strikes took) ≡ 1
  setting_owes (Write x) p strikes took = refl
  setting_owes Read p strikes took = refl

  ended_owes : (work : Work V) (p : Pair V) (trips strikes : ℕ) → owed_by work (Ended p trips strikes) ≡ 0
  ended_owes (Write x) p trips strikes = refl
  ended_owes Read p trips strikes = refl

  module _ (v : View V) where
    -- what was owed for a job and what is, by its work and its two stages
    own_owes : (s : ℕ) (hand : Option (Hand V)) (h k : Hand V) → Same v s h k → hand ≡ Some k → (work : Work V) → h.work ≡ work → (a b : Stage V)
        → h.stage ≡ a → k.stage ≡ b → (owed_in (hand_of v s) ≡ owed_by work a) × (owed_in hand ≡ owed_by work b)
    own_owes s hand h k same is work works a b now next =
        (owed_is (hand_of v s) h work a same.held works now, owed_is hand k work b is (same.work ∙ works) next)

    quiet_owes : (s : ℕ) (hand : Option (Hand V)) → Quiet v s hand → owed_in hand ≤ owed_in (hand_of v s)
    quiet_owes s hand (freed h held got over is) = subst (λ (x : Option (Hand V)). owed_in x ≤ owed_in (hand_of v s)) (sym is) (omega arith)
    quiet_owes s hand (kept h k same is like) =
        let o = own_owes s hand h k same is h.work refl h.stage k.stage refl refl in
        omega (arith, o.0, o.1, owed_like h.work h.stage k.stage like)
    quiet_owes s hand (trip h k same is work stage p strikes next) =
        let o = own_owes s hand h k same is Read work Querying (Setting p strikes 0) stage next in
        omega (arith, o.0, o.1)

    -- a row that joins was owed, or was free beyond those owed
    noted_owes : (e : Event V) (s : ℕ) (hand : Option (Hand V)) (row : Row V) → Noted v e s hand row → length v.journal + owed v.stations ≤ v.journal_places
        → length v.journal + 1 + owed_in hand + owed v.stations ≤ v.journal_places + owed_in (hand_of v s)
    noted_owes e s hand row (begun_row (Write x) k empty free event is job works stage rows) l = omega (arith, owed_is hand k (Write x) Querying is works stage)
    noted_owes e s hand row (begun_row Read k empty free event is job works stage rows) l = omega (arith, owed_is hand k Read Querying is works stage)
    noted_owes e s hand row (tagged_row_of h k same is x work stage p next trips rows) l =
        let o = own_owes s hand h k same is (Write x) work Querying (Setting p 0 0) stage next in
        omega (arith, o.0, o.1)
    noted_owes e s hand row (ended_row_of h k same is work stage p strikes next rows) l =
        let o = own_owes s hand h k same is Read work Querying (Ended p 1 strikes) stage next in
        omega (arith, o.0, o.1)
    noted_owes e s hand row (took_row_of h k same is p strikes took stage next rows) l =
        let o = own_owes s hand h k same is h.work refl (Setting p strikes took) (Ended p 2 strikes) stage next in
        omega (arith, o.0, o.1, setting_owes h.work p strikes took, ended_owes h.work p 2 strikes)
    noted_owes e s hand row (spent_row_of h k same is x work stage next rows) l =
        let o = own_owes s hand h k same is (Write x) work Querying Spent stage next in
        omega (arith, o.0, o.1)
    noted_owes e s hand row (given_row_of h held unfinished is rows) l =
        let before = owed_is (hand_of v s) h h.work h.stage held refl refl in
        let after : owed_in hand ≡ 0 = ap owed_in is in
        omega (arith, owed_unfinished h.work h.stage unfinished)

    set_owes : (s : ℕ) → IsStation v s → (st : Station V) → owed (set v.stations (s - 1) st) + owed_in (hand_of v s) ≡ owed v.stations + owed_in st.hand
    set_owes s line st = owed_set v.stations (s - 1) st (omega (arith, line.0, line.1))

    -- the number of stations stays, and rows owed stay free
    shape_rows : (e : Event V) (w : View V) → Shape v e w
        → (length w.stations ≡ length v.stations)
        × (length v.journal + owed v.stations ≤ v.journal_places → length w.journal + owed w.stations ≤ v.journal_places)
    shape_rows e w (still stations journal) = (
      ap (λ (xs : List (Station V)). length xs) stations,
      λ l. omega (arith, ap (λ (xs : List (Row V)). length xs) journal, ap owed stations),
    )
    shape_rows e w (quiet s st line stations journal q) = (
      ap (λ (xs : List (Station V)). length xs) stations ∙ length-set v.stations (s - 1) st,
      λ l. omega (arith, ap (λ (xs : List (Row V)). length xs) journal, ap owed stations, set_owes s line st, quiet_owes s st.hand q),
    )
    shape_rows e w (noted s st row line stations journal q) = (
      ap (λ (xs : List (Station V)). length xs) stations ∙ length-set v.stations (s - 1) st,
      λ l.
          let longer : length w.journal ≡ length v.journal + 1 = ap (λ (xs : List (Row V)). length xs) journal ∙ length-append v.journal (row ∷ []) in
          omega (arith, ap owed stations, set_owes s line st, noted_owes e s st.hand row q l),
    )

  -- a step on sound memory leaves sound memory
  pub stays_sound : (n : ℕ) (F : ℕ → Type 0) (e : Event V) (m after : Memory V) → Sound n m → Step F (seen m) e (seen after) → Lends m after → Sound n after
  stays_sound n F e m after ((count, replicas, one, few, answers, bus-low, bus-high, rows-low, rows-high), sent, rows) step lends =
      let outcome = step_outcome (seen m) F e (seen after) step in
      let shape = shape_rows (seen m) e (seen after) outcome.shape in
      let frame = outcome.frame in
      let stations : length after.stations.now ≡ length m.stations.now = shape.0 in
      let before : length (seen m).journal ≡ m.written = length-take-le m.written m.journal.now (omega arith) in
      let then : length (seen after).journal ≡ after.written = length-take-le after.written after.journal.now lends.7 in
      let bus : length after.bus.now ≡ length m.bus.now = frame.bus_places in
      let journal : length after.journal.now ≡ length m.journal.now = frame.journal_places in
      let wide : length after.answers.now ≡ n * length after.stations.now = lends.3 ∙ answers ∙ ap (λ (k : ℕ). n * k) (sym stations) in (
        (
          subst (λ (f : First V). f.count ≤ 2 ^ 28 - 1) (sym frame.first) count,
          frame.replicas ∙ replicas,
          omega arith,
          omega arith,
          wide,
          omega arith,
          omega arith,
          omega arith,
          omega arith,
        ),
        lends.5,
        omega (arith, shape.1 (omega (arith, before))),
      )

  -- calls on sound memory are a run, and leave sound memory
  pub runs : (n : ℕ) (F : ℕ → Type 0) (start m : Memory V) (ms : List (Moment V)) → Sound n start → Calls n F start ms m
      → Run F (seen start) ms (seen m) × Sound n m
  runs n F start m ms sound none = (run.none, sound)
  runs n F start m ms sound (more {m = before} {e = e} calls call) =
      let r = runs n F start before _ sound calls in
      ⊎_elim (λ bad. absurd (bad.0 r.1)) (λ good. (run.more r.0 good.1, stays_sound n F e before m r.1 good.1 good.2)) call
