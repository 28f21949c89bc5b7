-- The order of jobs, for every run.
use Rattle.std.proofs.Common.{◌≡◌, ℕ, ◌-◌, ◌<◌, ◌≤◌, ◌⊎◌, List, [], ◌∷◌, length, get_or, replicate, Some, Ok, sym, refl, ap, ◌∙◌, subst, inl, inr, ⊎_elim, arith}
use Rattle.std.specs.List.{slice_get}
use Rattle.std.proofs.lemmas.Bool.{cases_order}
use Rattle.std.proofs.lemmas.Grind.{common_steps}
use Rattle.std.proofs.lemmas.List.{length-replicate}
use Rattle.std.proofs.lemmas.Option.{same_Some, slice_get_within}
use Rattle.words.specs.declared.tag.Tag.{Tag}
use Rattle.words.specs.Tags.{Before, Upto}
use Rattle.words.proofs.TagOrders.{before_upto, tag_order, upto_refl}
use Rattle.telegrams.specs.declared.Pair.{Pair}
use Rattle.telegrams.specs.declared.Telegram.{Telegram}
use Rattle.quorums.specs.Sets.{Member, Share}
use Rattle.line.specs.declared.types.Hand.{Hand}
use Rattle.line.specs.declared.types.Row.{Row}
use Rattle.line.specs.declared.types.Stage.{Stage}
use Rattle.line.specs.declared.types.Stage.TheVariants.{Querying, Setting, Ended, Spent}
use Rattle.line.specs.declared.types.Collected.TheVariants as result
use Rattle.line.specs.declared.types.Station.{Station}
use Rattle.line.specs.declared.types.Work.{Work}
use Rattle.line.specs.declared.types.Work.TheVariants.{Write, Read}
use Rattle.line.specs.declared.types.Delivered.{Delivered}
use Rattle.line.specs.declared.types.Delivered.TheVariants as answer
use Rattle.line.specs.Runs.{AtEqualTags, AtTime, BeginsAt, Carried, DeliversAt, EndedAt, EndsAt, Event, Got, Laws, Moment, OrderOfJobs, Placed, Run, Shown, Sort, StandsBefore, Step, TripsAt, TripsCarry, collected, more, none, opened, read, work_of, write}
use Rattle.line.specs.declared.types.First.{First}
use Rattle.line.specs.Steps.{Begins, Collects, Delivers, Over}
use Rattle.line.specs.Lines.{View, begin_row, ended_row, first_pair, hand_of, idle, size, tagged_row}
use Rattle.line.proofs.Invariants.{AboveEnded, Begun, Earned, EndedRow, Inv, TaggedRow}
use Rattle.line.proofs.Rows.{begin_same, contains_none}
use Rattle.line.proofs.Forward.{Carrying, Finished, Lasting, Since, carrying_lasts, finished_lasts, step_since}
use Rattle.line.proofs.Onces.{Names, Once, Phase, step_once}
use Rattle.line.proofs.Sources.{step_rows}
use Rattle.line.proofs.Shapes.{Grows, shape_grows, step_outcome}
use Rattle.line.proofs.Stepping as stepping
use Rattle.line.proofs.Stepping.{begin_shown, deliver_shown, step_good}

-- a list of one thing has it at every place
pub all_one : {X : Type 0} (m k : ℕ) (x : X) → get_or (replicate m x) k x ≡ x
all_one m k x = grind (arith, common_steps)

-- the laws of a quorum system, at one such system
pub laws_at : {S : Type 0} (size : S → ℕ) (quorum : S → ℕ → Type 0) → ((s : S) → (1 ≤ size s) × (size s ≤ 16))
    → ((s : S) (q : ℕ) → quorum s q → (k : ℕ) × Member k q)
    → ((s : S) (q : ℕ) → quorum s q → (k : ℕ) → Member k q → k < size s) → ((s : S) (p q : ℕ) → quorum s p → quorum s q → Share p q)
    → (s : S) → Laws (quorum s) (size s)
laws_at size quorum sized member line share s = record { few = (sized s).1; member = member s; line = line s; share = share s }

-- what a collect that told a pair found
module _ {V : Type 0} where
  over_carries : (p : Pair V) (trips : ℕ) (st : Stage V) → Over st (result.Got p trips) → Carrying p st × Finished st
  over_carries p trips Querying over = absurd over
  over_carries p trips (Setting u strikes took) over = absurd over
  over_carries p trips (Ended u a b) over = (cc, tt)
  over_carries p trips Spent over = cc

  collected_row : (v : View V) → Once v → (s job : ℕ) (p : Pair V) (trips : ℕ) (w : View V) → Collects v s job (Ok (result.Got p trips)) w
      → (i : ℕ) × EndedRow w i s job p
  collected_row v once s job p trips w (inl x) = cc x.1.1
  collected_row v once s job p trips w (inr (inl x)) = cc x.3.1
  collected_row v once s job p trips w (inr (inr (h, held, (got, over, is), after))) =
      let same : got ≡ result.Got p trips = cc in
      let phase : Phase v.journal s job h.stage = subst (λ (j : ℕ). Phase v.journal s j h.stage) held.2 (once.phase s h held.0.0 held.1) in
      let found = over_carries p trips h.stage (subst (Over h.stage) same over) in
      let row = phase.end p found.0 found.1 in
      subst (λ (z : View V). (i : ℕ) × EndedRow z i s job p) (sym after) (row.0, (row.1, row.2, row.3))

module _ {V : Type 0} (F : ℕ → Type 0) (n : ℕ) (laws : Laws F n) (first : First V) (m bus_places journal_places : ℕ) where
  abbrev start : View V
  start = opened first n m bus_places journal_places

  opened_hand : {A : Type 0} (s : ℕ) (h : Hand V) → hand_of start s ≡ Some h → A
  opened_hand s h e = cc (ap (λ (st : Station V). st.hand) (all_one m (s - 1) idle))

  opened_inv : Inv start F
  opened_inv = record {
    replicas = λ c. inl (all_one n c (first_pair start));
    bus = λ t x. contains_none t x;
    answers = λ s c p l e. cc;
    hands = λ s h l e. opened_hand s h e;
    told = λ s h l e. opened_hand s h e;
    lasts = λ k s j p row. cc;
    tagged = λ k s j p row. cc;
    ended = λ i s j p row. cc row.2;
  }

  opened_once : Once start
  opened_once = record { phase = λ s h l e. opened_hand s h e; one_pair = λ k i s j p u a b. cc a.1 }

  -- a line that a run has come to
  record Reached (v : View V) : Type 0 where
    pub inv : Inv v F
    pub once : Once v
    pub size_is : size v ≡ n
    pub first_is : v.first ≡ first

  reached : {ms : List (Moment V)} {v : View V} → Run F start ms v → Reached v
  reached none = record { inv = opened_inv; once = opened_once; size_is = length-replicate n (first_pair start); first_is = refl }
  reached (more {v = v} {w = w} {e = e} run step) =
      let r = reached run in
      let g = step_good F n laws v r.inv r.size_is e w step in
      record { inv = g.inv; once = step_once F v r.inv r.once e w step; size_is = g.size_kept ∙ r.size_is; first_is = g.first_kept ∙ r.first_is }

  pub once_after : {ms : List (Moment V)} {v : View V} → Run F start ms v → Once v
  once_after run = (reached run).once

  -- what is known of a moment of a run that has come to v
  record Past (x : Moment V) (v : View V) : Type 0 where
    pub earlier : Reached x.before
    pub later : Reached x.after
    pub step : Step F x.before x.event x.after
    pub grows : Grows x.after v

  past : {ms : List (Moment V)} {v : View V} (k : ℕ) (x : Moment V) → Run F start ms v → AtTime ms k x → Past x v
  past k x none at = absurd at
  past k x (more {ms = ms} {v = v} {w = w} {e = e} run step) (inl here) =
      subst (λ (y : Moment V). Past y w) here.1
      (record { earlier = reached run; later = reached (more run step); step = step; grows = λ i r f. f })
  past k x (more {ms = ms} {v = v} {w = w} {e = e} run step) (inr there) =
      let p = past k x run there in
      let r = reached run in
      let g = step_good F n laws v r.inv r.size_is e w step in
      record { earlier = p.earlier; later = p.later; step = p.step; grows = λ i y f. g.grows i y (p.grows i y f) }

  time_below : (ms : List (Moment V)) (k : ℕ) (x : Moment V) → AtTime ms k x → k < length ms
  time_below [] k x at = absurd at
  time_below (y ∷ ms) k x at = ⊎_elim (λ h. omega (arith, h.0)) (λ r. omega (arith, time_below ms k x r)) at

  same_time : (ms : List (Moment V)) (k : ℕ) (x y : Moment V) → AtTime ms k x → AtTime ms k y → x ≡ y
  same_time [] k x y a b = absurd a
  same_time (z ∷ ms) k x y (inl a) (inl b) = sym a.1 ∙ b.1
  same_time (z ∷ ms) k x y (inl a) (inr b) = absurd (omega (arith, a.0, time_below ms k y b))
  same_time (z ∷ ms) k x y (inr a) (inl b) = absurd (omega (arith, b.0, time_below ms k x a))
  same_time (z ∷ ms) k x y (inr a) (inr b) = same_time ms k x y a b

  -- what each step keeps
  abbrev Kept : (View V → Type 0) → Type 0
  Kept P = (v : View V) (e : Event V) (w : View V) → Reached v → Step F v e w → P v → P w

  -- holds at the end of the run if it held after a moment, and before and after every later moment
  to_end : (P : View V → Type 0) → Kept P → {ms : List (Moment V)} {v : View V} (k : ℕ) (x : Moment V) → Run F start ms v → AtTime ms k x → P x.after → P v
  to_end P kept k x none at p = absurd at
  to_end P kept k x (more run step) (inl here) p = subst (λ (z : Moment V). P z.after) (sym here.1) p
  to_end P kept k x (more {v = v} {w = w} {e = e} run step) (inr there) p = kept v e w (reached run) step (to_end P kept k x run there p)

  to_later : (P : View V → Type 0) → Kept P → {ms : List (Moment V)} {v : View V} (j k : ℕ) (x y : Moment V) → Run F start ms v
      → AtTime ms j x → AtTime ms k y → j < k → P x.after → P y.before × P y.after
  to_later P kept j k x y none a b l p = absurd a
  to_later P kept j k x y (more {ms = ms} run step) (inl a) (inl b) l p = absurd (omega (arith, a.0, b.0))
  to_later P kept j k x y (more {ms = ms} run step) (inl a) (inr b) l p = absurd (omega (arith, a.0, time_below ms k y b))
  to_later P kept j k x y (more {v = v} {w = w} {e = e} run step) (inr a) (inl b) l p =
      let before = to_end P kept j x run a p in
      subst (λ (z : Moment V). P z.before × P z.after) b.1 (before, kept v e w (reached run) step before)
  to_later P kept j k x y (more {ms = ms} run step) (inr a) (inr b) l p = to_later P kept j k x y run a b l p

  -- rows of the journal stay
  rows_kept : (v : View V) → Kept (Grows v)
  rows_kept v x e w r step grows i row f = shape_grows x e w (step_outcome x F e w step).shape i row (grows i row f)

  between : {ms : List (Moment V)} {v : View V} (j k : ℕ) (x y : Moment V) → Run F start ms v → AtTime ms j x → AtTime ms k y → j < k → Grows x.after y.before
  between j k x y run a b l = (to_later (Grows x.after) (rows_kept x.after) j k x y run a b l (λ i row f. f)).0

  -- and so does what lasts of a job's stage
  lasting : (P : Stage V → Type 0) → Lasting P → (s job : ℕ) → 1 ≤ s → {ms : List (Moment V)} {v : View V} (j k : ℕ) (x y : Moment V) → Run F start ms v
      → AtTime ms j x → AtTime ms k y → j < k → Since P x.after s job → Since P y.after s job
  lasting P lasts s job one j k x y run a b l since =
      let kept : Kept (λ v. Since P v s job) = λ v e w r step. step_since P lasts F v e w step (rows_kept v v e w r step (λ i row f. f)) s job one in
      (to_later (λ v. Since P v s job) kept j k x y run a b l since).1

  -- begin rows of one line
  begin_like : (a b : View V) (s job : ℕ) (work : Work V) → a.first ≡ b.first → begin_row a s job work ≡ begin_row b s job work
  begin_like a b s job work e = ap (λ (f : First V). begin_row (opened f 0 0 0 0) s job work) e

  module _ {ms : List (Moment V)} {v : View V} (run : Run F start ms v) where
    here_v : Reached v
    here_v = reached run

    begun_up : (x : Moment V) → Past x v → (s job : ℕ) (work : Work V) → Begun x.after s job work → Begun v s job work
    begun_up x p s job work b =
        p.grows job _ b ∙ ap Some (begin_like x.after v s job work (p.later.first_is ∙ sym here_v.first_is))

    -- the row of a begin
    begin_fact : (k : ℕ) (x : Moment V) (s job : ℕ) (work : Work V) → AtTime ms k x → BeginsAt x s job work
        → Begun v s job work × (job ≡ length x.before.journal) × (1 ≤ s)
    begin_fact k x s job work at is =
        let p = past k x run at in
        let step : Begins x.before s work (Ok (s, job)) x.after = subst (λ (e : Event V). Step F x.before e x.after) is p.step in
        let b = begin_shown F n laws x.before p.earlier.inv p.earlier.size_is s work (Ok (s, job)) x.after step job refl in
        (begun_up x p s job work b.0, b.1, b.2)

    -- what a delivery shows
    delivery_shown : (k : ℕ) (x : Moment V) (s job : ℕ) (a : Delivered) → AtTime ms k x → (d : DeliversAt x s job a)
        → stepping.Shown F n laws x.before x.after d.1 (Ok a)
    delivery_shown k x s job a at d =
        let o = past k x run at in
        let step : Delivers F x.before d.0 (Ok a) x.after = subst (λ (e : Event V). Step F x.before e x.after) d.2 o.step in
        deliver_shown F n laws x.before o.earlier.inv o.earlier.size_is d.0 (Ok a) x.after step d.1 d.3

    -- the row of an end
    end_fact : (k : ℕ) (x : Moment V) (s job : ℕ) (p : Pair V) → AtTime ms k x → EndsAt x s job p
        → EndedRow v (length x.before.journal) s job p × EndedRow x.after (length x.before.journal) s job p
    end_fact k x s job p at (d, held) =
        let o = past k x run at in
        let shown = (delivery_shown k x s job answer.Ended at d).end refl in
        let same : shown.0 ≡ held.0 = same_Some shown.0 held.0 (sym shown.4 ∙ ap (hand_of x.after) d.4 ∙ held.3) in
        let pair : shown.1 ≡ p = cc (shown.5, ap (λ (h : Hand V). h.stage) same, held.4) in
        let row : EndedRow x.after (length x.before.journal) s job p =
        subst (λ (u : Pair V). EndedRow x.after (length x.before.journal) s job u) pair
        (subst (λ (j : ℕ). EndedRow x.after (length x.before.journal) s j shown.1) d.5
        (subst (λ (r : ℕ). EndedRow x.after (length x.before.journal) r d.1.job shown.1) d.4 shown.7)) in
        ((row.0, row.1, o.grows (length x.before.journal) (ended_row s job p row.0 row.1) row.2), row)

    -- the row of a write's tag
    trip_fact : (k : ℕ) (x : Moment V) (s job : ℕ) (y : V) (p : Pair V) → AtTime ms k x → TripsAt x s job p → 1 ≤ s → Begun v s job (Write y)
        → TaggedRow v (length x.before.journal) s job p
    trip_fact k x s job y p at (d, held) one begun-v =
        let o = past k x run at in
        let shown = (delivery_shown k x s job answer.SecondTrip at d).trip refl in
        let hand_is : hand_of x.after s ≡ Some shown.0 = ap (hand_of x.after) (sym d.4) ∙ shown.4 in
        let same : shown.0 ≡ held.0 = same_Some shown.0 held.0 (sym hand_is ∙ held.3) in
        let pair : shown.1 ≡ p = cc (shown.5, ap (λ (h : Hand V). h.stage) same, held.4) in
        ⊎_elim
        (λ read_job.
        let b : Begun x.after s job Read =
        subst (λ (j : ℕ). Begun x.after s j Read) (shown.6 ∙ d.5) (subst (Begun x.after s shown.0.job) read_job (o.later.inv.hands s shown.0 one hand_is).0) in
        cc (begin_same v s s job job (Write y) Read (same_Some _ _ (sym begun-v ∙ begun_up x o s job Read b))).2)
        (λ tagged.
        o.grows (length x.before.journal) (tagged_row s job p)
        (subst (λ (u : Pair V). TaggedRow x.after (length x.before.journal) s job u) pair
        (subst (λ (j : ℕ). TaggedRow x.after (length x.before.journal) s j shown.1) d.5
        (subst (λ (r : ℕ). TaggedRow x.after (length x.before.journal) r d.1.job shown.1) d.4 tagged))))
        shown.7

  -- rows come from moments
  found_tag : {ms : List (Moment V)} {v : View V} → Run F start ms v → (k s job : ℕ) (p : Pair V) → TaggedRow v k s job p
      → (t : ℕ) × (x : Moment V) × AtTime ms t x × TripsAt x s job p
  found_tag none k s job p row = cc row
  found_tag (more {ms = ms} {v = v} {w = w} {e = e} run step) k s job p row =
      ⊎_elim
      (λ old. let f = found_tag run k s job p old in (f.0, f.1, inr f.2, f.3))
      (λ new. (length ms, record { before = v; event = e; after = w }, inl (refl, refl), new.0 s job p refl))
      (step_rows F v e w step k _ row)

  found_begin : {ms : List (Moment V)} {v : View V} → Run F start ms v → (s job : ℕ) (work : Work V)
      → slice_get v.journal job ≡ Some (begin_row start s job work) → (t : ℕ) × (x : Moment V) × AtTime ms t x × BeginsAt x s job work
  found_begin none s job work row = cc row
  found_begin (more {ms = ms} {v = v} {w = w} {e = e} run step) s job work row =
      ⊎_elim
      (λ old. let f = found_begin run s job work old in (f.0, f.1, inr f.2, f.3))
      (λ new. (
        length ms,
        record { before = v; event = e; after = w },
        inl (refl, refl),
        new.1 s job work (begin_like start v s job work (sym (reached run).first_is)),
      ))
      (step_rows F v e w step job _ row)

  module _ {ms : List (Moment V)} {v : View V} (run : Run F start ms v) where
    inv_v : Inv v F
    inv_v = (reached run).inv

    once_v : Once v
    once_v = once_after run

    -- the rows of a job name one pair
    names : (k s job : ℕ) (p : Pair V) → TaggedRow v k s job p ⊎ EndedRow v k s job p → Names v.journal k s job p
    names k s job p (inl row) = (_, row, inl refl)
    names k s job p (inr row) = (_, row.2, inr (row.0, row.1, refl))

    one_pair : (k i s job : ℕ) (p u : Pair V) → TaggedRow v k s job p ⊎ EndedRow v k s job p → TaggedRow v i s job u ⊎ EndedRow v i s job u → p ≡ u
    one_pair k i s job p u a b = once_v.one_pair k i s job p u (names k s job p a) (names i s job u b)

    -- the begin row of a placed job
    begun_of : (x : Placed ms) → Begun v x.station x.job (work_of ms x.sort x.value) × (x.job ≡ length x.moment.before.journal) × (1 ≤ x.station)
    begun_of x = begin_fact run x.began_at x.moment x.station x.job (work_of ms x.sort x.value) x.at x.begins

    -- the tagged row of a placed write
    write_row : (x : Placed ms) → x.sort ≡ write → (k : ℕ) × (p : Pair V) × TaggedRow v k x.station x.job p × (p.tag ≡ x.tag)
    write_row x is =
        let b = begun_of x in
        let got = subst (λ (sort : Sort). Got ms sort x.station x.job x.tag x.value) is x.got in
        let begun_x : Begun v x.station x.job (Write x.value) = subst (λ (sort : Sort). Begun v x.station x.job (work_of ms sort x.value)) is b.0 in
        (length got.1.before.journal, got.2, trip_fact run got.0 got.1 x.station x.job x.value got.2 got.3 got.4 b.2 begun_x, got.5)

    -- the ended row of a placed read
    read_row : (x : Placed ms) → x.sort ≡ read → (i : ℕ) × (p : Pair V) × EndedRow v i x.station x.job p × (p.tag ≡ x.tag) × (p.value ≡ x.value)
    read_row x is =
        let got = subst (λ (sort : Sort). Got ms sort x.station x.job x.tag x.value) is x.got in
        (length got.1.before.journal, got.2, (end_fact run got.0 got.1 x.station x.job got.2 got.3 got.4).0, got.5, got.6)

    -- tagged rows of one tag are one row
    same_write : (i k s r j l : ℕ) (p u : Pair V) → TaggedRow v i s j p → TaggedRow v k r l u → p.tag ≡ u.tag → j ≡ l
    same_write i k s r j l p u a b e =
        let x = inv_v.tagged i s j p a in
        let y = inv_v.tagged k r l u b in
        let at : s ≡ r = sym x.owner ∙ ap (λ (t : Tag). t.owner) e ∙ y.owner in
        let counts : p.tag.count ≡ u.tag.count = ap (λ (t : Tag). t.count) e in
        ⊎_elim
        (λ here. ap (λ (z : Row V). z.job) (same_Some _ _ (sym a ∙ ap (slice_get v.journal) here ∙ b)))
        (⊎_elim
        (λ less. absurd (omega (arith, y.rises i j p less (subst (λ (z : ℕ). TaggedRow v i z j p) at a))))
        (λ more_than. absurd (omega (arith, x.rises k l u more_than (subst (λ (z : ℕ). TaggedRow v k z l u) (sym at) b)))))
        (cases_order i k)

    same_job : (x y : Placed ms) → x.began_at ≡ y.began_at → x.job ≡ y.job
    same_job x y e =
        let m_same : x.moment ≡ y.moment = same_time ms y.began_at x.moment y.moment (subst (λ (k : ℕ). AtTime ms k x.moment) e x.at) y.at in
        (begun_of x).1 ∙ ap (λ (z : Moment V). length z.before.journal) m_same ∙ sym (begun_of y).1

    at_equal : (x y : Placed ms) → (x.job ≡ y.job → ⊥) → x.tag ≡ y.tag → (a b : Sort) → x.sort ≡ a → y.sort ≡ b
        → AtEqualTags ms a b x.began_at y.began_at ⊎ AtEqualTags ms b a y.began_at x.began_at
    at_equal x y ne e write write is also =
        let p = write_row x is in
        let u = write_row y also in
        absurd (ne (same_write p.0 u.0 x.station y.station x.job y.job p.1 u.1 p.2 u.2 (p.3 ∙ e ∙ sym u.3)))
    at_equal x y ne e write read is also = inl tt
    at_equal x y ne e read write is also = inr tt
    at_equal x y ne e read read is also =
        ⊎_elim (λ same. absurd (ne (same_job x y same))) (⊎_elim inl inr) (cases_order x.began_at y.began_at)

    total : (x y : Placed ms) → (x.job ≡ y.job → ⊥) → StandsBefore ms x y ⊎ StandsBefore ms y x
    total x y ne =
        ⊎_elim (λ b. inl (inl b))
        (λ up.
        ⊎_elim (λ b. inr (inl b))
        (λ down.
        let e = tag_order.same x.tag y.tag down up in
        ⊎_elim (λ l. inl (inr (e, l))) (λ l. inr (inr (sym e, l))) (at_equal x y ne e x.sort y.sort refl refl))
        (tag_order.either y.tag x.tag))
        (tag_order.either x.tag y.tag)

    never_both : (a b : Sort) (i k : ℕ) → AtEqualTags ms a b i k → AtEqualTags ms b a k i → ⊥
    never_both write write i k p q = p
    never_both write read i k p q = q
    never_both read write i k p q = p
    never_both read read i k p q = omega arith

    upto_of : (a b : Tag) → a ≡ b → Upto a b
    upto_of a b e = subst (Upto a) e (upto_refl a)

    one_way : (x y : Placed ms) → StandsBefore ms x y → StandsBefore ms y x → ⊥
    one_way x y (inl b) (inl c) = tag_order.not_both x.tag y.tag b (before_upto y.tag x.tag c)
    one_way x y (inl b) (inr c) = tag_order.not_both x.tag y.tag b (upto_of y.tag x.tag c.0)
    one_way x y (inr b) (inl c) = tag_order.not_both y.tag x.tag c (upto_of x.tag y.tag b.0)
    one_way x y (inr b) (inr c) = never_both x.sort y.sort x.began_at y.began_at b.1 c.1

    -- the tag of a job is that with which it ended
    ended_tag : (x : Placed ms) (sort : Sort) → x.sort ≡ sort → (i : ℕ) (p : Pair V) → EndedRow v i x.station x.job p → p.tag ≡ x.tag
    ended_tag x write is i p row =
        let w = write_row x is in
        sym (ap (λ (z : Pair V). z.tag) (one_pair w.0 i x.station x.job w.1 p (inl w.2) (inr row))) ∙ w.3
    ended_tag x read is i p row =
        let w = read_row x is in
        ap (λ (z : Pair V). z.tag) (one_pair i w.0 x.station x.job p w.1 (inr row) (inr w.2)) ∙ w.3

    read_place : (c : Sort) (i k : ℕ) → i < k → AtEqualTags ms c read i k
    read_place write i k l = tt
    read_place read i k l = l

    -- a job that began later has the greater number
    began_later : (x y : Placed ms) → x.job < y.job → x.began_at < y.began_at
    began_later x y l =
        ⊎_elim (λ same. absurd (omega (arith, same_job x y same)))
        (⊎_elim (λ less. less)
        (λ more_than.
        let o = past y.began_at y.moment run y.at in
        let step = subst (λ (e : Event V). Step F y.moment.before e y.moment.after) y.begins o.step in
        let shown =
        begin_shown F n laws y.moment.before o.earlier.inv o.earlier.size_is y.station (work_of ms y.sort y.value)
        (Ok (y.station, y.job)) y.moment.after step y.job refl in
        let there = between y.began_at x.began_at y.moment x.moment run y.at x.at more_than y.job _ shown.0 in
        absurd (omega (arith, slice_get_within x.moment.before.journal y.job _ there, (begun_of x).1))))
        (cases_order x.began_at y.began_at)

    after_end : (x y : Placed ms) (a b : Sort) → x.sort ≡ a → y.sort ≡ b → (i : ℕ) (p : Pair V) → EndedRow v i x.station x.job p → i < y.job → x.job < y.job
        → StandsBefore ms x y
    after_end x y a write is also i p row l earlier =
        let w = write_row y also in
        let above = (inv_v.tagged w.0 y.station y.job w.1 w.2).above_ended i x.station x.job p row l in
        inl (subst (λ (t : Tag). Before t y.tag) (ended_tag x a is i p row) (subst (Before p.tag) w.3 above))
    after_end x y a read is also i p row l earlier =
        let w = read_row y also in
        let x_tag = ended_tag x a is i p row in
        let ended = (inv_v.ended w.0 y.station y.job w.1 w.2).fits in
        let begun_y : Begun v y.station y.job Read = subst (λ (sort : Sort). Begun v y.station y.job (work_of ms sort y.value)) also (begun_of y).0 in
        let work_is : ended.work ≡ Read = (begin_same v y.station y.station y.job y.job ended.work Read (same_Some _ _ (sym ended.begun ∙ begun_y))).2 in
        let above : AboveEnded v y.job w.1.tag = subst (λ (z : Work V). Earned v y.station y.job z w.1) work_is ended.earned in
        let up : Upto x.tag y.tag = subst (λ (t : Tag). Upto t y.tag) x_tag (subst (Upto p.tag) w.3 (above i x.station x.job p row l)) in
        ⊎_elim inl
        (λ down.
        let e = tag_order.same x.tag y.tag up down in
        let place : (c d : Sort) → x.sort ≡ c → y.sort ≡ d → d ≡ read → AtEqualTags ms c d x.began_at y.began_at =
        λ c d cs ds dr.
        subst (λ (z : Sort). AtEqualTags ms c z x.began_at y.began_at) (sym dr) (read_place c x.began_at y.began_at (began_later x y earlier)) in
        inr (e, place x.sort y.sort refl refl also))
        (tag_order.either x.tag y.tag)

    in_time : (x y : Placed ms) (k : ℕ) → EndedAt ms x k → k < y.began_at → StandsBefore ms x y
    in_time x y k (m2, p, at, ends) l =
        let row = end_fact run k m2 x.station x.job p at ends in
        let o = past k m2 run at in
        let grows = between k y.began_at m2 y.moment run at y.at l in
        let i = length m2.before.journal in
        let low : i < y.job = omega (arith, slice_get_within y.moment.before.journal i _ (grows i _ row.1.2), (begun_of y).1) in
        let begun_x = (o.later.inv.ended i x.station x.job p row.1).fits.begun in
        let earlier : x.job < y.job = omega (arith, slice_get_within y.moment.before.journal x.job _ (grows x.job _ begun_x), (begun_of y).1) in
        after_end x y x.sort y.sort refl refl i p row.0 low earlier

    -- the write of a tagged row
    abbrev writer : (k s job : ℕ) (p : Pair V) → TaggedRow v k s job p → Placed ms
    writer k s job p row =
        let fits = inv_v.tagged k s job p row in
        let b = found_begin run s job (Write p.value) (fits.begun ∙ ap Some (begin_like v start s job (Write p.value) (reached run).first_is)) in
        let t = found_tag run k s job p row in
        record {
          sort = write;
          station = s;
          job = job;
          tag = p.tag;
          value = p.value;
          began_at = b.0;
          moment = b.1;
          at = b.2;
          begins = b.3;
          got = (t.0, t.1, p, t.2, t.3, refl);
        }

    -- a write that stands before a read has a tag no later
    no_later : (x y : Placed ms) → StandsBefore ms x y → Upto x.tag y.tag
    no_later x y = ⊎_elim (before_upto x.tag y.tag) (λ c. upto_of x.tag y.tag c.0)

    last_write : (y : Placed ms) → y.sort ≡ read
        → (((x : Placed ms) → x.sort ≡ write → StandsBefore ms x y → ⊥) × (y.value ≡ first.value))
        ⊎ ((x : Placed ms) × (x.sort ≡ write) × StandsBefore ms x y × (y.value ≡ x.value)
        × ((z : Placed ms) → z.sort ≡ write → StandsBefore ms z y → (z.job ≡ x.job) ⊎ StandsBefore ms z x))
    last_write y is =
        let w = read_row y is in
        let p = w.1 in
        ⊎_elim
        (λ e.
        inl (
          (λ x also before.
              let u = write_row x also in
              let above = (inv_v.tagged u.0 x.station x.job u.1 u.2).above_first in
              let up = no_later x y before in
              let x_count : u.1.tag.count ≡ x.tag.count = ap (λ (t : Tag). t.count) u.3 in
              let y_count : p.tag.count ≡ y.tag.count = ap (λ (t : Tag). t.count) w.3 in
              let first_count : p.tag.count ≡ v.first.count = ap (λ (z : Pair V). z.tag.count) e in
              omega (arith, up.0)),
          sym w.4 ∙ ap (λ (z : Pair V). z.value) e ∙ ap (λ (z : First V). z.value) (reached run).first_is,
        ))
        (λ k.
        let x = writer k.0 k.1 k.2 p k.3 in
        inr (
          x,
          refl,
          inr (w.3, subst (λ (z : Sort). AtEqualTags ms write z x.began_at y.began_at) (sym is) tt),
          sym w.4,
          λ z also before.
              let up : Upto z.tag x.tag = subst (Upto z.tag) (sym w.3) (no_later z y before) in
              ⊎_elim (λ b. inr (inl b))
              (λ down.
              let e = tag_order.same z.tag x.tag up down in
              let u = write_row z also in
              inl (same_write u.0 k.0 z.station k.1 z.job k.2 u.1 p u.2 k.3 (u.3 ∙ e)))
              (tag_order.either z.tag x.tag),
        ))
        (inv_v.ended w.0 y.station y.job p w.2).fits.known

    -- the value of a write's tagged row
    write_value : (x : Placed ms) → x.sort ≡ write → (k : ℕ) (p : Pair V) → TaggedRow v k x.station x.job p → p.value ≡ x.value
    write_value x is k p row =
        let begun_x : Begun v x.station x.job (Write x.value) = subst (λ (sort : Sort). Begun v x.station x.job (work_of ms sort x.value)) is (begun_of x).0 in
        ap (λ (r : Row V). r.value) (same_Some _ _ (sym (inv_v.tagged k x.station x.job p row).begun ∙ begun_x))

    tagged_shown : (x : Placed ms) → x.sort ≡ write
        → (k : ℕ) × (slice_get v.journal k ≡ Some (tagged_row x.station x.job (record { tag = x.tag; value = x.value })))
    tagged_shown x is =
        let w = write_row x is in
        (w.0, w.2 ∙ (λ i. Some (tagged_row x.station x.job (record { tag = w.3 i; value = write_value x is w.0 w.1 w.2 i }))))

    -- the value with which a placed job ended
    ended_value : (x : Placed ms) (sort : Sort) → x.sort ≡ sort → (i : ℕ) (p : Pair V) → EndedRow v i x.station x.job p → p.value ≡ x.value
    ended_value x write is i p row =
        let w = write_row x is in
        sym (ap (λ (z : Pair V). z.value) (one_pair w.0 i x.station x.job w.1 p (inl w.2) (inr row))) ∙ write_value x is w.0 w.1 w.2
    ended_value x read is i p row =
        let w = read_row x is in
        ap (λ (z : Pair V). z.value) (one_pair i w.0 x.station x.job p w.1 (inr row) (inr w.2)) ∙ w.4

    -- the ended row of a job that is collected
    collect_row : (k : ℕ) (x : Moment V) (s job : ℕ) (p : Pair V) (trips : ℕ) → AtTime ms k x → x.event ≡ collected s job (Ok (result.Got p trips))
        → (i : ℕ) × EndedRow v i s job p
    collect_row k x s job p trips at is =
        let o = past k x run at in
        let step : Collects x.before s job (Ok (result.Got p trips)) x.after = subst (λ (e : Event V). Step F x.before e x.after) is o.step in
        let row = collected_row x.before o.earlier.once s job p trips x.after step in
        (row.0, (row.1.0, row.1.1, o.grows row.0 _ row.1.2))

    -- the job of a hand that a delivery left on its second trip, or ended
    own_job : (x : Moment V) (s job : ℕ) (t : Telegram V) (g h : Hand V) → hand_of x.after t.station ≡ Some g → g.job ≡ t.job → t.station ≡ s → t.job ≡ job
        → hand_of x.after s ≡ Some h → h.job ≡ job
    own_job x s job t g h held on at_s of_job e = ap (λ (k : Hand V). k.job) (same_Some h g (sym e ∙ ap (hand_of x.after) (sym at_s) ∙ held)) ∙ on ∙ of_job

    trip_job : (k : ℕ) (x : Moment V) (s job : ℕ) (p : Pair V) → AtTime ms k x → TripsAt x s job p → (h : Hand V) → hand_of x.after s ≡ Some h → h.job ≡ job
    trip_job k x s job p at (d, held) h =
        let shown = (delivery_shown run k x s job answer.SecondTrip at d).trip refl in
        own_job x s job d.1 shown.0 h shown.4 shown.6 d.4 d.5

    end_job : (k : ℕ) (x : Moment V) (s job : ℕ) (p : Pair V) → AtTime ms k x → EndsAt x s job p → (h : Hand V) → hand_of x.after s ≡ Some h → h.job ≡ job
    end_job k x s job p at (d, held) h =
        let shown = (delivery_shown run k x s job answer.Ended at d).end refl in
        own_job x s job d.1 shown.0 h shown.4 shown.6 d.4 d.5

    -- a job at its stage
    since_now : (P : Stage V → Type 0) (x : Moment V) → Past x v → (s job : ℕ) → 1 ≤ s → (h : Hand V) → hand_of x.after s ≡ Some h → h.job ≡ job → P h.stage
        → Since P x.after s job
    since_now P x o s job one h e is stage = record {
      row = _;
      begun = subst (λ (j : ℕ). Begun x.after s j h.work) is (o.later.inv.hands s h one e).0;
      stage = λ k f _. subst (λ (g : Hand V). P g.stage) (same_Some _ _ (sym e ∙ f)) stage;
    }

    -- a job on its second trip ends with the pair that the trip carries
    carried_to_end : (s job : ℕ) → 1 ≤ s → (j k : ℕ) (x y : Moment V) (p u : Pair V) → AtTime ms j x → TripsAt x s job p → AtTime ms k y → EndsAt y s job u
        → p ≡ u
    carried_to_end s job one j k x y p u at trips at2 ends =
        let h = trips.1.0 in
        let g = ends.1.0 in
        let setting : h.stage ≡ Setting p trips.1.1 trips.1.2 = trips.1.4 in
        let ended : g.stage ≡ Ended u ends.1.1 ends.1.2 = ends.1.4 in
        let job_h = trip_job j x s job p at trips h trips.1.3 in
        let job_g = end_job k y s job u at2 ends g ends.1.3 in
        ⊎_elim
        (λ same.
        let moments : x ≡ y = same_time ms k x y (subst (λ (i : ℕ). AtTime ms i x) same at) at2 in
        cc)
        (⊎_elim
        (λ less.
        let now = since_now (Carrying p) x (past j x run at) s job one h trips.1.3 job_h (subst (Carrying p) (sym setting) refl) in
        subst (Carrying p) ended ((lasting (Carrying p) (carrying_lasts p) s job one j k x y run at at2 less now).stage g ends.1.3 job_g))
        (λ greater.
        let now = since_now Finished y (past k y run at2) s job one g ends.1.3 job_g (subst Finished (sym ended) tt) in
        absurd (subst Finished setting ((lasting Finished finished_lasts s job one k j y x run at2 at greater now).stage h trips.1.3 job_h))))
        (cases_order j k)

    carried_by : (x : Placed ms) (sort : Sort) → x.sort ≡ sort → (k : ℕ) (y : Moment V) (p : Pair V) → AtTime ms k y → TripsAt y x.station x.job p
        → (p.tag ≡ x.tag) × (p.value ≡ x.value)
    carried_by x write is k y p at trips =
        let begun_x : Begun v x.station x.job (Write x.value) = subst (λ (sort : Sort). Begun v x.station x.job (work_of ms sort x.value)) is (begun_of x).0 in
        let row = trip_fact run k y x.station x.job x.value p at trips (begun_of x).2 begun_x in
        let w = write_row x is in
        (ap (λ (z : Pair V). z.tag) (one_pair _ w.0 x.station x.job p w.1 (inl row) (inl w.2)) ∙ w.3, write_value x is _ p row)
    carried_by x read is k y p at trips =
        let got = subst (λ (sort : Sort). Got ms sort x.station x.job x.tag x.value) is x.got in
        let same = carried_to_end x.station x.job (begun_of x).2 k got.0 y got.1 p got.2 at trips got.3 got.4 in
        (ap (λ (z : Pair V). z.tag) same ∙ got.5, ap (λ (z : Pair V). z.value) same ∙ got.6)

    carried : Carried ms
    carried x = carried_by x x.sort refl

    shown : Shown ms v
    shown = record {
      stays = λ k m2 i row at. (past k m2 run at).grows i row;
      begun = λ k m2 s job work at begins. let b = begin_fact run k m2 s job work at begins in (b.1, b.0);
      tagged = tagged_shown;
      ended = λ x k m2 p at ends.
          let row = (end_fact run k m2 x.station x.job p at ends).0 in
          (ended_tag x x.sort refl _ p row, ended_value x x.sort refl _ p row, row);
      collect = λ x k m2 p trips at is.
          let row = collect_row k m2 x.station x.job p trips at is in
          (ended_tag x x.sort refl row.0 p row.1, ended_value x x.sort refl row.0 p row.1);
    }

  pub order_of_jobs : OrderOfJobs F first n m bus_places journal_places
  order_of_jobs ms v run =
      (record { total = total run; one_way = one_way run; in_time = in_time run; last_write = last_write run }, shown run)

  pub trips_carry : TripsCarry F first n m bus_places journal_places
  trips_carry ms v run = carried run
