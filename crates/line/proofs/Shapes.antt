-- What each call does to the jobs in hand and the journal: nothing, or one station's record changes and perhaps a
-- row joins. And what no call changes.
use Rattle.std.proofs.Common.{◌≡◌, ℕ, ◌+◌, ◌-◌, ◌^◌, ◌<◌, ◌≤◌, Bool, true, false, ◌⊎◌, List, [], ◌∷◌, ◌++◌, length, set, Some, None, Ok, Option, Result, sym, refl, ap, ◌∙◌, subst, inl, inr, ⊎_elim, arith}
use lib.Bits.{bit_or}
use Rattle.std.specs.List.{slice_get, remove}
use Rattle.std.proofs.lemmas.List.FromFn.{length-map-range_with_len}
use Rattle.std.proofs.lemmas.List.Edits.{length-remove}
use Rattle.std.proofs.lemmas.Bool.{cases_eq}
use Rattle.std.proofs.lemmas.Option.{slice_get_within}
use Rattle.std.proofs.lemmas.List.{length-append, length-set, set-set}
use Rattle.words.specs.declared.refusal.Refusal.{Refusal}
use Rattle.telegrams.specs.declared.Pair.{Pair}
use Rattle.telegrams.specs.declared.Telegram.{Telegram}
use Rattle.telegrams.specs.declared.TelegramKind.{TelegramKind}
use Rattle.telegrams.specs.declared.TelegramKind.TheVariants.{Query, Told, Set, Took}
use Rattle.quorums.specs.Sets.{Member}
use Rattle.views.specs.declared.Verdict.{Verdict}
use Rattle.views.specs.declared.Verdict.TheVariants.{OneTrip, SecondTrip}
use Rattle.line.specs.declared.types.Collected.{Collected}
use Rattle.line.specs.declared.types.Delivered.{Delivered}
use Rattle.line.specs.declared.types.Delivered.TheVariants as answer
use Rattle.line.specs.declared.types.Hand.{Hand}
use Rattle.line.specs.declared.types.Row.{Row}
use Rattle.line.specs.declared.types.Stage.{Stage}
use Rattle.line.specs.declared.types.Stage.TheVariants.{Querying, Setting, Ended, Spent}
use Rattle.line.specs.declared.types.Station.{Station}
use Rattle.line.specs.declared.types.Work.{Work}
use Rattle.line.specs.declared.types.Work.TheVariants.{Write, Read}
use Rattle.line.specs.Lines.{IsStation, View, at_stage, begin_row, ended_row, given_row, hand_of, hold, last_of, note, replica, reply, send, size, spent_row, station_at, store, tagged_row, to_all, with_bus}
use Rattle.line.specs.Runs.{Event, Step, began, claimed, collected, delivered, doubled, gave_up, lost, shelved}
use Rattle.line.specs.Steps as steps
use Rattle.line.specs.Steps.{AtHand, AtStation, Chosen, Fits, Free, Handed, Over, Reads, Stored, Takes, Tells, Unfinished, begun, wants, with_shelf}
use Rattle.line.proofs.Moves.{made, nth_kept, station_here, station_other, tagged_line, told_hand, told_view}

module _ {V : Type 0} where
  -- the same stage, with perhaps one more counted
  abbrev pub Like : Stage V → Stage V → Type 0
  Like Querying next = next ≡ Querying
  Like (Setting p strikes took) next = (counted : ℕ) × (next ≡ Setting p strikes counted)
  Like (Ended p trips strikes) next = next ≡ Ended p trips strikes
  Like Spent next = next ≡ Spent

  pub like_same : (a : Stage V) → Like a a
  like_same Querying = refl
  like_same (Setting p strikes took) = (took, refl)
  like_same (Ended p trips strikes) = refl
  like_same Spent = refl

  -- what does not depend on how many are counted
  pub like_lasts : (P : Stage V → Type 0) → ((p : Pair V) (strikes took counted : ℕ) → P (Setting p strikes took) → P (Setting p strikes counted))
      → (a b : Stage V) → Like a b → P a → P b
  like_lasts P counts Querying b e x = subst P (sym e) x
  like_lasts P counts (Setting p strikes took) b e x = subst P (sym e.1) (counts p strikes took e.0 x)
  like_lasts P counts (Ended p trips strikes) b e x = subst P (sym e) x
  like_lasts P counts Spent b e x = subst P (sym e) x

  module _ (v : View V) where
    -- job h in the hand of station s is now k
    pub record Same (s : ℕ) (h k : Hand V) : Type 0 where
      pub held : hand_of v s ≡ Some h
      pub job : k.job ≡ h.job
      pub work : k.work ≡ h.work

    -- what the hand becomes where no row joins
    pub data Quiet (s : ℕ) (hand : Option (Hand V)) : Type 0 where
      freed : (h : Hand V) → hand_of v s ≡ Some h → (got : Collected V) → Over h.stage got → hand ≡ None → Quiet s hand
      kept : (h k : Hand V) → Same s h k → hand ≡ Some k → Like h.stage k.stage → Quiet s hand
      trip : (h k : Hand V) → Same s h k → hand ≡ Some k → h.work ≡ Read → h.stage ≡ Querying → (p : Pair V) (strikes : ℕ) → k.stage ≡ Setting p strikes 0
          → Quiet s hand

    -- the call delivers a telegram of the job, and a second trip begins
    abbrev Trips : Event V → ℕ → ℕ → Type 0
    Trips e s job =
        (place : ℕ) × (t : Telegram V) × (e ≡ delivered place (Ok answer.SecondTrip)) × (slice_get v.bus place ≡ Some t) × (t.station ≡ s) × (t.job ≡ job)

    -- what the hand becomes where a row joins, and the row
    pub data Noted (e : Event V) (s : ℕ) (hand : Option (Hand V)) (row : Row V) : Type 0 where
      begun_row : (work : Work V) (k : Hand V) → hand_of v s ≡ None → Free v (wants work) → e ≡ began s work (Ok (s, length v.journal)) → hand ≡ Some k
          → k.job ≡ length v.journal → k.work ≡ work → k.stage ≡ Querying → row ≡ begin_row v s (length v.journal) work → Noted e s hand row
      tagged_row_of : (h k : Hand V) → Same s h k → hand ≡ Some k → (x : V) → h.work ≡ Write x → h.stage ≡ Querying → (p : Pair V) → k.stage ≡ Setting p 0 0
          → Trips e s h.job → row ≡ tagged_row s h.job p → Noted e s hand row
      ended_row_of : (h k : Hand V) → Same s h k → hand ≡ Some k → h.work ≡ Read → h.stage ≡ Querying → (p : Pair V) (strikes : ℕ)
          → k.stage ≡ Ended p 1 strikes → row ≡ ended_row s h.job p 1 strikes → Noted e s hand row
      took_row_of : (h k : Hand V) → Same s h k → hand ≡ Some k → (p : Pair V) (strikes took : ℕ) → h.stage ≡ Setting p strikes took
          → k.stage ≡ Ended p 2 strikes → row ≡ ended_row s h.job p 2 strikes → Noted e s hand row
      spent_row_of : (h k : Hand V) → Same s h k → hand ≡ Some k → (x : V) → h.work ≡ Write x → h.stage ≡ Querying → k.stage ≡ Spent
          → row ≡ spent_row v s h.job → Noted e s hand row
      given_row_of : (h : Hand V) → hand_of v s ≡ Some h → Unfinished h.stage → hand ≡ None → row ≡ given_row v s h.job → Noted e s hand row

    pub data Shape (e : Event V) (w : View V) : Type 0 where
      still : w.stations ≡ v.stations → w.journal ≡ v.journal → Shape e w
      quiet : (s : ℕ) (st : Station V) → IsStation v s → w.stations ≡ set v.stations (s - 1) st → w.journal ≡ v.journal → Quiet s st.hand → Shape e w
      noted : (s : ℕ) (st : Station V) (row : Row V) → IsStation v s → w.stations ≡ set v.stations (s - 1) st → w.journal ≡ v.journal ++ (row ∷ [])
          → Noted e s st.hand row → Shape e w

    -- what no call changes, and that the bus stays within its places
    pub record Frame (w : View V) : Type 0 where
      pub first : w.first ≡ v.first
      pub replicas : length w.replicas ≡ length v.replicas
      pub bus_places : w.bus_places ≡ v.bus_places
      pub journal_places : w.journal_places ≡ v.journal_places
      pub bus : length v.bus ≤ v.bus_places → length w.bus ≤ v.bus_places

    pub record Outcome (e : Event V) (w : View V) : Type 0 where
      pub shape : Shape e w
      pub frame : Frame w

    -- What comes of a telegram that is handed over: a cabinet answers it; at a station's job in hand it may count.
    module _ (F : ℕ → Type 0) (off : View V) (t : Telegram V) where
      pub data Handing (r : Result Delivered Refusal) (w : View V) : Type 0 where
        answering : t.kind ≡ Query → r ≡ Ok answer.Answered → w ≡ send off (reply t (Told (replica off t.cabinet)) ∷ []) → Handing r w
        storing : (p : Pair V) → t.kind ≡ Set p → r ≡ Ok answer.Answered → (x : View V) → Stored off t.cabinet p x → w ≡ send x (reply t Took ∷ [])
            → Handing r w
        telling : (h : Hand V) → hand_of off t.station ≡ Some h → h.job ≡ t.job → h.stage ≡ Querying → (p : Pair V) → t.kind ≡ Told p
            → (Member t.cabinet h.told → ⊥) → Tells F v off t h p r w → Handing r w
        taking : (h : Hand V) → hand_of off t.station ≡ Some h → h.job ≡ t.job → (p : Pair V) (strikes took : ℕ) → h.stage ≡ Setting p strikes took
            → t.kind ≡ Took
            → Takes F v off t h p strikes took r w → Handing r w
        passing : r ≡ Ok answer.Nothing → w ≡ off → Handing r w

      module _ (r : Result Delivered Refusal) (w : View V) where
        at_station : (h : Hand V) → hand_of off t.station ≡ Some h → (a : Stage V) → h.stage ≡ a → (k : TelegramKind V) → t.kind ≡ k
            → AtStation F v off t h a k r w → Handing r w
        at_station h held Querying stage (Told p) is = ⊎_elim (λ y. telling h held y.0 stage p is y.1 y.2) (λ y. passing y.1.0 y.1.1)
        at_station h held (Setting p strikes took) stage Took is = ⊎_elim (λ y. taking h held y.0 p strikes took stage is y.2) (λ y. passing y.1.0 y.1.1)
        at_station h held Querying stage Query is = λ y. passing y.0 y.1
        at_station h held Querying stage (Set p) is = λ y. passing y.0 y.1
        at_station h held Querying stage Took is = λ y. passing y.0 y.1
        at_station h held (Setting p strikes took) stage Query is = λ y. passing y.0 y.1
        at_station h held (Setting p strikes took) stage (Told u) is = λ y. passing y.0 y.1
        at_station h held (Setting p strikes took) stage (Set u) is = λ y. passing y.0 y.1
        at_station h held (Ended p trips strikes) stage k is = λ y. passing y.0 y.1
        at_station h held Spent stage k is = λ y. passing y.0 y.1

        at_hand : (hand : Option (Hand V)) → hand_of off t.station ≡ hand → AtHand F v off t hand r w → Handing r w
        at_hand None held y = passing y.0 y.1
        at_hand (Some h) held y = at_station h held h.stage refl t.kind refl y

        pub handing : (k : TelegramKind V) → t.kind ≡ k → Handed F v off t k r w → Handing r w
        handing Query is y = answering is y.0 y.1
        handing (Set p) is y = storing p is y.0 y.1.0 y.1.1 y.1.2
        handing (Told p) is y = at_hand (hand_of off t.station) refl y
        handing Took is y = at_hand (hand_of off t.station) refl y

    -- What a call does to the line: nothing, or one of these moves.
    pub data Move (F : ℕ → Type 0) (e : Event V) (w : View V) : Type 0 where
      unmoved : w ≡ v → Move F e w
      begins : (s : ℕ) (work : Work V) → IsStation v s → hand_of v s ≡ None → length v.bus + size v ≤ v.bus_places → Free v (wants work)
          → e ≡ began s work (Ok (s, length v.journal)) → w ≡ begun v s work → Move F e w
      delivers : (place : ℕ) (r : Result Delivered Refusal) (t : Telegram V) → e ≡ delivered place r → slice_get v.bus place ≡ Some t → Fits v t
          → Handing F (with_bus v (remove v.bus place)) t r w → Move F e w
      loses : (place : ℕ) → place < length v.bus → w ≡ with_bus v (remove v.bus place) → Move F e w
      doubles : (place : ℕ) (t : Telegram V) → slice_get v.bus place ≡ Some t → length v.bus + 1 ≤ v.bus_places → w ≡ send v (t ∷ []) → Move F e w
      frees : (s : ℕ) (h : Hand V) → IsStation v s → hand_of v s ≡ Some h → (got : Collected V) → Over h.stage got → w ≡ steps.freed v s → Move F e w
      gives : (s : ℕ) (h : Hand V) → IsStation v s → hand_of v s ≡ Some h → Unfinished h.stage → w ≡ steps.freed (note v (given_row v s h.job)) s → Move F e w
      shelves : (s : ℕ) (h : Hand V) (b : Bool) → IsStation v s → hand_of v s ≡ Some h → w ≡ hold v s (with_shelf h b) → Move F e w

    pub step_move : (F : ℕ → Type 0) (e : Event V) (w : View V) → Step F v e w → Move F e w
    step_move F (began s work r) w (inl x) = unmoved x.1.3
    step_move F (began s work r) w (inr (inl x)) = unmoved x.1.1.3
    step_move F (began s work r) w (inr (inr (inl x))) = unmoved x.2.1.3
    step_move F (began s work r) w (inr (inr (inr (inl x)))) = unmoved x.3.1.3
    step_move F (began s work r) w (inr (inr (inr (inr x)))) = begins s work x.0 x.1 x.2 x.3 (ap (began s work) x.4) x.5
    step_move F (delivered place r) w (inl x) = unmoved x.1.3
    step_move F (delivered place r) w (inr (inl x)) = unmoved x.3.3
    step_move F (delivered place r) w (inr (inr x)) = delivers place r x.0 refl x.1 x.2 (handing F _ x.0 r w x.0.kind refl x.3)
    step_move F (lost place r) w (inl x) = unmoved x.1.3
    step_move F (lost place r) w (inr x) = loses place x.0 x.2
    step_move F (doubled place r) w (inl x) = unmoved x.1.3
    step_move F (doubled place r) w (inr (inl x)) = unmoved x.3.3
    step_move F (doubled place r) w (inr (inr x)) = doubles place x.0 x.1 x.2 x.4
    step_move F (collected s job r) w (inl x) = unmoved x.1.3
    step_move F (collected s job r) w (inr (inl x)) = unmoved x.3.3
    step_move F (collected s job r) w (inr (inr x)) = frees s x.0 x.1.0 x.1.1 x.2.0 x.2.1 x.3
    step_move F (gave_up s job r) w (inl x) = unmoved x.1.3
    step_move F (gave_up s job r) w (inr (inl x)) =
        gives s x.0 x.1.0 x.1.1 x.2 (x.4 ∙ ap (λ (j : ℕ). steps.freed (note v (given_row v s j)) s) (sym x.1.2))
    step_move F (gave_up s job r) w (inr (inr x)) = frees s x.0 x.1.0 x.1.1 x.2.0 x.2.1 x.4
    step_move F (shelved s job r) w (inl x) = unmoved x.1.3
    step_move F (shelved s job r) w (inr x) = shelves s x.0 true x.1.0 x.1.1 x.3
    step_move F (claimed s r) w (inl x) = unmoved x.1.3
    step_move F (claimed s r) w (inr (inl x)) = unmoved x.1.1.3
    step_move F (claimed s r) w (inr (inr x)) = shelves s x.1.0 false x.0 x.1.1.0 x.1.3

    abbrev BusFits : List (Telegram V) → Type 0
    BusFits bus = length v.bus ≤ v.bus_places → length bus ≤ v.bus_places

    leaving : (e : Event V) (w x : View V) → x.first ≡ v.first → length x.replicas ≡ length v.replicas → x.bus_places ≡ v.bus_places
        → x.journal_places ≡ v.journal_places → BusFits x.bus → Shape e x → w ≡ x → Outcome e w
    leaving e w x first replicas bus_places journal_places bus shape same =
        subst (Outcome e) (sym same)
        (record { shape = shape; frame = record { first = first; replicas = replicas; bus_places = bus_places; journal_places = journal_places; bus = bus } })

    -- the bus after so many more telegrams than it has room for
    room : (bus : List (Telegram V)) (s job : ℕ) (k : TelegramKind V) → length bus + size v ≤ v.bus_places → length (bus ++ to_all v s job k) ≤ v.bus_places
    room bus s job k fits =
        let n = size v in
        let all : length (to_all v s job k) ≡ n = length-map-range_with_len _ 0 n in
        omega (arith, length-append bus (to_all v s job k))

    refused : (e : Event V) (w : View V) → w ≡ v → Outcome e w
    refused e w = leaving e w v refl refl refl refl (λ l. l) (still refl refl)

    moved : (e : Event V) (w : View V) (bus : List (Telegram V)) → BusFits bus → w ≡ with_bus v bus → Outcome e w
    moved e w bus fits = leaving e w (with_bus v bus) refl refl refl refl fits (still refl refl)

    module _ (F : ℕ → Type 0) (place : ℕ) (res : Result Delivered Refusal) (t : Telegram V) (on : slice_get v.bus place ≡ Some t) (line : Fits v t) where
      abbrev e : Event V
      e = delivered place res

      abbrev s : ℕ
      s = t.station

      abbrev off : View V
      off = with_bus v (remove v.bus place)

      -- one off the bus, and one joining it again
      one_less : length off.bus + 1 ≡ length v.bus
      one_less = length-remove v.bus place (slice_get_within v.bus place t on)

      off_bus : BusFits off.bus
      off_bus l = omega (arith, one_less)

      reply_fits : (u : Telegram V) → BusFits (off.bus ++ (u ∷ []))
      reply_fits u l = omega (arith, one_less, length-append off.bus (u ∷ []))

      sent_bus : (job : ℕ) (k : TelegramKind V) → length off.bus + size v ≤ v.bus_places → BusFits (off.bus ++ to_all v s job k)
      sent_bus job k l _ = room off.bus s job k l

      module _ (h : Hand V) (held : hand_of v s ≡ Some h) (job : h.job ≡ t.job) (stage : h.stage ≡ Querying) (p : Pair V) where
        abbrev g : Hand V
        g = told_hand t h

        abbrev x : View V
        x = told_view off t h p

        -- the station's record, changed twice
        twice : (last : ℕ) (next : Stage V)
            → set x.stations (s - 1) (record { last = last; hand = Some (at_stage g next) })
            ≡ set v.stations (s - 1) (record { last = last; hand = Some (at_stage g next) })
        twice last next =
            set-set v.stations (s - 1) (record { last = last_of v s; hand = Some g }) (record { last = last; hand = Some (at_stage g next) })

        abbrev same_job : (next : Stage V) → Same s h (at_stage g next)
        same_job next = record { held = held; job = refl; work = refl }

        reads : h.work ≡ Read → (q : ℕ) (verdict : Verdict) (strikes : ℕ) (w : View V) → Reads F v off t x g q verdict strikes res w
            → Outcome e w
        reads is q (OneTrip tag) strikes w y =
            let next = Ended y.0 1 strikes in
            leaving e w _ refl refl refl refl off_bus
            (noted s _ _ line.1 (twice _ next) refl (ended_row_of h (at_stage g next) (same_job next) refl is stage y.0 strikes refl refl)) y.2.1
        reads is q (SecondTrip tag) strikes w y =
            let next = Setting y.0 strikes 0 in
            ⊎_elim
            (λ z.
            leaving e w _ refl refl refl refl (sent_bus h.job (Set y.0) z.0)
            (quiet s _ line.1 (twice _ next) refl (trip h (at_stage g next) (same_job next) refl is stage y.0 strikes refl)) z.1.1)
            (λ z. refused e w z.1.3) y.2

        chosen : (q : ℕ) (work : Work V) → h.work ≡ work → (w : View V) → Chosen F v off t x g q work res w → Outcome e w
        chosen q (Write y) is w (count, _, after) =
            ⊎_elim
            (λ z.
            leaving e w _ refl refl refl refl off_bus
            (noted s _ _ line.1 (twice _ Spent) refl (spent_row_of h (at_stage g Spent) (same_job Spent) refl y is stage refl refl)) z.1.1)
            (λ z.
            let u : Pair V = made s y count in
            let next = Setting u 0 0 in
            let tagged = tagged_line x s g y count in
            let last : Station V = record { last = last_of tagged s; hand = Some (at_stage g next) } in
            ⊎_elim
            (λ yes.
            leaving e w _ refl refl refl refl (sent_bus h.job (Set u) yes.0) (noted s last _ line.1
            (set-set x.stations (s - 1) (record { last = count + 1; hand = Some g }) last ∙ twice (last_of tagged s) next)
            refl
            (tagged_row_of h (at_stage g next) (same_job next) refl y is stage u refl
            (place, t, ap (delivered place) yes.1.0, on, refl, sym job) refl)) yes.1.1)
            (λ full. refused e w full.1.3) z.1)
            after
        chosen q Read is w c = reads is q c.0 c.1 w c.3

        tells : (w : View V) → Tells F v off t h p res w → Outcome e w
        tells w =
            ⊎_elim
            (λ y.
            leaving e w x refl refl refl refl off_bus
            (quiet s _ line.1 refl refl (kept h g (same_job Querying) refl (subst (λ (a : Stage V). Like a Querying) (sym stage) refl))) y.1.1)
            (λ y. chosen y.0 h.work refl w y.2)

      takes : (h : Hand V) → hand_of v s ≡ Some h → (p : Pair V) (strikes took : ℕ) → h.stage ≡ Setting p strikes took → (w : View V)
          → Takes F v off t h p strikes took res w → Outcome e w
      takes h held p strikes took stage w =
          let counted = bit_or took (2 ^ t.cabinet) in
          let same : (next : Stage V) → Same s h (at_stage h next) = λ next. record { held = held; job = refl; work = refl } in
          ⊎_elim
          (λ y.
          let next = Setting p strikes counted in
          leaving e w _ refl refl refl refl off_bus
          (quiet s _ line.1 refl refl (kept h (at_stage h next) (same next) refl (subst (λ (a : Stage V). Like a next) (sym stage) (counted, refl)))) y.1.1)
          (λ y.
          let next = Ended p 2 strikes in
          leaving e w _ refl refl refl refl off_bus
          (noted s _ _ line.1 refl refl (took_row_of h (at_stage h next) (same next) refl p strikes took stage refl refl)) y.2.1)

      stored : (p : Pair V) (x : View V) → Stored off t.cabinet p x → Outcome e (send x (reply t Took ∷ []))
      stored p x (inl later) =
          leaving e _ (send (store off t.cabinet p) (reply t Took ∷ [])) refl (length-set v.replicas t.cabinet p) refl refl (reply_fits _) (still refl refl)
          (ap (λ (z : View V). send z (reply t Took ∷ [])) later.1)
      stored p x (inr passed) =
          moved e _ _ (reply_fits _) (ap (λ (z : View V). send z (reply t Took ∷ [])) passed.1)

      delivery : (w : View V) → Handing F off t res w → Outcome e w
      delivery w (answering is r after) = moved e w _ (reply_fits _) after
      delivery w (storing p is r x stores after) = subst (Outcome e) (sym after) (stored p x stores)
      delivery w (telling h held job stage p is new y) = tells h held job stage p w y
      delivery w (taking h held job p strikes took stage is y) = takes h held p strikes took stage w y
      delivery w (passing r after) = moved e w _ off_bus after

    outcome : (F : ℕ → Type 0) (e : Event V) (w : View V) → Move F e w → Outcome e w
    outcome F e w (unmoved same) = refused e w same
    outcome F e w (begins s work line empty fits free is after) =
        leaving e w _ refl refl refl refl (λ _. room v.bus s (length v.journal) Query fits)
        (noted s _ _ line refl refl (begun_row work _ empty free is refl refl refl refl refl)) after
    outcome F e w (delivers place r t is on line handed) = subst (λ (z : Event V). Outcome z w) (sym is) (delivery F place r t on line w handed)
    outcome F e w (loses place low after) = moved e w _ (λ l. omega (arith, length-remove v.bus place low)) after
    outcome F e w (doubles place t on fits after) = moved e w _ (λ l. omega (arith, fits, length-append v.bus (t ∷ []))) after
    outcome F e w (frees s h line held got over after) =
        leaving e w _ refl refl refl refl (λ l. l) (quiet s _ line refl refl (freed h held got over refl)) after
    outcome F e w (gives s h line held unfinished after) =
        leaving e w _ refl refl refl refl (λ l. l) (noted s _ _ line refl refl (given_row_of h held unfinished refl refl)) after
    outcome F e w (shelves s h b line held after) =
        leaving e w _ refl refl refl refl (λ l. l)
        (quiet s _ line refl refl (kept h (with_shelf h b) (record { held = held; job = refl; work = refl }) refl (like_same h.stage))) after

    pub step_outcome : (F : ℕ → Type 0) (e : Event V) (w : View V) → Step F v e w → Outcome e w
    step_outcome F e w step = outcome F e w (step_move F e w step)

    -- the journal only grows
    abbrev pub Grows : View V → Type 0
    Grows w = (i : ℕ) (row : Row V) → slice_get v.journal i ≡ Some row → slice_get w.journal i ≡ Some row

    pub shape_grows : (e : Event V) (w : View V) → Shape e w → Grows w
    shape_grows e w (still stations journal) i row f = ap (λ (rows : List (Row V)). slice_get rows i) journal ∙ f
    shape_grows e w (quiet s st line stations journal q) i row f = ap (λ (rows : List (Row V)). slice_get rows i) journal ∙ f
    shape_grows e w (noted s st new line stations journal q) i row f = ap (λ (rows : List (Row V)). slice_get rows i) journal ∙ nth_kept v.journal new i row f

  -- the hands after one station's record has changed
  module _ (v w : View V) (s : ℕ) (line : IsStation v s) (st : Station V) (stations : w.stations ≡ set v.stations (s - 1) st) where
    pub hand_mine : hand_of w s ≡ st.hand
    hand_mine = ap (λ (xs : List (Station V)). (station_at xs s).hand) stations ∙ ap (λ (z : Station V). z.hand) (station_here v.stations s line.0 st line.1)

    pub hand_cases : (r : ℕ) (k : Hand V) → 1 ≤ r → hand_of w r ≡ Some k → ((r ≡ s) × (st.hand ≡ Some k)) ⊎ ((r ≡ s → ⊥) × (hand_of v r ≡ Some k))
    hand_cases r k one e =
        ⊎_elim (λ at. inl (at, sym hand_mine ∙ ap (hand_of w) (sym at) ∙ e))
        (λ ne.
        let there : station_at w.stations r ≡ station_at v.stations r =
        ap (λ (xs : List (Station V)). station_at xs r) stations ∙ station_other v.stations s line.0 st r one ne in
        inr (ne, sym (ap (λ (z : Station V). z.hand) there) ∙ e))
        (cases_eq r s)
