-- Every step keeps what holds of a line, and what it adds to the journal.
use Rattle.std.proofs.Common.{◌≡◌, ℕ, ◌≤◌, ◌⊎◌, [], ◌∷◌, ◌++◌, length, Some, Ok, Err, Result, sym, refl, ap, ◌∙◌, subst, inl, inr, ⊎_elim, arith}
use Rattle.std.specs.List.{Contains, slice_get, remove}
use Rattle.std.proofs.lemmas.List.Elements.{Contains-push_cases}
use Rattle.std.proofs.lemmas.Option.{same_Some}
use Rattle.words.specs.declared.tag.Tag.{Tag}
use Rattle.telegrams.specs.declared.Pair.{Pair}
use Rattle.telegrams.specs.declared.Telegram.{Telegram}
use Rattle.telegrams.specs.declared.TelegramKind.TheVariants.{Told, Set, Took}
use Rattle.quorums.specs.Sets.{Inside, Member}
use Rattle.views.specs.Views.{Judged}
use Rattle.views.specs.declared.Verdict.TheVariants.{OneTrip, SecondTrip}
use Rattle.line.specs.declared.types.Hand.{Hand}
use Rattle.line.specs.declared.types.Row.{Row}
use Rattle.line.specs.declared.types.Stage.TheVariants.{Querying, Setting, Ended, Spent}
use Rattle.line.specs.declared.types.Work.{Work}
use Rattle.line.specs.declared.types.Work.TheVariants.{Write, Read}
use Rattle.words.specs.declared.refusal.Refusal.{Refusal}
use Rattle.views.specs.declared.Verdict.{Verdict}
use Rattle.line.specs.declared.types.Delivered.{Delivered}
use Rattle.line.specs.declared.types.Delivered.TheVariants as answer
use Rattle.line.specs.Runs.{Event, Laws, Step}
use Rattle.line.specs.Steps.{Begins, Chosen, Delivers, Fits, Reads, Second, Stored, Tags, Takes, Tells, begun, with_shelf}
use Rattle.line.specs.Lines.{View, at_stage, begin_row, ended_row, given_row, hand_of, hold, last_of, note, reply, send, size, spent_row, tagged_row, to_all, told_tags, with_bus}
use Rattle.line.proofs.Invariants.{Begun, EndedRow, Inv, TaggedRow}
use Rattle.line.proofs.Moves.{hand_here, inv_bus, inv_note, made, nth_last, station_still, tagged_line, told_hand, told_view}
use Rattle.line.proofs.Shapes.{Grows, Handing, Move, answering, begins, delivers, doubles, frees, gives, handing, loses, passing, shape_grows, shelves, step_move, step_outcome, storing, taking, telling, unmoved}
use Rattle.line.proofs.Keeps.{free, keep, keeps_begin, like, off}
use Rattle.line.proofs.Deliveries.{keeps_passed, keeps_query, keeps_sets, keeps_stored}
use Rattle.line.proofs.Tellings.{keeps_counted, keeps_one_trip, keeps_second, keeps_setting, keeps_spent, keeps_told, keeps_took, told_held}
use Rattle.line.proofs.Rows.{contains_at}

module _ {V : Type 0} (F : ℕ → Type 0) (n : ℕ) (laws : Laws F n) where
  -- what a step has to show of the line after it
  pub record Good (v w : View V) : Type 0 where
    pub inv : Inv w F
    pub grows : Grows v w
    pub size_kept : size w ≡ size v
    pub first_kept : w.first ≡ v.first

  -- what a delivery to a station's job has to show besides
  abbrev pub Trip : View V → View V → Telegram V → Type 0
  Trip v w t =
      (h : Hand V) × (p : Pair V) × (a : ℕ) × (b : ℕ) × (hand_of w t.station ≡ Some h) × (h.stage ≡ Setting p a b) × (h.job ≡ t.job)
      × ((h.work ≡ Read) ⊎ TaggedRow w (length v.journal) t.station t.job p)

  abbrev pub End : View V → View V → Telegram V → Type 0
  End v w t =
      (h : Hand V) × (p : Pair V) × (a : ℕ) × (b : ℕ) × (hand_of w t.station ≡ Some h) × (h.stage ≡ Ended p a b) × (h.job ≡ t.job)
      × EndedRow w (length v.journal) t.station t.job p

  pub record Shown (v w : View V) (t : Telegram V) (r : Result Delivered Refusal) : Type 0 where
    pub inv : Inv w F
    pub trip : r ≡ Ok answer.SecondTrip → Trip v w t
    pub end : r ≡ Ok answer.Ended → End v w t

  module _ (v : View V) (inv : Inv v F) where
    -- a refusal leaves the line as found
    refused : (w : View V) (t : Telegram V) (r : Result Delivered Refusal) (x : Refusal) → r ≡ Err x → w ≡ v → Shown v w t r
    refused w t r x e same = record { inv = subst (λ (z : View V). Inv z F) (sym same) inv; trip = λ f. cc; end = λ f. cc }

    module _ (w x : View V) (t : Telegram V) (r : Result Delivered Refusal) (after : w ≡ x) (keeps : Inv x F) where
      -- an answer that begins no second trip and ends no job
      plain : (a : Delivered) → r ≡ Ok a → (a ≡ answer.SecondTrip → ⊥) → (a ≡ answer.Ended → ⊥) → Shown v w t r
      plain a is no-trip no_end = record {
        inv = subst (λ (z : View V). Inv z F) (sym after) keeps;
        trip = λ f. let same : a ≡ answer.SecondTrip = cc in absurd (no-trip same);
        end = λ f. let same : a ≡ answer.Ended = cc in absurd (no_end same);
      }

      -- a second trip, and an end
      trips : r ≡ Ok answer.SecondTrip → Trip v x t → Shown v w t r
      trips is trip = record {
        inv = subst (λ (z : View V). Inv z F) (sym after) keeps;
        trip = λ f. subst (λ (z : View V). Trip v z t) (sym after) trip;
        end = λ f. cc;
      }

      ends : r ≡ Ok answer.Ended → End v x t → Shown v w t r
      ends is end = record {
        inv = subst (λ (z : View V). Inv z F) (sym after) keeps;
        trip = λ f. cc;
        end = λ f. subst (λ (z : View V). End v z t) (sym after) end;
      }

    module _ (place : ℕ) (t : Telegram V) (m : Contains v.bus t) (line : Fits v t) (size_is : size v ≡ n) where
      abbrev s : ℕ
      s = t.station

      one : 1 ≤ s
      one = line.1.0

      abbrev off_bus : View V → View V
      off_bus x = with_bus x (remove v.bus place)

      module _ (h : Hand V) (e : hand_of v s ≡ Some h) (job : h.job ≡ t.job) where
        -- a telling that counts
        module _ (p : Pair V) (stage : h.stage ≡ Querying) (is : t.kind ≡ Told p) where
          abbrev g : Hand V
          g = told_hand t h

          abbrev x : View V
          x = told_view v t h p

          kept : Inv x F
          kept = keeps_told F n laws v inv t m line.1.1 h e stage job p is

          held : hand_of x s ≡ Some g
          held = told_held F n laws v inv t m line.1.1 h e stage job p is

          in_line : s ≤ length x.stations
          in_line = station_still v.stations s one _ line.1.1

          module _ (q : ℕ) (fq : F q) (inside : Inside q g.told) where
            -- a second trip of a read
            second : (work : h.work ≡ Read) (tag : Tag) (strikes : ℕ) → Judged (told_tags x s) q F (SecondTrip tag) strikes → (k : ℕ) (u : Pair V) → Member k q
                → x.answers s k ≡ Some u → u.tag ≡ tag → (r : Result Delivered Refusal) (w : View V)
                → Second F v (off_bus v) t (off_bus x) g u strikes r w → Shown v w t r
            second work tag strikes judged k u mem a at r w =
                ⊎_elim
                (λ y.
                let b = at_stage g (Setting u strikes 0) in
                let set_inv = keeps_second F n laws x kept s one in_line g held refl q fq inside size_is work tag strikes judged k u mem a at in
                let set_held = hand_here x s one in_line (last_of x s) (Some b) (x.answers s) in
                let sent = keeps_sets F (hold x s b) set_inv place s one b u strikes 0 set_held (refl {a = Setting u strikes 0}) in
                trips w _ t r y.1.1 sent y.1.0 (b, u, strikes, 0, set_held, refl {a = Setting u strikes 0}, job, inl work))
                (λ y. refused w t r y.1.0 y.1.1 y.1.3)

            reads : (work : h.work ≡ Read) (verdict : Verdict) (strikes : ℕ) → Judged (told_tags x s) q F verdict strikes
                → (r : Result Delivered Refusal) (w : View V)
                → Reads F v (off_bus v) t (off_bus x) g q verdict strikes r w → Shown v w t r
            reads work (OneTrip tag) strikes judged r w (u, low, (is, after)) =
                let k = at_stage g (Ended u 1 strikes) in
                let row = ended_row s g.job u 1 strikes in
                let ended = keeps_one_trip F n laws x kept s one in_line g held refl q fq inside size_is work tag strikes judged low.0 u low.1 low.2 low.3 in
                let end_held = hand_here x s one in_line (last_of x s) (Some k) (x.answers s) in
                let shown = subst (λ (j : ℕ). EndedRow (note x row) (length v.journal) s j u) job (1, strikes, nth_last v.journal row) in
                ends w _ t r after (off F (note (hold x s k) row) ended place) is (k, u, 1, strikes, end_held, refl {a = Ended u 1 strikes}, job, shown)
            reads work (SecondTrip tag) strikes judged r w y =
                second work tag strikes judged y.1.0 y.0 y.1.1 y.1.2 y.1.3 r w y.2

            -- a write gets its tag, or the counts have run out
            tags : (y : V) → h.work ≡ Write y → (r : Result Delivered Refusal) (w : View V) → Tags F v (off_bus v) t (off_bus x) g y q r w → Shown v w t r
            tags y work r w (c, greatest, inl out) =
                let spent = keeps_spent F n laws x kept s one in_line g held refl q fq inside in
                let z = note (hold x s (at_stage g Spent)) (spent_row x s g.job) in
                plain w (off_bus z) t r out.1.1 (off F z spent place) answer.Spent out.1.0 (λ e. cc) (λ e. cc)
            tags y work r w (c, greatest, inr tag) =
                let u : Pair V = made s y c in
                let row = tagged_row s g.job u in
                let b = tagged_line x s g y c in
                let k = at_stage g (Setting u 0 0) in
                let z = hold b s k in
                let most : (i : ℕ) (a : Pair V) → Member i q → x.answers s i ≡ Some a → a.tag.count ≤ c = greatest.1 in
                ⊎_elim
                (λ yes.
                let set_inv = keeps_setting F n laws x kept s one in_line g held refl q fq inside y work c greatest.0 most in
                let set_held = hand_here b s one (station_still x.stations s one _ in_line) (last_of b s) (Some k) (b.answers s) in
                let sent = keeps_sets F z set_inv place s one k u 0 0 set_held (refl {a = Setting u 0 0}) in
                let shown = subst (λ (j : ℕ). TaggedRow b (length v.journal) s j u) job (nth_last v.journal row) in
                trips w (with_bus z (remove v.bus place ++ to_all z s k.job (Set u))) t r yes.1.1 sent yes.1.0
                (k, u, 0, 0, set_held, refl {a = Setting u 0 0}, job, inr shown))
                (λ full. refused w t r full.1.0 full.1.1 full.1.3)
                tag.1

            chosen : (work : Work V) → h.work ≡ work → (r : Result Delivered Refusal) (w : View V) → Chosen F v (off_bus v) t (off_bus x) g q work r w
                → Shown v w t r
            chosen (Write y) work r w c = tags y work r w c
            chosen Read work r w c = reads work c.0 c.1 c.2 r w c.3

          tells : (r : Result Delivered Refusal) (w : View V) → Tells F v (off_bus v) t h p r w → Shown v w t r
          tells r w =
              ⊎_elim (λ y. plain w _ t r y.1.1 (off F x kept place) answer.Kept y.1.0 (λ e. cc) (λ e. cc))
              (λ y. chosen y.0 y.1.0 y.1.1 h.work refl r w y.2)

        -- a took that counts
        takes : (p : Pair V) (strikes took : ℕ) → h.stage ≡ Setting p strikes took → t.kind ≡ Took → (r : Result Delivered Refusal) (w : View V)
            → Takes F v (off_bus v) t h p strikes took r w → Shown v w t r
        takes p strikes took stage is r w =
            ⊎_elim
            (λ y.
            let counted = keeps_counted F n laws v inv t m line.1.1 h e p strikes took stage job is in
            plain w _ t r y.1.1 (off F _ counted place) answer.Kept y.1.0 (λ e. cc) (λ e. cc))
            (λ y.
            let k = at_stage h (Ended p 2 strikes) in
            let row = ended_row s h.job p 2 strikes in
            let ended = keeps_took F n laws v inv t m line.1.1 h e p strikes took stage job is y.0 y.1.0 y.1.1 in
            let end_held = hand_here v s one line.1.1 (last_of v s) (Some k) (v.answers s) in
            let shown = subst (λ (j : ℕ). EndedRow (note v row) (length v.journal) s j p) job (2, strikes, nth_last v.journal row) in
            ends w _ t r y.2.1 (off F (note (hold v s k) row) ended place) y.2.0 (k, p, 2, strikes, end_held, refl {a = Ended p 2 strikes}, job, shown))

      stores : (p : Pair V) → t.kind ≡ Set p → (x : View V) → Stored (off_bus v) t.cabinet p x → Inv (send x (reply t Took ∷ [])) F
      stores p is x (inl later) =
          subst (λ (z : View V). Inv (send z (reply t Took ∷ [])) F) (sym later.1) (keeps_stored F v inv place t m p is later.0 line.0)
      stores p is x (inr passed) =
          subst (λ (z : View V). Inv (send z (reply t Took ∷ [])) F) (sym passed.1) (keeps_passed F v inv place t m p is passed.0)

      delivery : (r : Result Delivered Refusal) (w : View V) → Handing v F (off_bus v) t r w → Shown v w t r
      delivery r w (answering kind is after) = plain w _ t r after (keeps_query F v inv place t m) answer.Answered is (λ e. cc) (λ e. cc)
      delivery r w (storing p kind is x stored after) = plain w _ t r after (stores p kind x stored) answer.Answered is (λ e. cc) (λ e. cc)
      delivery r w (telling h held job stage p kind new y) = tells h held job p stage kind r w y
      delivery r w (taking h held job p strikes took stage kind y) = takes h held job p strikes took stage kind r w y
      delivery r w (passing is after) = plain w _ t r after (off F v inv place) answer.Nothing is (λ e. cc) (λ e. cc)

  module _ (v : View V) (inv : Inv v F) (size_is : size v ≡ n) where
    -- a delivery, of the telegram at its place
    pub deliver_shown : (place : ℕ) (r : Result Delivered Refusal) (w : View V) → Delivers F v place r w → (t : Telegram V) → slice_get v.bus place ≡ Some t
        → Shown v w t r
    deliver_shown place r w (inl x) t at = refused v inv w t r x.1.0 x.1.1 x.1.3
    deliver_shown place r w (inr (inl x)) t at = refused v inv w t r x.3.0 x.3.1 x.3.3
    deliver_shown place r w (inr (inr x)) t at =
        let u = x.0 in
        subst (λ (z : Telegram V). Shown v w z r) (same_Some u t (sym x.1 ∙ at))
        (delivery v inv place u (contains_at v.bus place u x.1) x.2 size_is r w (handing v F _ u r w u.kind refl x.3))

    -- each move keeps what holds of a line
    kept_by : (w x : View V) → Inv x F → w ≡ x → Inv w F
    kept_by w x keeps after = subst (λ (z : View V). Inv z F) (sym after) keeps

    move_inv : (e : Event V) (w : View V) → Move v F e w → Inv w F
    move_inv e w (unmoved same) = kept_by w v inv same
    move_inv e w (begins s work line empty fits left is after) = kept_by w _ (keeps_begin F v inv s line.0 line.1 work) after
    move_inv e w (delivers place r t is on line handed) = (delivery v inv place t (contains_at v.bus place t on) line size_is r w handed).inv
    move_inv e w (loses place low after) = kept_by w _ (off F v inv place) after
    move_inv e w (doubles place t on fits after) =
        let old : (u : Telegram V) → t ≡ u → Contains v.bus u = λ u same. subst (Contains v.bus) same (contains_at v.bus place t on) in
        kept_by w _ (inv_bus F v inv (v.bus ++ (t ∷ [])) (λ u m. inl (⊎_elim (λ o. o) (old u) (Contains-push_cases v.bus t u m)))) after
    move_inv e w (frees s h line held got over after) = kept_by w _ (free F v inv s line.0 line.1 h held) after
    move_inv e w (gives s h line held unfinished after) =
        let noted = inv_note F v inv (given_row v s h.job) (λ a j u n. cc (ap (λ (r : Row V). r.kind) n)) (λ a j u b c n. cc (ap (λ (r : Row V). r.kind) n)) in
        kept_by w _ (free F (note v (given_row v s h.job)) noted s line.0 line.1 h held) after
    move_inv e w (shelves s h b line held after) =
        let k = with_shelf h b in
        kept_by w _
        (keep F v inv s line.0 line.1 h held (last_of v s) (omega arith) k refl refl refl (inv.hands s h line.0 held).1
        (λ t m x. like v t t.kind h k refl x)) after

    pub step_good : (e : Event V) (w : View V) → Step F v e w → Good v w
    step_good e w step =
        let outcome = step_outcome v F e w step in
        record {
          inv = move_inv e w (step_move v F e w step);
          grows = shape_grows v e w outcome.shape;
          size_kept = outcome.frame.replicas;
          first_kept = outcome.frame.first;
        }

    -- a begin that hands out a ticket
    pub begin_shown : (s : ℕ) (work : Work V) (r : Result (ℕ × ℕ) Refusal) (w : View V) → Begins v s work r w → (job : ℕ) → r ≡ Ok (s, job)
        → Begun w s job work × (job ≡ length v.journal) × (1 ≤ s)
    begin_shown s work r w (inl x) job ok = cc x.1.1
    begin_shown s work r w (inr (inl x)) job ok = cc x.1.1.1
    begin_shown s work r w (inr (inr (inl x))) job ok = cc x.2.1.1
    begin_shown s work r w (inr (inr (inr (inl x)))) job ok = cc x.3.1.1
    begin_shown s work r w (inr (inr (inr (inr x)))) job ok =
        let same : ◌≡◌ {A = ℕ × ℕ} (s, length v.journal) (s, job) = cc x.4 in
        let number : length v.journal ≡ job = ap (λ (z : ℕ × ℕ). z.1) same in
        let row : Begun (begun v s work) s (length v.journal) work = nth_last v.journal (begin_row v s (length v.journal) work) in
        (subst (λ (z : View V). Begun z s job work) (sym x.5) (subst (λ (j : ℕ). Begun (begun v s work) s j work) number row), sym number, x.0.0)
