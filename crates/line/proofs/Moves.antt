-- The moves that calls are made of, each of which keeps what holds of a line.
use Rattle.std.proofs.Common.{◌≡◌, ℕ, ◌+◌, ◌-◌, ◌^◌, ◌<◌, ◌≤◌, eqb, ◌⊎◌, List, [], ◌∷◌, ◌++◌, length, get_or, set, Some, Option, sym, refl, ap, ◌∙◌, subst, inl, inr, ⊎_elim, zero-add, arith}
use lib.Bits.{bit_or}
use Rattle.std.specs.List.{Contains, slice_get}
use Rattle.std.specs.Option.{IfSome}
use Rattle.std.proofs.lemmas.Grind.{common_steps}
use Rattle.std.proofs.lemmas.List.FromFn.{get_or-map-range_with_len}
use Rattle.std.proofs.lemmas.Option.{gets, slice_get_within}
use Rattle.std.proofs.lemmas.List.{get_or-set_other, get_or-set_same, length-set, set_past}
use Rattle.std.proofs.lemmas.Bool.{cases_eq, cases_lt, cond-true, cond-false, eq-eqb, ne_eqb}
use Rattle.words.specs.declared.tag.Tag.{Tag}
use Rattle.words.specs.Tags.{Before, Upto}
use Rattle.words.proofs.TagOrders.{tag_order}
use Rattle.telegrams.specs.declared.Pair.{Pair}
use Rattle.telegrams.specs.declared.Telegram.{Telegram}
use Rattle.telegrams.specs.declared.TelegramKind.{TelegramKind}
use Rattle.telegrams.specs.declared.TelegramKind.TheVariants.{Query, Told, Set, Took}
use Rattle.quorums.specs.Sets.{Member}
use Rattle.views.specs.Views.{told}
use Rattle.line.specs.declared.types.Hand.{Hand}
use Rattle.line.specs.declared.types.Row.{Row}
use Rattle.line.specs.declared.types.Stage.{Stage}
use Rattle.line.specs.declared.types.Stage.TheVariants.{Querying, Setting, Ended, Spent}
use Rattle.line.specs.declared.types.Station.{Station}
use Rattle.line.specs.declared.types.Work.{Work}
use Rattle.line.specs.declared.types.Work.TheVariants.{Write, Read}
use Rattle.line.specs.Lines.{View, change, ended_row, first_pair, hand_of, idle, last_of, note, put, replica, size, station_at, store, tag_of, tagged_row, told_tags, with_bus}
use Rattle.line.proofs.Invariants.{AboveEnded, Begun, Carries, Earned, Ending, EndedRow, Guard, Inv, KindFits, Known, Sound, StageFits, TaggedFits, TookFits, page}

-- places of a list
pub nth_kept : {X : Type 0} (xs : List X) (y : X) (i : ℕ) (x : X) → slice_get xs i ≡ Some x → slice_get (xs ++ (y ∷ [])) i ≡ Some x
nth_kept xs y i x e = grind (arith, common_steps, gets)

pub nth_last : {X : Type 0} (xs : List X) (y : X) → slice_get (xs ++ (y ∷ [])) (length xs) ≡ Some y
nth_last xs y = grind (arith, common_steps, gets)

pub nth_cases : {X : Type 0} (xs : List X) (y : X) (i : ℕ) (x : X) → slice_get (xs ++ (y ∷ [])) i ≡ Some x
    → (slice_get xs i ≡ Some x) ⊎ ((i ≡ length xs) × (y ≡ x))
nth_cases xs y i x e = grind (arith, common_steps, gets)

-- a function changed at one number
pub put_here : {X : Type 0} (f : ℕ → X) (i : ℕ) (x : X) → put f i x i ≡ x
put_here f i x = cond-true (eqb i i) x (f i) (eq-eqb i i refl)

pub put_other : {X : Type 0} (f : ℕ → X) (i : ℕ) (x : X) (k : ℕ) → (k ≡ i → ⊥) → put f i x k ≡ f k
put_other f i x k ne = cond-false (eqb k i) x (f k) (ne_eqb k i ne)

-- the record of a station that has changed, and another's
module _ {V : Type 0} (stations : List (Station V)) (s : ℕ) (one : 1 ≤ s) (st : Station V) where
  pub station_here : s ≤ length stations → station_at (set stations (s - 1) st) s ≡ st
  station_here in_line = get_or-set_same stations (s - 1) st idle (omega arith)

  pub station_other : (r : ℕ) → 1 ≤ r → (r ≡ s → ⊥) → station_at (set stations (s - 1) st) r ≡ station_at stations r
  station_other r l ne = get_or-set_other stations (s - 1) (r - 1) st idle (λ e. ne (omega arith))

  pub station_still : s ≤ length stations → s ≤ length (set stations (s - 1) st)
  station_still in_line = omega (arith, length-set stations (s - 1) st)

pub hand_here : {V : Type 0} (v : View V) (s : ℕ) → 1 ≤ s → s ≤ length v.stations → (last : ℕ) (hand : Option (Hand V)) (answers : ℕ → Option (Pair V))
    → hand_of (change v s last hand answers) s ≡ hand
hand_here {V} v s one in_line last hand answers = ap (λ (st : Station V). st.hand) (station_here v.stations s one (record { last = last; hand = hand }) in_line)

-- the pair of a write whose quorum told counts up to g, and the line with its tag
abbrev pub made : {V : Type 0} → ℕ → V → ℕ → Pair V
made s y g = record { tag = record { count = g + 1; owner = s }; value = y }

abbrev pub tagged_line : {V : Type 0} → View V → ℕ → Hand V → V → ℕ → View V
tagged_line w s h y g = note (change w s (g + 1) (Some h) (w.answers s)) (tagged_row s h.job (made s y g))

-- a tag that was told
pub told_at : {V : Type 0} (v : View V) (s k : ℕ) (u : Pair V) → k < size v → v.answers s k ≡ Some u → told (told_tags v s) k ≡ u.tag
told_at v s k u low a =
    get_or-map-range_with_len (λ c. tag_of (v.answers s c)) 0 (size v) k k (record { count = 0; owner = 0 }) low (zero-add k) ∙ ap tag_of a

-- the hand and the line that have kept a telling
abbrev pub told_hand : {V : Type 0} → Telegram V → Hand V → Hand V
told_hand t h = record { job = h.job; work = h.work; told = bit_or h.told (2 ^ t.cabinet); stage = Querying; shelved = h.shelved }

abbrev pub told_view : {V : Type 0} → View V → Telegram V → Hand V → Pair V → View V
told_view v t h p = change v t.station (last_of v t.station) (Some (told_hand t h)) (put (v.answers t.station) t.cabinet (Some p))

module _ {V : Type 0} (F : ℕ → Type 0) (v : View V) (inv : Inv v F) where
  -- a telegram that has just been sent: a telling carries the cabinet's replica
  abbrev pub New : Telegram V → Type 0
  New t = Sound v t × ((u : Pair V) → t.kind ≡ Told u → u ≡ replica v t.cabinet)

  pub inv_bus : (b : List (Telegram V)) → ((t : Telegram V) → Contains b t → Contains v.bus t ⊎ New t) → Inv (with_bus v b) F
  inv_bus b from =
      let again : (t : Telegram V) → Sound v t → Sound (with_bus v b) t =
      λ t x. record { station = x.station; work = x.work; begun = x.begun; carries = x.carries; fits = x.fits } in
      record {
        replicas = inv.replicas;
        bus = λ t m. ⊎_elim (λ o. again t (inv.bus t o)) (λ n. again t n.0) (from t m);
        answers = inv.answers;
        hands = inv.hands;
        told = inv.told;
        lasts = inv.lasts;
        tagged = inv.tagged;
        ended = λ i s j p r.
            let x = inv.ended i s j p r in
            record {
              fits = x.fits;
              guards = λ c m.
                  let g = x.guards c m in
                  record {
                    stored = g.stored;
                    under_way = λ t u a told at l.
                        ⊎_elim (λ o. g.under_way t u o told at l)
                        (λ n.
                        let is : replica v c ≡ u = ap (replica v) (sym at) ∙ sym (n.1 u told) in
                        subst (λ (x : Pair V). Upto p.tag x.tag) is g.stored)
                        (from t a);
                    kept = g.kept;
                  };
            };
      }

  -- a row joins the journal
  module _ (r : Row V) where
    abbrev w : View V
    w = note v r

    begun_below : (s job : ℕ) (work : Work V) → Begun v s job work → job < length v.journal
    begun_below s job work b = slice_get_within v.journal job _ b

    pub begun_note : (s job : ℕ) (work : Work V) → Begun v s job work → Begun w s job work
    begun_note s job work b = nth_kept v.journal r job _ b

    pub known_note : (p : Pair V) → Known v p → Known w p
    known_note p = ⊎_elim inl (λ x. inr (x.0, x.1, x.2, nth_kept v.journal r x.0 _ x.3))

    -- an ended row that was there
    ended_old : (i s j : ℕ) (p : Pair V) → EndedRow w i s j p → i < length v.journal → EndedRow v i s j p
    ended_old i s j p e l =
        (e.0, e.1, ⊎_elim (λ o. o) (λ n. absurd (omega (arith, n.0))) (nth_cases v.journal r i _ e.2))

    pub above_note : (job : ℕ) (t : Tag) → job ≤ length v.journal → AboveEnded v job t → AboveEnded w job t
    above_note job t h above i s j p e l = above i s j p (ended_old i s j p e (omega arith)) l

    pub earned_note : (s job : ℕ) (work : Work V) (p : Pair V) → job < length v.journal → Earned v s job work p → Earned w s job work p
    earned_note s job (Write x) p h e = (e.0, nth_kept v.journal r e.0 _ e.1)
    earned_note s job Read p h e = above_note job p.tag (omega arith) e

    carries_note : (t : Telegram V) (k : TelegramKind V) → Carries v t k → Carries w t k
    carries_note t Query x = tt
    carries_note t (Told p) x = (known_note p x.0, x.1)
    carries_note t (Set p) x = known_note p x
    carries_note t Took x = tt

    stage_note : (s : ℕ) (h : Hand V) (st : Stage V) → h.job < length v.journal → StageFits v s h st → StageFits w s h st
    stage_note s h Querying l x = tt
    stage_note s h (Setting p strikes took) l x = (known_note p x.0, x.1, earned_note s h.job h.work p l x.2)
    stage_note s h (Ended p trips strikes) l x = tt
    stage_note s h Spent l x = tt

    pub inv_note : ((s j : ℕ) (p : Pair V) → r ≡ tagged_row s j p → TaggedFits (page w) (length v.journal) s j p × (p.tag.count ≤ last_of v s))
        → ((s j : ℕ) (p : Pair V) (a b : ℕ) → r ≡ ended_row s j p a b → Ending w F (length v.journal) s j p) → Inv w F
    inv_note new-tagged new-ended = record {
      replicas = λ c. known_note (replica v c) (inv.replicas c);
      bus = λ t m.
          let x = inv.bus t m in
          record {
            station = x.station;
            work = x.work;
            begun = begun_note t.station t.job x.work x.begun;
            carries = carries_note t t.kind x.carries;
            fits = x.fits;
          };
      answers = λ s c p h e. let x = inv.answers s c p h e in (known_note p x.0, x.1);
      hands = λ s h l e.
          let x = inv.hands s h l e in
          (begun_note s h.job h.work x.0, stage_note s h h.stage (begun_below s h.job h.work x.0) x.1);
      told = inv.told;
      lasts = λ k s j p row. ⊎_elim (inv.lasts k s j p) (λ here. (new-tagged s j p here.1).1) (nth_cases v.journal r k _ row);
      tagged = λ k s j p row.
          ⊎_elim
          (λ old.
          let x = inv.tagged k s j p old in
          let far = slice_get_within v.journal k _ old in
          let low = begun_below s j (Write p.value) x.begun in
          record {
            owner = x.owner;
            station = x.station;
            above_first = x.above_first;
            begun = begun_note s j (Write p.value) x.begun;
            above_ended = λ i q m u e l. x.above_ended i q m u (ended_old i q m u e (omega arith)) l;
            rises = λ i m u l t. x.rises i m u l (⊎_elim (λ o. o) (λ n. absurd (omega (arith, n.0))) (nth_cases v.journal r i _ t));
          })
          (λ here. subst (λ (i : ℕ). TaggedFits (page w) i s j p) (sym here.0) (new-tagged s j p here.1).0)
          (nth_cases v.journal r k _ row);
      ended = λ i s j p row.
          ⊎_elim
          (λ old.
          let x = inv.ended i s j p (row.0, row.1, old) in
          let y = x.fits in
          let low = begun_below s j y.work y.begun in
          record {
            fits = record {
              work = y.work;
              begun = begun_note s j y.work y.begun;
              known = known_note p y.known;
              earned = earned_note s j y.work p low y.earned;
              quorum = y.quorum;
              is_quorum = y.is_quorum;
            };
            guards = λ c m. let g = x.guards c m in record { stored = g.stored; under_way = g.under_way; kept = g.kept };
          })
          (λ here. subst (λ (k : ℕ). Ending w F k s j p) (sym here.0) (new-ended s j p row.0 row.1 here.1))
          (nth_cases v.journal r i _ row.2);
    }

  -- a cabinet stores a later pair
  module _ (c : ℕ) (p : Pair V) (later : Before (replica v c).tag p.tag) (known : Known v p) where
    stored_at : (k : ℕ) → (replica (store v c p) k ≡ replica v k) ⊎ ((k ≡ c) × (replica (store v c p) k ≡ p))
    stored_at k =
        ⊎_elim
        (λ e.
        ⊎_elim (λ l. inr (e, ap (λ (i : ℕ). get_or (set v.replicas c p) i (first_pair v)) e ∙ get_or-set_same v.replicas c p (first_pair v) l))
        (λ l. inl (ap (λ (xs : List (Pair V)). get_or xs k (first_pair v)) (set_past v.replicas c p l)))
        (cases_lt c (length v.replicas)))
        (λ other. inl (get_or-set_other v.replicas c k p (first_pair v) other))
        (cases_eq k c)

    rise : (k : ℕ) → Upto (replica v k).tag (replica (store v c p) k).tag
    rise k =
        ⊎_elim (λ e. subst (λ (x : Pair V). Upto (replica v k).tag x.tag) (sym e) (omega arith, λ _. omega arith))
        (λ h.
        subst (λ (x : Pair V). Upto (replica v k).tag x.tag) (sym h.1)
        (subst (λ (i : ℕ). Upto (replica v i).tag p.tag) (sym h.0) (later.0, λ e. omega (arith, later.1 e))))
        (stored_at k)

    up : (t : Tag) (k : ℕ) → Upto t (replica v k).tag → Upto t (replica (store v c p) k).tag
    up t k h = tag_order.through t (replica v k).tag (replica (store v c p) k).tag h (rise k)

    carries_store : (t : Telegram V) (k : TelegramKind V) → Carries v t k → Carries (store v c p) t k
    carries_store t Query x = tt
    carries_store t (Told u) x = (x.0, up u.tag t.cabinet x.1)
    carries_store t (Set u) x = x
    carries_store t Took x = tt

    took_store : (k : ℕ) (st : Stage V) → TookFits v k st → TookFits (store v c p) k st
    took_store k Querying x = x
    took_store k (Setting u strikes took) x = up u.tag k x
    took_store k (Ended u trips strikes) x = tt
    took_store k Spent x = tt

    kind_store : (t : Telegram V) (k : TelegramKind V) (h : Hand V) → KindFits v t k h → KindFits (store v c p) t k h
    kind_store t Query h x = tt
    kind_store t (Told u) h x = tt
    kind_store t (Set u) h x = x
    kind_store t Took h x = took_store t.cabinet h.stage x

    stage_store : (s : ℕ) (h : Hand V) (st : Stage V) → StageFits v s h st → StageFits (store v c p) s h st
    stage_store s h Querying x = tt
    stage_store s h (Setting u strikes took) x = (x.0, (λ k m. up u.tag k (x.1 k m)), x.2)
    stage_store s h (Ended u trips strikes) x = tt
    stage_store s h Spent x = tt

    pub inv_store : Inv (store v c p) F
    inv_store = record {
      replicas = λ k. ⊎_elim (λ e. subst (Known v) (sym e) (inv.replicas k)) (λ h. subst (Known v) (sym h.1) known) (stored_at k);
      bus = λ t m.
          let x = inv.bus t m in
          record {
            station = x.station;
            work = x.work;
            begun = x.begun;
            carries = carries_store t t.kind x.carries;
            fits = λ h e l. kind_store t t.kind h (x.fits h e l);
          };
      answers = λ s k u h e. let x = inv.answers s k u h e in (x.0, up u.tag k x.1);
      hands = λ s h l e. let x = inv.hands s h l e in (x.0, stage_store s h h.stage x.1);
      told = inv.told;
      lasts = inv.lasts;
      tagged = inv.tagged;
      ended = λ i s j u row.
          let x = inv.ended i s j u row in
          record {
            fits = x.fits;
            guards = λ k m. let g = x.guards k m in record { stored = up u.tag k g.stored; under_way = g.under_way; kept = g.kept };
          };
    }

  -- a station's record changes: its own last count does not fall
  module _ (s : ℕ) (one : 1 ≤ s) (in_line : s ≤ length v.stations) (last : ℕ) (hand : Option (Hand V)) (answers : ℕ → Option (Pair V)) where
    abbrev x : View V
    x = change v s last hand answers

    pub here : station_at x.stations s ≡ record { last = last; hand = hand }
    here = station_here v.stations s one (record { last = last; hand = hand }) in_line

    other : (r : ℕ) → 1 ≤ r → (r ≡ s → ⊥) → station_at x.stations r ≡ station_at v.stations r
    other = station_other v.stations s one (record { last = last; hand = hand })

    pub answers_here : (c : ℕ) → x.answers s c ≡ answers c
    answers_here c = ap (λ (f : ℕ → Option (Pair V)). f c) (put_here v.answers s answers)

    answers_other : (r c : ℕ) → (r ≡ s → ⊥) → x.answers r c ≡ v.answers r c
    answers_other r c ne = ap (λ (f : ℕ → Option (Pair V)). f c) (put_other v.answers s answers r ne)

    -- what is asked of the new job in hand and of what was told it
    pub record Asked : Type 0 where
      pub rises : last_of v s ≤ last
      pub begun : IfSome hand (λ h. Begun v s h.job h.work × StageFits v s h h.stage)
      pub fits : IfSome hand (λ h. (t : Telegram V) → Contains v.bus t → t.station ≡ s → h.job ≡ t.job → KindFits v t t.kind h)
      pub tells : IfSome hand (λ h. (c : ℕ) → Member c h.told → (p : Pair V) × (answers c ≡ Some p))
      pub told : (c : ℕ) (p : Pair V) → answers c ≡ Some p → Known v p × Upto p.tag (replica v c).tag
      pub guarded : IfSome hand (λ h. (i c : ℕ) (p : Pair V) → Guard v i p c → (u : Pair V) → answers c ≡ Some u → i < h.job → Upto p.tag u.tag)

    module _ (asked : Asked) where
      -- of the job that the station has now, and of another station's
      mine : (P : Hand V → Type 0) → IfSome hand P → (r : ℕ) (h : Hand V) → r ≡ s → hand_of x r ≡ Some h → P h
      mine P given r h at e =
          let now : hand ≡ Some h = sym (hand_here v s one in_line last hand answers) ∙ ap (hand_of x) (sym at) ∙ e in
          subst (λ (k : Option (Hand V)). IfSome k P) now given

      hand_other : (r : ℕ) (h : Hand V) → 1 ≤ r → (r ≡ s → ⊥) → hand_of x r ≡ Some h → hand_of v r ≡ Some h
      hand_other r h l ne e = sym (ap (λ (st : Station V). st.hand) (other r l ne)) ∙ e

      answered_here : (r c : ℕ) (p : Pair V) → r ≡ s → x.answers r c ≡ Some p → answers c ≡ Some p
      answered_here r c p at e = sym (answers_here c) ∙ ap (λ (q : ℕ). x.answers q c) (sym at) ∙ e

      last_rises : (r : ℕ) → 1 ≤ r → last_of v r ≤ last_of x r
      last_rises r l =
          ⊎_elim
          (λ e. subst (λ (i : ℕ). last_of v i ≤ last_of x i) (sym e) (omega (arith, asked.rises, ap (λ (st : Station V). st.last) here)))
          (λ ne. omega (arith, ap (λ (st : Station V). st.last) (other r l ne))) (cases_eq r s)

      pub inv_change : Inv x F
      inv_change = record {
        replicas = inv.replicas;
        bus = λ t m.
            let y = inv.bus t m in
            record {
              station = y.station;
              work = y.work;
              begun = y.begun;
              carries = y.carries;
              fits = λ h e l.
                  ⊎_elim
                  (λ at. mine _ asked.fits t.station h at e t m at l)
                  (λ ne. y.fits h (hand_other t.station h y.station ne e) l) (cases_eq t.station s);
            };
        answers = λ r c p l e.
            ⊎_elim
            (λ at. asked.told c p (answered_here r c p at e))
            (λ ne. inv.answers r c p l (sym (answers_other r c ne) ∙ e)) (cases_eq r s);
        hands = λ r h l e.
            ⊎_elim
            (λ at. subst (λ (q : ℕ). Begun v q h.job h.work × StageFits v q h h.stage) (sym at) (mine _ asked.begun r h at e))
            (λ ne. inv.hands r h l (hand_other r h l ne e)) (cases_eq r s);
        told = λ r h l e c m.
            ⊎_elim
            (λ at.
            let y = mine _ asked.tells r h at e c m in
            (y.0, ap (λ (q : ℕ). x.answers q c) at ∙ answers_here c ∙ y.1))
            (λ ne. let y = inv.told r h l (hand_other r h l ne e) c m in (y.0, answers_other r c ne ∙ y.1)) (cases_eq r s);
        lasts = λ k r j p row. omega (arith, inv.lasts k r j p row, last_rises r (inv.tagged k r j p row).station);
        tagged = inv.tagged;
        ended = λ i r j p row.
            let y = inv.ended i r j p row in
            record {
              fits = y.fits;
              guards = λ c m.
                  let g = y.guards c m in
                  record {
                    stored = g.stored;
                    under_way = g.under_way;
                    kept = λ q h u l e a low.
                        ⊎_elim
                        (λ at.
                        mine _ asked.guarded q h at e i c p g u (answered_here q c u at a) low)
                        (λ ne. g.kept q h u l (hand_other q h l ne e) (sym (answers_other q c ne) ∙ a) low) (cases_eq q s);
                  };
            };
      }
