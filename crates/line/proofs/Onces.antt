-- A job is tagged once and ends once, with one pair.
use Rattle.std.proofs.Common.{◌≡◌, ℕ, ◌-◌, ◌≤◌, ◌⊎◌, List, [], ◌∷◌, ◌++◌, length, set, Some, sym, refl, ap, ◌∙◌, subst, inl, inr, ⊎_elim, arith}
use Rattle.std.specs.List.{slice_get}
use Rattle.std.proofs.lemmas.Option.{same_Some, slice_get_within}
use Rattle.telegrams.specs.declared.Pair.{Pair}
use Rattle.line.specs.declared.types.Hand.{Hand}
use Rattle.line.specs.declared.types.Row.{Row}
use Rattle.line.specs.declared.types.RowKind.TheVariants as kind
use Rattle.line.specs.declared.types.Stage.{Stage}
use Rattle.line.specs.declared.types.Stage.TheVariants.{Querying, Setting, Ended, Spent}
use Rattle.line.specs.declared.types.Station.{Station}
use Rattle.line.specs.Runs.{Event, Step}
use Rattle.line.specs.Lines.{IsStation, View, begin_row, ended_row, hand_of, station_at, tagged_row}
use Rattle.line.proofs.Forward.{Carrying, Finished, one_carried}
use Rattle.line.proofs.Invariants.{Inv}
use Rattle.line.proofs.Moves.{nth_cases, nth_kept, nth_last}
use Rattle.line.proofs.Rows.{begin_starts, pair_of}
use Rattle.line.proofs.Shapes.{Like, Noted, Quiet, Same, Shape, begun_row, ended_row_of, freed, given_row_of, hand_cases, kept, like_lasts, noted, quiet, spent_row_of, step_outcome, still, tagged_row_of, took_row_of, trip}

module _ {V : Type 0} where
  -- the row names the pair for the job, as tagged or as ended
  abbrev pub Naming : Row V → ℕ → ℕ → Pair V → Type 0
  Naming row s job p = (row ≡ tagged_row s job p) ⊎ ((a : ℕ) × (b : ℕ) × (row ≡ ended_row s job p a b))

  abbrev pub Names : List (Row V) → ℕ → ℕ → ℕ → Pair V → Type 0
  Names rows k s job p = (row : Row V) × (slice_get rows k ≡ Some row) × Naming row s job p

  abbrev OnePair : List (Row V) → Type 0
  OnePair rows = (k i s job : ℕ) (p u : Pair V) → Names rows k s job p → Names rows i s job u → p ≡ u

  naming_tells : (row : Row V) (s job : ℕ) (p : Pair V) → Naming row s job p → (row.station ≡ s) × (row.job ≡ job) × (pair_of row ≡ p)
  naming_tells row s job p (inl e) = (ap (λ (r : Row V). r.station) e, ap (λ (r : Row V). r.job) e, ap (λ (r : Row V). pair_of r) e)
  naming_tells row s job p (inr (a, b, e)) = (ap (λ (r : Row V). r.station) e, ap (λ (r : Row V). r.job) e, ap (λ (r : Row V). pair_of r) e)

  -- a row that is neither
  no_names : (row q : Row V) → row ≡ q → (q.kind ≡ kind.Tagged → ⊥) → (q.kind ≡ kind.Ended → ⊥) → (s job : ℕ) (u : Pair V) → Naming row s job u → ⊥
  no_names row q is no-tagged no_ended s job u (inl n) = no-tagged (ap (λ (r : Row V). r.kind) (sym is ∙ n))
  no_names row q is no-tagged no_ended s job u (inr (a, b, n)) = no_ended (ap (λ (r : Row V). r.kind) (sym is ∙ n))

  -- the rows that there are of a job at the stage
  pub record Phase (rows : List (Row V)) (s job : ℕ) (stage : Stage V) : Type 0 where
    pub tagged : (k : ℕ) (u : Pair V) → slice_get rows k ≡ Some (tagged_row s job u) → Carrying u stage
    pub ended : (k a b : ℕ) (u : Pair V) → slice_get rows k ≡ Some (ended_row s job u a b) → Carrying u stage × Finished stage
    pub end : (u : Pair V) → Carrying u stage → Finished stage → (k : ℕ) × (a : ℕ) × (b : ℕ) × (slice_get rows k ≡ Some (ended_row s job u a b))

  pub record Once (v : View V) : Type 0 where
    pub phase : (s : ℕ) (h : Hand V) → 1 ≤ s → hand_of v s ≡ Some h → Phase v.journal s h.job h.stage
    pub one_pair : OnePair v.journal

  phase_like : (rows : List (Row V)) (s job : ℕ) (a b : Stage V) → Like a b → Phase rows s job a → Phase rows s job b
  phase_like rows s job =
      like_lasts (Phase rows s job) (λ p strikes took counted f. record { tagged = f.tagged; ended = f.ended; end = f.end })

  -- of a job that is querying there are no rows yet
  from_querying : (rows : List (Row V)) (s job : ℕ) (a b : Stage V) → a ≡ Querying → ((u : Pair V) → Carrying u b → Finished b → ⊥) → Phase rows s job a
      → Phase rows s job b
  from_querying rows s job a b stage open_still f =
      let none : (u : Pair V) → Carrying u a → ⊥ = λ u c. subst (Carrying u) stage c in
      record {
        tagged = λ k u e. absurd (none u (f.tagged k u e));
        ended = λ k i j u e. absurd (none u (f.ended k i j u e).0);
        end = λ u c done. absurd (open_still u c done);
      }

  -- one row more
  module _ (rows : List (Row V)) (row : Row V) where
    abbrev longer : List (Row V)
    longer = rows ++ (row ∷ [])

    -- all rows of a job that the new row names name the same pair
    abbrev RowFits : Type 0
    RowFits = (s job : ℕ) (u : Pair V) → Naming row s job u → (k : ℕ) (p : Pair V) → Names rows k s job p → p ≡ u

    one_pair_more : RowFits → OnePair rows → OnePair longer
    one_pair_more fits one k i s job p u (a, at, names) (b, at2, names2) =
        let newest : (r : Row V) (x : Pair V) → row ≡ r → Naming r s job x → Naming row s job x =
        λ r x same. subst (λ (z : Row V). Naming z s job x) (sym same) in
        ⊎_elim
        (λ old.
        ⊎_elim (λ old2. one k i s job p u (a, old, names) (b, old2, names2)) (λ new2. fits s job u (newest b u new2.1 names2) k p (a, old, names))
        (nth_cases rows row i b at2))
        (λ new.
        let now = newest a p new.1 names in
        ⊎_elim (λ old2. sym (fits s job p now i u (b, old2, names2)))
        (λ new2. sym (naming_tells row s job p now).2 ∙ (naming_tells row s job u (newest b u new2.1 names2)).2)
        (nth_cases rows row i b at2))
        (nth_cases rows row k a at)

    -- a job's rows, where the new row is none of them
    phase_more : (s job : ℕ) (stage : Stage V) → ((u : Pair V) → Naming row s job u → ⊥) → Phase rows s job stage → Phase longer s job stage
    phase_more s job stage other f = record {
      tagged = λ k u e. ⊎_elim (f.tagged k u) (λ n. absurd (other u (inl n.1))) (nth_cases rows row k _ e);
      ended = λ k a b u e. ⊎_elim (f.ended k a b u) (λ n. absurd (other u (inr (a, b, n.1)))) (nth_cases rows row k _ e);
      end = λ u c done. let x = f.end u c done in (x.0, x.1, x.2, nth_kept rows row x.0 _ x.3);
    }

    -- and where it is one, of the pair p
    phase_next : (s job : ℕ) (a b : Stage V) (p : Pair V) → Naming row s job p → ((u : Pair V) → Carrying u a → u ≡ p) → (Finished a → ⊥)
        → Carrying p b → (Finished b → (i : ℕ) × (j : ℕ) × (row ≡ ended_row s job p i j))
        → (row.kind ≡ kind.Ended → Finished b) → Phase rows s job a → Phase longer s job b
    phase_next s job a b p names only unfinished carries if_finished if_ended f =
        let same : (u : Pair V) → Naming row s job u → u ≡ p = λ u n. sym (naming_tells row s job u n).2 ∙ (naming_tells row s job p names).2 in
        let carried : (u : Pair V) → u ≡ p → Carrying u b = λ u e. subst (λ (z : Pair V). Carrying z b) (sym e) carries in
        let own : (u : Pair V) → Carrying u b → u ≡ p = λ u c. one_carried b u p c carries in
        record {
          tagged = λ k u e. ⊎_elim (λ o. carried u (only u (f.tagged k u o))) (λ n. carried u (same u (inl n.1))) (nth_cases rows row k _ e);
          ended = λ k i j u e.
              ⊎_elim (λ o. absurd (unfinished (f.ended k i j u o).1))
              (λ n. (carried u (same u (inr (i, j, n.1))), if_ended (ap (λ (r : Row V). r.kind) n.1))) (nth_cases rows row k _ e);
          end = λ u c done.
              let x = if_finished done in
              (length rows, x.0, x.1, nth_last rows row ∙ ap Some x.2 ∙ ap (λ (z : Pair V). Some (ended_row s job z x.0 x.1)) (sym (own u c)));
        }

  module _ (F : ℕ → Type 0) (v : View V) (inv : Inv v F) (once : Once v) where
    -- the journal as it was
    once_as : (w : View V) → w.journal ≡ v.journal → ((s : ℕ) (h : Hand V) → 1 ≤ s → hand_of w s ≡ Some h → Phase v.journal s h.job h.stage) → Once w
    once_as w journal phases = record {
      phase = λ s h l e. subst (λ (rows : List (Row V)). Phase rows s h.job h.stage) (sym journal) (phases s h l e);
      one_pair = subst OnePair (sym journal) once.one_pair;
    }

    module _ (e : Event V) (w : View V) (s : ℕ) (line : IsStation v s) (st : Station V) (stations : w.stations ≡ set v.stations (s - 1) st) where
      -- what holds of the station's hand and of all others'
      hands : (P : ℕ → Hand V → Type 0) → ((h : Hand V) → st.hand ≡ Some h → P s h)
          → ((r : ℕ) (h : Hand V) → (r ≡ s → ⊥) → 1 ≤ r → hand_of v r ≡ Some h → P r h)
          → (r : ℕ) (h : Hand V) → 1 ≤ r → hand_of w r ≡ Some h → P r h
      hands P mine others r h l f =
          ⊎_elim (λ x. subst (λ (z : ℕ). P z h) (sym x.0) (mine h x.1)) (λ x. others r h x.0 l x.1) (hand_cases v w s line st stations r h l f)

      now : (rows : List (Row V)) (k : Hand V) (job : ℕ) → k.job ≡ job → st.hand ≡ Some k → (stage : Stage V) → k.stage ≡ stage → Phase rows s job stage
          → (g : Hand V) → st.hand ≡ Some g → Phase rows s g.job g.stage
      now rows k job at is stage next f g held =
          subst (λ (x : Hand V). Phase rows s x.job x.stage) (same_Some k g (sym is ∙ held))
          (subst (Phase rows s k.job) (sym next) (subst (λ (j : ℕ). Phase rows s j stage) (sym at) f))

      was : (h k : Hand V) → Same v s h k → Phase v.journal s h.job h.stage
      was h k same = once.phase s h line.0 same.held

      quiet_phase : Quiet v s st.hand → (g : Hand V) → st.hand ≡ Some g → Phase v.journal s g.job g.stage
      quiet_phase (freed h held got over is) g f = cc
      quiet_phase (kept h k same is like) g f =
          now v.journal k h.job same.job is k.stage refl (phase_like v.journal s h.job h.stage k.stage like (was h k same)) g f
      quiet_phase (trip h k same is work stage p strikes next) g f =
          let next_stage = Setting p strikes 0 in
          now v.journal k h.job same.job is next_stage next (from_querying v.journal s h.job h.stage next_stage stage (λ u c done. done) (was h k same)) g f

      -- one more row
      add : (row : Row V) → w.journal ≡ v.journal ++ (row ∷ []) → RowFits v.journal row → ((r job : ℕ) (u : Pair V) → Naming row r job u → r ≡ s)
          → ((g : Hand V) → st.hand ≡ Some g → Phase (v.journal ++ (row ∷ [])) s g.job g.stage) → Once w
      add row journal fits ours mine = record {
        phase = λ r h l f.
            subst (λ (rows : List (Row V)). Phase rows r h.job h.stage) (sym journal)
            (hands (λ q g. Phase (v.journal ++ (row ∷ [])) q g.job g.stage) mine
            (λ q g ne l2 f2. phase_more v.journal row q g.job g.stage (λ u n. ne (ours q g.job u n)) (once.phase q g l2 f2)) r h l f);
        one_pair = subst OnePair (sym journal) (one_pair_more v.journal row fits once.one_pair);
      }

      add_other : (row : Row V) → w.journal ≡ v.journal ++ (row ∷ []) → ((r job : ℕ) (u : Pair V) → Naming row r job u → ⊥)
          → ((g : Hand V) → st.hand ≡ Some g → Phase (v.journal ++ (row ∷ [])) s g.job g.stage) → Once w
      add_other row journal none = add row journal (λ r job u n. absurd (none r job u n)) (λ r job u n. absurd (none r job u n))

      -- the row of the station's job, which names the pair p
      module _ (row : Row V) (journal : w.journal ≡ v.journal ++ (row ∷ [])) (h k : Hand V) (same : Same v s h k) (is : st.hand ≡ Some k) (p : Pair V)
          (names : Naming row s h.job p)
          (only : (u : Pair V) → Carrying u h.stage → u ≡ p) (unfinished : Finished h.stage → ⊥) where
        add_own : (b : Stage V) → k.stage ≡ b → Carrying p b → (Finished b → (i : ℕ) × (j : ℕ) × (row ≡ ended_row s h.job p i j))
            → (row.kind ≡ kind.Ended → Finished b) → Once w
        add_own b next carries if_finished if_ended =
            let f = was h k same in
            let tells = naming_tells row s h.job p names in
            let old : (i : ℕ) (u : Pair V) → Names v.journal i s h.job u → u ≡ p =
            λ i u n. ⊎_elim (λ t. only u (f.tagged i u (n.1 ∙ ap Some t))) (λ x. absurd (unfinished (f.ended i x.0 x.1 u (n.1 ∙ ap Some x.2)).1)) n.2 in
            add row journal
            (λ r job u n i x y.
            let told = naming_tells row r job u n in
            let here : Names v.journal i s job x = subst (λ (z : ℕ). Names v.journal i z job x) (sym told.0 ∙ tells.0) y in
            old i x (subst (λ (z : ℕ). Names v.journal i s z x) (sym told.1 ∙ tells.1) here) ∙ sym tells.2 ∙ told.2)
            (λ r job u n. sym (naming_tells row r job u n).0 ∙ tells.0)
            (now (v.journal ++ (row ∷ [])) k h.job same.job is b next
            (phase_next v.journal row s h.job h.stage b p names only unfinished carries if_finished if_ended f))

      noted_once : (row : Row V) → w.journal ≡ v.journal ++ (row ∷ []) → Noted v e s st.hand row → Once w
      noted_once row journal (begun_row work k empty free event is job works stage rows) =
          let j = length v.journal in
          let none = no_names row (begin_row v s j work) rows (λ n. cc (begin_starts v s j work)) (λ n. cc (begin_starts v s j work)) in
          let fresh : Phase v.journal s j Querying = record {
            tagged = λ i u t. absurd (omega (arith, slice_get_within v.journal j _ (inv.tagged i s j u t).begun));
            ended = λ i a b u t. absurd (omega (arith, slice_get_within v.journal j _ (inv.ended i s j u (a, b, t)).fits.begun));
            end = λ u c done. absurd c;
          } in
          add_other row journal none (now (v.journal ++ (row ∷ [])) k j job is Querying stage (phase_more v.journal row s j Querying (none s j) fresh))
      noted_once row journal (tagged_row_of h k same is x work stage p next trips rows) =
          add_own row journal h k same is p (inl rows) (λ u c. absurd (subst (Carrying u) stage c)) (λ done. subst Finished stage done)
          (Setting p 0 0) next refl
          (λ done. absurd done) (λ n. cc (ap (λ (r : Row V). r.kind) rows))
      noted_once row journal (ended_row_of h k same is work stage p strikes next rows) =
          add_own row journal h k same is p (inr (1, strikes, rows)) (λ u c. absurd (subst (Carrying u) stage c)) (λ done. subst Finished stage done)
          (Ended p 1 strikes) next refl
          (λ done. (1, strikes, rows)) (λ n. tt)
      noted_once row journal (took_row_of h k same is p strikes took stage next rows) =
          add_own row journal h k same is p (inr (2, strikes, rows)) (λ u c. subst (Carrying u) stage c) (λ done. subst Finished stage done)
          (Ended p 2 strikes) next refl
          (λ done. (2, strikes, rows)) (λ n. tt)
      noted_once row journal (spent_row_of h k same is x work stage next rows) =
          let none = no_names row _ rows (λ n. cc) (λ n. cc) in
          add_other row journal none
          (now (v.journal ++ (row ∷ [])) k h.job same.job is Spent next
          (phase_more v.journal row s h.job Spent (none s h.job) (from_querying v.journal s h.job h.stage Spent stage (λ u c done. c) (was h k same))))
      noted_once row journal (given_row_of h held unfinished is rows) = add_other row journal (no_names row _ rows (λ n. cc) (λ n. cc)) (λ g f. cc)

    shape_once : (e : Event V) (w : View V) → Shape v e w → Once w
    shape_once e w (still stations journal) =
        once_as w journal (λ s h l f. once.phase s h l (sym (ap (λ (xs : List (Station V)). (station_at xs s).hand) stations) ∙ f))
    shape_once e w (quiet s st line stations journal q) =
        once_as w journal
        (hands e w s line st stations (λ r h. Phase v.journal r h.job h.stage) (quiet_phase e w s line st stations q) (λ r h ne l f. once.phase r h l f))
    shape_once e w (noted s st row line stations journal q) = noted_once e w s line st stations row journal q

    pub step_once : (e : Event V) (w : View V) → Step F v e w → Once w
    step_once e w step = shape_once e w (step_outcome v F e w step).shape
