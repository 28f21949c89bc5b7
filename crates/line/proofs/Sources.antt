-- Where begin rows and tagged rows come from.
use Rattle.std.proofs.Common.{false, ◌≡◌, ℕ, ◌-◌, ◌⊎◌, List, length, set, Some, Ok, sym, refl, ap, ◌∙◌, subst, inl, inr, ⊎_elim}
use Rattle.std.specs.List.{slice_get}
use Rattle.telegrams.specs.declared.Pair.{Pair}
use Rattle.line.specs.declared.types.Row.{Row}
use Rattle.line.specs.declared.types.RowKind.TheVariants as kind
use Rattle.line.specs.declared.types.Stage.TheVariants.{Setting}
use Rattle.line.specs.declared.types.Station.{Station}
use Rattle.line.specs.declared.types.Work.{Work}
use Rattle.line.specs.Lines.{IsStation, View, begin_row, ended_row, given_row, hand_of, spent_row, tagged_row}
use Rattle.line.specs.Runs.{BeginsAt, Event, Moment, Step, TripsAt, began}
use Rattle.line.proofs.Rows.{begin_same, not_begun, pair_of, starts}
use Rattle.line.proofs.Moves.{nth_cases}
use Rattle.line.proofs.Shapes.{Noted, Shape, begun_row, ended_row_of, given_row_of, hand_mine, noted, quiet, spent_row_of, step_outcome, still, tagged_row_of, took_row_of}

module _ {V : Type 0} where
  -- a row comes from this call: a tagged one from a second trip, a begin row from a begin
  abbrev pub Source : Moment V → Row V → Type 0
  Source x row =
      ((s job : ℕ) (p : Pair V) → row ≡ tagged_row s job p → TripsAt x s job p)
      × ((s job : ℕ) (work : Work V) → row ≡ begin_row x.before s job work → BeginsAt x s job work)

  -- each row after a call was there before it, or comes from it
  abbrev pub Sources : Moment V → Type 0
  Sources x = (k : ℕ) (row : Row V) → slice_get x.after.journal k ≡ Some row → (slice_get x.before.journal k ≡ Some row) ⊎ Source x row

  module _ (v : View V) (e : Event V) (w : View V) where
    abbrev x : Moment V
    x = record { before = v; event = e; after = w }

    -- a row that is neither
    other_source : (row q : Row V) → row ≡ q → (q.kind ≡ kind.Tagged → ⊥) → starts q.kind ≡ false → Source x row
    other_source row q is no-tagged no_start = (
      (λ r j p n. absurd (no-tagged (ap (λ (z : Row V). z.kind) (sym is ∙ n)))),
      (λ r j work n. not_begun v r j work q (sym n ∙ is) no_start),
    )

    ended_source : (s job : ℕ) (p : Pair V) (a b : ℕ) → Source x (ended_row s job p a b)
    ended_source s job p a b = other_source (ended_row s job p a b) _ refl (λ e. cc) refl

    spent_source : (s job : ℕ) → Source x (spent_row v s job)
    spent_source s job = other_source (spent_row v s job) _ refl (λ e. cc) refl

    given_source : (s job : ℕ) → Source x (given_row v s job)
    given_source s job = other_source (given_row v s job) _ refl (λ e. cc) refl

    begin_source : (s : ℕ) (work : Work V) → e ≡ began s work (Ok (s, length v.journal)) → Source x (begin_row v s (length v.journal) work)
    begin_source s work event = (
      (λ r j u n. not_begun v s (length v.journal) work _ n refl),
      (λ q j other n.
          let same = begin_same v s q (length v.journal) j work other n in
          event ∙ (λ i. began (same.0 i) (same.2 i) (Ok (same.0 i, same.1 i)))),
    )

    noted_source : (s : ℕ) (st : Station V) (row : Row V) → IsStation v s → w.stations ≡ set v.stations (s - 1) st → Noted v e s st.hand row → Source x row
    noted_source s st row line stations (begun_row work k none free event is job works stage rows) = subst (Source x) (sym rows) (begin_source s work event)
    noted_source s st row line stations (ended_row_of h k same is work stage p strikes next rows) = subst (Source x) (sym rows) (ended_source s h.job p 1 strikes)
    noted_source s st row line stations (took_row_of h k same is p strikes took stage next rows) = subst (Source x) (sym rows) (ended_source s h.job p 2 strikes)
    noted_source s st row line stations (spent_row_of h k same is y work stage next rows) = subst (Source x) (sym rows) (spent_source s h.job)
    noted_source s st row line stations (given_row_of h held unfinished is rows) = subst (Source x) (sym rows) (given_source s h.job)
    noted_source s st row line stations (tagged_row_of h k same is y work stage p next (place, t, event, on, at_s, of-job) rows) = (
      (λ r j o n.
          let same_row = sym rows ∙ n in
          let station : s ≡ r = ap (λ (z : Row V). z.station) same_row in
          let pair : p ≡ o = ap (λ (z : Row V). pair_of z) same_row in (
            (place, t, event, on, at_s ∙ station, of-job ∙ ap (λ (z : Row V). z.job) same_row),
            (k, 0, 0, ap (hand_of w) (sym station) ∙ hand_mine v w s line st stations ∙ is, next ∙ ap (λ (q : Pair V). Setting q 0 0) pair),
          )),
      (λ r j other n. not_begun v r j other _ (sym n ∙ rows) refl),
    )

    shape_rows : Shape v e w → Sources x
    shape_rows (still stations journal) k row f = inl (sym (ap (λ (xs : List (Row V)). slice_get xs k) journal) ∙ f)
    shape_rows (quiet s st line stations journal q) k row f = inl (sym (ap (λ (xs : List (Row V)). slice_get xs k) journal) ∙ f)
    shape_rows (noted s st new line stations journal q) k row f =
        ⊎_elim inl (λ is. inr (subst (Source x) is.1 (noted_source s st new line stations q)))
        (nth_cases v.journal new k row (sym (ap (λ (xs : List (Row V)). slice_get xs k) journal) ∙ f))

  pub step_rows : (F : ℕ → Type 0) (v : View V) (e : Event V) (w : View V) → Step F v e w → Sources (record { before = v; event = e; after = w })
  step_rows F v e w step = shape_rows v e w (step_outcome v F e w step).shape
