-- A job in hand only moves forward: querying, then setting one pair, then ended with that pair.
use Rattle.std.proofs.Common.{◌≡◌, ℕ, ◌-◌, ◌≤◌, ◌⊎◌, List, length, set, Some, Option, sym, refl, ap, ◌∙◌, subst, inl, inr, ⊎_elim, arith}
use Rattle.std.specs.List.{slice_get}
use Rattle.std.proofs.lemmas.Option.{same_Some, slice_get_within}
use Rattle.telegrams.specs.declared.Pair.{Pair}
use Rattle.line.specs.declared.types.Hand.{Hand}
use Rattle.line.specs.declared.types.Row.{Row}
use Rattle.line.specs.declared.types.Stage.{Stage}
use Rattle.line.specs.declared.types.Stage.TheVariants.{Querying, Setting, Ended, Spent}
use Rattle.line.specs.declared.types.Station.{Station}
use Rattle.line.specs.Lines.{IsStation, View, hand_of, station_at}
use Rattle.line.specs.Runs.{Event, Step}
use Rattle.line.proofs.Shapes.{Like, Noted, Quiet, Same, Shape, begun_row, ended_row_of, freed, given_row_of, hand_cases, kept, like_same, noted, quiet, spent_row_of, step_outcome, still, tagged_row_of, took_row_of, trip}

module _ {V : Type 0} where
  -- setting the pair, or ended with it
  abbrev pub Carrying : Pair V → Stage V → Type 0
  Carrying p Querying = ⊥
  Carrying p (Setting u strikes took) = p ≡ u
  Carrying p (Ended u trips strikes) = p ≡ u
  Carrying p Spent = ⊥

  abbrev pub Finished : Stage V → Type 0
  Finished Querying = ⊥
  Finished (Setting p strikes took) = ⊥
  Finished (Ended p trips strikes) = Unit {0}
  Finished Spent = Unit {0}

  -- from one stage to the same or a later one
  abbrev Forward : Stage V → Stage V → Type 0
  Forward Querying next = Unit {0}
  Forward (Setting p strikes took) next = Carrying p next
  Forward (Ended p trips strikes) next = Finished next × Carrying p next
  Forward Spent next = Spent ≡ next

  -- what holds of a stage and of all later ones
  abbrev pub Lasting : (Stage V → Type 0) → Type 0
  Lasting P = (a b : Stage V) → P a → Forward a b → P b

  carrying_on : (p u : Pair V) → p ≡ u → (b : Stage V) → Carrying u b → Carrying p b
  carrying_on p u e b c = subst (λ (x : Pair V). Carrying x b) (sym e) c

  pub one_carried : (st : Stage V) (p u : Pair V) → Carrying p st → Carrying u st → p ≡ u
  one_carried Querying p u c d = absurd c
  one_carried (Setting x strikes took) p u c d = c ∙ sym d
  one_carried (Ended x trips strikes) p u c d = c ∙ sym d
  one_carried Spent p u c d = absurd c

  pub carrying_lasts : (p : Pair V) → Lasting (Carrying p)
  carrying_lasts p Querying b c f = absurd c
  carrying_lasts p (Setting u strikes took) b c f = carrying_on p u c b f
  carrying_lasts p (Ended u trips strikes) b c f = carrying_on p u c b f.1
  carrying_lasts p Spent b c f = absurd c

  pub finished_lasts : Lasting Finished
  finished_lasts Querying b c f = absurd c
  finished_lasts (Setting u strikes took) b c f = absurd c
  finished_lasts (Ended u trips strikes) b c f = f.0
  finished_lasts Spent b c f = subst Finished f tt

  -- a job in hand is a new one, or was in hand and has moved forward
  abbrev Came : View V → ℕ → Hand V → Type 0
  Came v s k = (k.job ≡ length v.journal) ⊎ ((h : Hand V) × (hand_of v s ≡ Some h) × (h.job ≡ k.job) × Forward h.stage k.stage)

  abbrev AllCame : View V → View V → Type 0
  AllCame v w = (s : ℕ) (k : Hand V) → 1 ≤ s → hand_of w s ≡ Some k → Came v s k

  forward_like : (a b : Stage V) → Like a b → Forward a b
  forward_like Querying b e = tt
  forward_like (Setting p strikes took) b e = subst (Carrying p) (sym e.1) refl
  forward_like (Ended p trips strikes) b e = (subst Finished (sym e) tt, subst (Carrying p) (sym e) refl)
  forward_like Spent b e = sym e

  module _ (v : View V) where
    -- the same job, moved forward
    onward : (s : ℕ) (h k : Hand V) → Same v s h k → Forward h.stage k.stage → Came v s k
    onward s h k same forward = inr (h, same.held, sym same.job, forward)

    from_querying : (a b : Stage V) → a ≡ Querying → Forward a b
    from_querying a b e = subst (λ (z : Stage V). Forward z b) (sym e) tt

    became : (s : ℕ) (hand : Option (Hand V)) (k g : Hand V) → hand ≡ Some g → hand ≡ Some k → Came v s g → Came v s k
    became s hand k g e f came = subst (Came v s) (same_Some g k (sym e ∙ f)) came

    quiet_came : (s : ℕ) (hand : Option (Hand V)) → Quiet v s hand → (k : Hand V) → hand ≡ Some k → Came v s k
    quiet_came s hand (freed h held got over is) k e = cc
    quiet_came s hand (kept h g same is like) k e = became s hand k g is e (onward s h g same (forward_like h.stage g.stage like))
    quiet_came s hand (trip h g same is work stage p strikes next) k e = became s hand k g is e (onward s h g same (from_querying h.stage g.stage stage))

    noted_came : (e : Event V) (s : ℕ) (hand : Option (Hand V)) (row : Row V) → Noted v e s hand row → (k : Hand V) → hand ≡ Some k → Came v s k
    noted_came e s hand row (begun_row work g none free event is job works stage rows) k f = became s hand k g is f (inl job)
    noted_came e s hand row (tagged_row_of h g same is x work stage p next trips rows) k f =
        became s hand k g is f (onward s h g same (from_querying h.stage g.stage stage))
    noted_came e s hand row (ended_row_of h g same is work stage p strikes next rows) k f =
        became s hand k g is f (onward s h g same (from_querying h.stage g.stage stage))
    noted_came e s hand row (took_row_of h g same is p strikes took stage next rows) k f =
        became s hand k g is f (onward s h g same (subst (λ (z : Stage V). Forward z g.stage) (sym stage) (subst (Carrying p) (sym next) refl)))
    noted_came e s hand row (spent_row_of h g same is x work stage next rows) k f =
        became s hand k g is f (onward s h g same (from_querying h.stage g.stage stage))
    noted_came e s hand row (given_row_of h held unfinished is rows) k f = cc

    -- one station's record changes
    one_hand : (s : ℕ) → IsStation v s → (st : Station V) → ((k : Hand V) → st.hand ≡ Some k → Came v s k) → (w : View V)
        → w.stations ≡ set v.stations (s - 1) st → AllCame v w
    one_hand s line st mine w is r k one e =
        ⊎_elim (λ x. subst (λ (z : ℕ). Came v z k) (sym x.0) (mine k x.1))
        (λ old. inr (k, old.1, refl, forward_like k.stage k.stage (like_same k.stage)))
        (hand_cases v w s line st is r k one e)

    shape_came : (e : Event V) (w : View V) → Shape v e w → AllCame v w
    shape_came e w (still stations journal) s k one f =
        inr (k, sym (ap (λ (xs : List (Station V)). (station_at xs s).hand) stations) ∙ f, refl, forward_like k.stage k.stage (like_same k.stage))
    shape_came e w (quiet s st line stations journal q) r k one f = one_hand s line st (quiet_came s st.hand q) w stations r k one f
    shape_came e w (noted s st row line stations journal q) r k one f = one_hand s line st (noted_came e s st.hand row q) w stations r k one f

  -- a begun job of the station, if it is in hand, is at such a stage
  pub record Since (P : Stage V → Type 0) (v : View V) (s job : ℕ) : Type 0 where
    pub row : Row V
    pub begun : slice_get v.journal job ≡ Some row
    pub stage : (k : Hand V) → hand_of v s ≡ Some k → k.job ≡ job → P k.stage

  pub step_since : (P : Stage V → Type 0) → Lasting P → (F : ℕ → Type 0) (v : View V) (e : Event V) (w : View V) → Step F v e w
      → ((i : ℕ) (row : Row V) → slice_get v.journal i ≡ Some row → slice_get w.journal i ≡ Some row) → (s job : ℕ) → 1 ≤ s → Since P v s job → Since P w s job
  step_since P lasts F v e w step grows s job one since = record {
    row = since.row;
    begun = grows job since.row since.begun;
    stage = λ k held is.
        ⊎_elim (λ new. absurd (omega (arith, slice_get_within v.journal job _ since.begun)))
        (λ old. lasts old.0.stage k.stage (since.stage old.0 old.1 (old.2 ∙ is)) old.3)
        (shape_came v e w (step_outcome v F e w step).shape s k one held);
  }
