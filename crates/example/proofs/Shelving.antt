-- A ticket that begin or claim has just handed out is good: the line takes it back.
use Rattle.std.proofs.Common.{◌≡◌, ℕ, ◌-◌, ◌≤◌, List, length, set, false, Some, Ok, Err, Result, sym, refl, ap, ◌∙◌, subst, inl, inr, ⊎_elim}
use Rattle.words.specs.declared.refusal.Refusal.{Refusal}
use Rattle.line.specs.declared.types.Hand.{Hand}
use Rattle.line.specs.declared.types.Memory.{Memory}
use Rattle.line.specs.declared.types.Stage.TheVariants.{Querying}
use Rattle.line.specs.declared.types.Station.{Station}
use Rattle.line.specs.declared.types.Work.{Work}
use Rattle.line.specs.Lines.{IsStation, View, hand_of, hold, last_of}
use Rattle.line.specs.Seen.{seen}
use Rattle.line.specs.Memories.{Called, Lends, Sound}
use Rattle.line.specs.Runs.{Event, Step, began, claimed, collected, shelved}
use Rattle.line.specs.Steps.{InHand, begun, with_shelf}
use Rattle.line.proofs.Moves.{station_still}
use Rattle.line.proofs.Shapes.{hand_mine}
use Rattle.line.proofs.Sounds.{stays_sound}

-- an acceptance is no refusal
taken : {R A : Type 0} (x : R) (e : Refusal) → ◌≡◌ {A = Result R Refusal} (Ok x) (Err e) → A
taken x e is = cc

-- the two numbers of an answer
abbrev station_in : Result (ℕ × ℕ) Refusal → ℕ
station_in (Ok p) = p.0
station_in (Err e) = 0

abbrev job_in : Result (ℕ × ℕ) Refusal → ℕ
job_in (Ok p) = p.1
job_in (Err e) = 0

-- the memory is sound, and the ticket's job in hand
abbrev pub Good : {V : Type 0} → ℕ → Memory V → ℕ → ℕ → Type 0
Good {V} n m s job = Sound n m × ((h : Hand V) × InHand (seen m) s job h)

module _ {V : Type 0} (n : ℕ) (F : ℕ → Type 0) (m after : Memory V) where
  -- a call that answers a ticket has put the job into the station's hand
  handed : (e : Event V) (s t job : ℕ) (h : Hand V) (v : View V) → Sound n m → Step F (seen m) e (seen after) → Lends m after → IsStation (seen m) s
      → seen after ≡ v → v.stations ≡ set (seen m).stations (s - 1) (record { last = last_of (seen m) s; hand = Some h }) → t ≡ s → h.job ≡ job → h.shelved ≡ false → Good n after t job
  handed e s t job h v sound step lends line is stations own mine free =
      let st : Station V = record { last = last_of (seen m) s; hand = Some h } in
      let now : (seen after).stations ≡ set (seen m).stations (s - 1) st = ap (λ (w : View V). w.stations) is ∙ stations in
      let in_line : (1 ≤ s) × (s ≤ length (seen after).stations) = subst (λ (xs : List (Station V)). (1 ≤ s) × (s ≤ length xs)) (sym now) (line.0, station_still (seen m).stations s line.0 st line.1) in
      let held : hand_of (seen after) s ≡ Some h = hand_mine (seen m) (seen after) s line st now in
      (stays_sound n F e m after sound step lends, (h, subst (λ (k : ℕ). InHand (seen after) k job h) (sym own) (in_line, held, mine, free)))

  pub begun_good : (s t job : ℕ) (work : Work V) → Called n F (began s work (Ok (t, job))) m after → Good n after t job
  begun_good s t job work (inl (bad, (x, is, one), same)) = cc is
  begun_good s t job work (inr (sound, step, lends, keeps)) =
      let hand : Hand V = record { job = length (seen m).journal; work = work; told = 0; stage = Querying; shelved = false } in
      ⊎_elim (λ a. taken _ _ a.1.1)
      (⊎_elim (λ a. taken _ _ a.1.1.1)
      (⊎_elim (λ a. taken _ _ a.2.1.1)
      (⊎_elim (λ a. taken _ _ a.3.1.1)
      (λ a. handed (began s work (Ok (t, job))) s t job hand (begun (seen m) s work) sound step lends a.0 a.5 refl (ap station_in a.4) (sym (ap job_in a.4)) refl))))
      step

  pub claimed_good : (s t job : ℕ) → Called n F (claimed s (Ok (t, job))) m after → Good n after t job
  claimed_good s t job (inl (bad, (x, is, one), same)) = cc is
  claimed_good s t job (inr (sound, step, lends, keeps)) =
      ⊎_elim (λ a. taken _ _ a.1.1)
      (⊎_elim (λ a. taken _ _ a.1.1.1)
      (λ a.
      let h = a.1.0 in
      handed (claimed s (Ok (t, job))) s t job (with_shelf h false) (hold (seen m) s (with_shelf h false)) sound step lends a.0 a.1.3 refl (ap station_in a.1.2) (sym (ap job_in a.1.2)) refl))
      step

  -- a collect that is refused leaves the memory
  pub left : (s job : ℕ) (e : Refusal) → Called n F (collected s job (Err e)) m after → after ≡ m
  left s job e (inl (bad, why, same)) = same
  left s job e (inr (sound, step, lends, keeps)) = keeps e refl

  -- a good ticket is not refused
  pub shelves : {A : Type 0} (s job : ℕ) (e : Refusal) → Good n m s job → Called n F (shelved s job (Err e)) m after → A
  shelves s job e good (inl (bad, why, same)) = absurd (bad good.0)
  shelves s job e good (inr (sound, step, lends, keeps)) = ⊎_elim (λ strange. absurd (strange.0 good.1.0 good.1.1)) (λ x. taken tt e (sym x.2)) step
