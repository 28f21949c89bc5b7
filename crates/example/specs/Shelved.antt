-- What a caller gets that leaves its tickets with the line.
use Rattle.std.specs.Prelude.{◌≡◌, ℕ, ◌⊎◌, Ok, Err, Result}
use Rattle.words.specs.declared.refusal.Refusal.{Refusal}
use Rattle.line.specs.declared.types.Collected.{Collected}
use Rattle.line.specs.declared.types.Memory.{Memory}
use Rattle.line.specs.declared.types.Work.{Work}
use Rattle.line.specs.Memories.{Called}
use Rattle.line.specs.Runs.{began, claimed, collected, shelved}
use Rattle.calls.specs.declared.ticket.Ticket.{Ticket}

module _ {V : Type 0} (n : ℕ) (F : ℕ → Type 0) (s : ℕ) (m : Memory V) where
  -- a job begins, and its ticket is shelved; or its begin is refused
  abbrev pub Starts : Work V → Result ℕ Refusal → Memory V → Type 0
  Starts work (Ok job) after =
      (t : Ticket) × (between : Memory V) × (t.job ≡ job) × Called n F (began s work (Ok (t.station, t.job))) m between
      × Called n F (shelved t.station t.job (Ok tt)) between after
  Starts work (Err e) after = Called n F (began s work (Err e)) m after

  -- the ticket is claimed, and its job collected; or the claim is refused; or the collect is, and the ticket is shelved again
  abbrev pub Finishes : Result (Collected V) Refusal → Memory V → Type 0
  Finishes (Ok got) after =
      (t : Ticket) × (between : Memory V) × Called n F (claimed s (Ok (t.station, t.job))) m between
      × Called n F (collected t.station t.job (Ok got)) between after
  Finishes (Err e) after =
      Called n F (claimed s (Err e)) m after
      ⊎ ((t : Ticket) × (between : Memory V) × Called n F (claimed s (Ok (t.station, t.job))) m between
      × Called n F (collected t.station t.job (Err e)) between between × Called n F (shelved t.station t.job (Ok tt)) between after)
