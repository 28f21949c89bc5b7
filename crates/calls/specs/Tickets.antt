-- Tickets in the results of calls.
use Rattle.std.specs.Prelude.{◌≡◌, ℕ, ◌⊎◌, Some, None, Ok, Err, Option, Result}
use Rattle.words.specs.declared.refusal.Refusal.{Refusal}
use Rattle.words.specs.Refusals.{number}
use Rattle.line.specs.declared.types.Collected.{Collected}
use Rattle.line.specs.declared.types.Hand.{Hand}
use Rattle.line.specs.declared.types.Memory.{Memory}
use Rattle.line.specs.declared.types.Stage.{Stage}
use Rattle.line.specs.Seen.{seen}
use Rattle.line.specs.Memories.{Sound}
use Rattle.line.specs.Steps.{InHand, Over, Unfinished}
use Rattle.calls.specs.declared.ticket.HandedBack.{HandedBack}
use Rattle.calls.specs.declared.ticket.Ticket.{Ticket}

-- the station and the job of a ticket that is handed out
abbrev pub issued : Result Ticket Refusal → Result (ℕ × ℕ) Refusal
issued (Ok t) = Ok (t.station, t.job)
issued (Err e) = Err e

-- the refusal without its ticket
abbrev pub plain : {R : Type 0} → Result R HandedBack → Result R Refusal
plain (Ok x) = Ok x
plain (Err b) = Err b.refusal

-- a refusal hands the ticket back
abbrev pub Returned : {R : Type 0} → Ticket → Result R HandedBack → Type 0
Returned t (Ok x) = Unit {0}
Returned t (Err b) = b.ticket ≡ t

module _ {V : Type 0} where
  -- the job in hand that a ticket stands for, on sound memory; else refusal 1 or 9
  abbrev pub JobOf : ℕ → Memory V → ℕ → ℕ → Result (Hand V) Refusal → Type 0
  JobOf n m s job (Ok h) = Sound n m × InHand (seen m) s job h
  JobOf n m s job (Err e) =
      ((Sound n m → ⊥) × (number e ≡ 1)) ⊎ (Sound n m × ((h : Hand V) → InHand (seen m) s job h → ⊥) × (number e ≡ 9))

  -- the same for a ticket, which comes with its job, or back with the refusal
  abbrev pub Shown : ℕ → Memory V → Ticket → Result (Ticket × Hand V) HandedBack → Type 0
  Shown n m t (Ok (u, h)) = (u ≡ t) × JobOf n m t.station t.job (Ok h)
  Shown n m t (Err b) = (b.ticket ≡ t) × JobOf n m t.station t.job (Err b.refusal)

  -- the result of a job that is over
  abbrev pub ResultOf : Stage V → Option (Collected V) → Type 0
  ResultOf stage (Some got) = Over stage got
  ResultOf stage None = Unfinished stage
