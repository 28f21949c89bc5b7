-- The steps pin the result.
use Rattle.std.specs.Prelude.{◌≡◌, ℕ, Result}
use Rattle.words.specs.declared.refusal.Refusal.{Refusal}
use Rattle.line.specs.declared.types.Work.{Work}
use Rattle.line.specs.Lines.{View}
use Rattle.line.specs.Steps.{Begins, Claims, Collects, Delivers, Doubles, GivesUp, Loses, Shelves}

-- one answer and one line after it
abbrev pub One : {V R : Type 0} → (Result R Refusal → View V → Type 0) → Type 0
One {V} {R} A = (r s : Result R Refusal) (w x : View V) → A r w → A s x → (r ≡ s) × (w ≡ x)

-- From one line a call has one answer and leaves one line.
pub record OneResult (V : Type 0) (F : ℕ → Type 0) : Type 0 where
  pub begin : (v : View V) (s : ℕ) (work : Work V) → One (Begins v s work)
  pub deliver : (v : View V) (place : ℕ) → One (Delivers F v place)
  pub lose : (v : View V) (place : ℕ) → One (Loses v place)
  pub double : (v : View V) (place : ℕ) → One (Doubles v place)
  pub collect : (v : View V) (s job : ℕ) → One (Collects v s job)
  pub give_up : (v : View V) (s job : ℕ) → One (GivesUp v s job)
  pub shelve : (v : View V) (s job : ℕ) → One (Shelves v s job)
  pub claim : (v : View V) (s : ℕ) → One (Claims v s)
