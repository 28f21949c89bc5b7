-- When the views of two memories are the same.
use Rattle.std.proofs.Common.{◌≡◌, ℕ, ◌-◌, ◌<◌, ◌≤◌, Bool, true, false, cond, ltb, List, [], ◌∷◌, length, get_or, replicate, Some, None, Option, sym, refl, ap, ◌∙◌, ⊎_elim, arith}
use mathlib.Core.Path.{fun_ext}
use Rattle.std.specs.List.{slice_get}
use Rattle.std.specs.Option.{is_some}
use Rattle.std.proofs.lemmas.Bool.{cases_lt}
use Rattle.std.proofs.lemmas.Option.{none-some, slice_get-get_or}
use Rattle.telegrams.specs.declared.Pair.{Pair}
use Rattle.line.specs.declared.types.Hand.{Hand}
use Rattle.line.specs.declared.types.Station.{Station}
use Rattle.line.proofs.Order.{all_one}
use Rattle.line.specs.Lines.{View, idle}
use Rattle.line.specs.Seen.{answers_of, live_in_line}

-- both ways the same
pub either : {X : Type 0} (b : Bool) (x : X) → cond b x x ≡ x
either true x = refl
either false x = refl

module _ {V : Type 0} where
  pub same_view : (v w : View V) → v.first ≡ w.first → v.replicas ≡ w.replicas → v.stations ≡ w.stations → ((s c : ℕ) → v.answers s c ≡ w.answers s c) → v.bus ≡ w.bus → v.journal ≡ w.journal → v.bus_places ≡ w.bus_places → v.journal_places ≡ w.journal_places → v ≡ w
  same_view v w first replicas stations answers bus journal bus_places journal_places = λ i. record {
    first = first i;
    replicas = replicas i;
    stations = stations i;
    answers = fun_ext {f = v.answers} {g = w.answers} (λ s. fun_ext {f = v.answers s} {g = w.answers s} (λ c. answers s c)) i;
    bus = bus i;
    journal = journal i;
    bus_places = bus_places i;
    journal_places = journal_places i;
  }

  -- stations without a job in hand have no answers
  pub idle_answers : (m n : ℕ) (answers : List (Pair V)) (s c : ℕ) → answers_of (replicate m idle) n answers s c ≡ None
  idle_answers m n answers s c =
      ap (λ (h : Option (Hand V)). cond (ltb 0 s) (live_in_line n answers s c h) None) (ap (λ (st : Station V). st.hand) (all_one m (s - 1) idle)) ∙ either (ltb 0 s) None

-- there is something at every place
pub some_place : {X : Type 0} (xs : List X) (i : ℕ) → i < length xs → (x : X) × (slice_get xs i ≡ Some x)
some_place [] i l = absurd (omega arith)
some_place (x ∷ xs) i l = (get_or (x ∷ xs) i x, slice_get-get_or (x ∷ xs) i x l)

-- a place with nothing lies past the end
pub none_past : {X : Type 0} (xs : List X) (i : ℕ) → slice_get xs i ≡ None → length xs ≤ i
none_past [] i e = omega arith
none_past (x ∷ xs) i e =
    ⊎_elim (λ l. absurd (none-some (get_or (x ∷ xs) i x) (sym e ∙ slice_get-get_or (x ∷ xs) i x l))) (λ l. l) (cases_lt i (length (x ∷ xs)))

-- nothing is there where not something is
pub not_some : {X : Type 0} (o : Option X) → is_some o ≡ false → o ≡ None
not_some None e = refl
not_some (Some x) e = let z : ◌≡◌ {A = ℕ} 0 1 = cc in absurd (omega arith)
