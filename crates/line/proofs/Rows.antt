-- Elements of lists of telegrams, and what begin rows tell.
use Rattle.std.proofs.Common.{◌≡◌, ℕ, suc, ◌<◌, Bool, true, false, List, [], ◌∷◌, map, take, drop, Some, sym, refl, ap, ◌∙◌, ⊎_elim, zero-add, arith}
use Rattle.std.specs.List.{Contains, range_with_len, remove, slice_get}
use Rattle.std.proofs.lemmas.List.Elements.{All-append, All-contains, All-contains_itself, All-drop, All-take, Contains-push_cases}
use Rattle.std.proofs.lemmas.List.FromFn.{get_or-map-range_with_len, length-map-range_with_len}
use Rattle.std.proofs.lemmas.Option.{get_or_from_slice_get, slice_get_within}
use Rattle.telegrams.specs.declared.Pair.{Pair}
use Rattle.line.specs.declared.types.Row.{Row}
use Rattle.line.specs.declared.types.RowKind.{RowKind}
use Rattle.line.specs.declared.types.RowKind.TheVariants as kind
use Rattle.line.specs.declared.types.Work.{Work}
use Rattle.line.specs.declared.types.Work.TheVariants.{Write, Read}
use Rattle.line.specs.Lines.{View, begin_row}

module _ {X : Type 0} where
  pub contains_at : (xs : List X) (i : ℕ) (x : X) → slice_get xs i ≡ Some x → Contains xs x
  contains_at xs i x e = (i, slice_get_within xs i x e, get_or_from_slice_get xs i x x e)

  pub contains_none : {A : Type 0} (x : X) → Contains [] x → A
  contains_none x m = absurd (omega (arith, m.1))

  pub contains_one : (y x : X) → Contains (y ∷ []) x → y ≡ x
  contains_one y x m = ⊎_elim (contains_none x) (λ e. e) (Contains-push_cases [] y x m)

  pub contains_removed : (xs : List X) (i : ℕ) (x : X) → Contains (remove xs i) x → Contains xs x
  contains_removed xs i x =
      let Old : X → Type 0 = Contains xs in
      let all = All-contains_itself xs in
      All-contains Old (remove xs i) x (All-append Old (take i xs) (drop (suc i) xs) (All-take Old i xs all) (All-drop Old (suc i) xs all))

  pub contains_made : (f : ℕ → X) (n : ℕ) (x : X) → Contains (map f (range_with_len 0 n)) x → (c : ℕ) × (f c ≡ x)
  contains_made f n x (k, low, is) =
      let within : k < n = omega (arith, low, length-map-range_with_len f 0 n) in
      (k, sym (get_or-map-range_with_len f 0 n k k x within (zero-add k)) ∙ is)

-- a begin row is told by its kind
abbrev pub starts : RowKind → Bool
starts kind.Write = true
starts kind.Read = true
starts kind.Tagged = false
starts kind.Ended = false
starts kind.Given = false
starts kind.Spent = false

module _ {V : Type 0} where
  -- the pair of a row
  abbrev pub pair_of : Row V → Pair V
  pair_of r = record { tag = r.tag; value = r.value }

  pub begin_starts : (v : View V) (s job : ℕ) (work : Work V) → starts (begin_row v s job work).kind ≡ true
  begin_starts v s job (Write x) = refl
  begin_starts v s job Read = refl

  -- and no row of another kind is one
  pub not_begun : {A : Type 0} (v : View V) (s job : ℕ) (work : Work V) (row : Row V) → begin_row v s job work ≡ row → starts row.kind ≡ false → A
  not_begun v s job work row e other = cc (begin_starts v s job work, ap (λ (r : Row V). starts r.kind) e)

  -- it tells station, job and work
  pub begin_same : (v : View V) (s r job j : ℕ) (a b : Work V) → begin_row v s job a ≡ begin_row v r j b → (s ≡ r) × (job ≡ j) × (a ≡ b)
  begin_same v s r job j (Write x) (Write y) e = (ap (λ (z : Row V). z.station) e, ap (λ (z : Row V). z.job) e, ap (λ (z : Row V). Write z.value) e)
  begin_same v s r job j (Write x) Read e = cc (ap (λ (z : Row V). z.kind) e)
  begin_same v s r job j Read (Write y) e = cc (ap (λ (z : Row V). z.kind) e)
  begin_same v s r job j Read Read e = (ap (λ (z : Row V). z.station) e, ap (λ (z : Row V). z.job) e, refl)
