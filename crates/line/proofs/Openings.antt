-- The order of jobs in all calls that follow an opening.
use Rattle.std.proofs.Common.{◌≡◌, ℕ, ◌-◌, ◌*◌, ◌^◌, ◌≤◌, List, length, replicate, Ok, sym, refl, ap, ◌∙◌, subst, inl, inr, ⊎_elim, arith}
use Rattle.std.proofs.lemmas.Grind.{common_steps}
use Rattle.std.proofs.lemmas.List.{length-replicate}
use Rattle.std.proofs.lemmas.List.Recursion.{is_sum_by}
use Rattle.line.specs.declared.types.First.{First}
use Rattle.line.specs.declared.types.Memory.{Memory}
use Rattle.line.specs.declared.types.Station.{Station}
use Rattle.line.specs.Lines.{View, idle, owed, owed_in}
use Rattle.line.specs.Seen.{seen}
use Rattle.line.specs.Memories.{Opens, OrderAfter, Sound}
use Rattle.line.specs.Runs.{Laws, Run}
use Rattle.line.proofs.Order.{order_of_jobs, trips_carry}
use Rattle.line.proofs.Sounds.{runs}

owed_idle : (V : Type 0) (k : ℕ) → owed {V = V} (replicate k idle) ≡ 0
owed_idle V k = grind (arith, common_steps, is_sum_by owed (λ (s : Station V). owed_in s.hand) refl (λ _ _. refl))

module _ {V : Type 0} where
  module _ (n : ℕ) (F : ℕ → Type 0) (laws : Laws F n) (first : First V) (m after : Memory V) where
    opened_sound : Opens n first m (Ok tt) after → Sound n after
    opened_sound (inl bad) = cc bad.1.1
    opened_sound (inr ((count, replicas, one, few, answers, bus-low, bus-high, rows-low, rows-high), _, lends, is)) =
        let k = length m.stations.now in
        let stations : after.stations.now ≡ replicate k idle = ap (λ (v : View V). v.stations) is in
        let many : length after.stations.now ≡ k = ap (λ (xs : List (Station V)). length xs) stations ∙ length-replicate k idle in
        let bus : length after.bus.now ≡ length m.bus.now = ap (λ (v : View V). v.bus_places) is in
        let journal : length after.journal.now ≡ length m.journal.now = ap (λ (v : View V). v.journal_places) is in
        let empty : length (seen after).journal ≡ 0 = ap (λ (v : View V). length v.journal) is in
        let none_owed = ap owed stations ∙ owed_idle V k in (
          (
            subst (λ (f : First V). f.count ≤ 2 ^ 28 - 1) (sym (ap (λ (v : View V). v.first) is)) count,
            ap (λ (v : View V). length v.replicas) is ∙ length-replicate n _,
            omega arith,
            omega arith,
            lends.3 ∙ answers ∙ ap (λ (x : ℕ). n * x) (sym many),
            omega arith,
            omega arith,
            omega arith,
            omega arith,
          ),
          lends.5,
          omega (arith, lends.7),
        )

    pub after_opening : Opens n first m (Ok tt) after → OrderAfter n F first after
    after_opening opens ms end calls =
        ⊎_elim (λ bad. cc bad.1.1)
        (λ good.
        let r = runs n F after end ms (opened_sound opens) calls in
        let k = length m.stations.now in
        let run = subst (λ (v : View V). Run F v ms (seen end)) good.3 r.0 in
        let o = order_of_jobs F n laws first k (length m.bus.now) (length m.journal.now) ms (seen end) run in
        (o.0, trips_carry F n laws first k (length m.bus.now) (length m.journal.now) ms (seen end) run, o.1, r.1))
        opens
