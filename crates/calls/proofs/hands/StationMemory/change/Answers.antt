use Rattle.std.proofs.Common.{ℕ, ◌-◌, length, set, refl, ap, ◌∙◌}
use Rattle.line.specs.declared.types.Station.{Station}
use Rattle.calls.proofs.Live.{answers_changed}
use Rattle.calls.proofs.Views.{same_view}
use Rattle.calls.proofs.hands.StationMemory.change.Goals as goal

pub returns : goal.returns
returns g c =
    let a = c.args.self.now in
    let m = a.m.now in
    let xs = m.stations.now in
    let s = a.station in
    let st : Station g.row.V.Denot = record { last = c.args.last; hand = c.args.hand } in
    let is = c.put.ensures ∙ ap (λ (k : ℕ). set xs (k - 1) st) c.from-place.ensures in
    λ told fits. (
      (
        same_view _ _ refl refl is (answers_changed (length m.replicas.now) m.answers.now xs s a.there.0 a.there.1 st told fits _ is) refl refl refl refl,
        (refl, refl, refl, refl, refl, a.ends.0, refl, a.ends.1),
      ),
      refl,
      refl,
    )
