use Rattle.std.proofs.Common.{◌≡◌, ◌+◌, get_or, drop, ap, arith}
use Rattle.std.proofs.lemmas.List.{at_drop_all, at_drop_more}
use Rattle.line.specs.declared.types.Station.{Station}
use Rattle.line.specs.Lines.{owed, owed_in}
use Rattle.line.proofs.rows_owed.Goals as goal

pub loop-station-preserved : goal.loop-station-preserved
loop-station-preserved g c =
    let stations = c.args.stations.now in
    let i = c.loop-station.station-index in
    let st = c.station-item.result in
    let more : owed (drop i stations) ≡ owed_in (get_or stations i st).hand + owed (drop (i + 1) stations) = at_drop_more owed stations i st c.loop-station-test.true in
    let one : owed_in st.hand ≡ owed_in (get_or stations i st).hand = ap (λ (x : Station g.row.V.Denot). owed_in x.hand) c.station-item.is in
    (omega (arith, c.loop-station.invariant.0, c.owed_by-rows.ensures.owed), omega (arith, c.loop-station.invariant.1, c.owed_by-rows.ensures.few))

pub returns : goal.returns
returns g c =
    let none : owed (drop c.loop-station.station-index c.args.stations.now) ≡ 0 = at_drop_all owed c.args.stations.now c.loop-station.station-index c.loop-station-test.false in
    omega (arith, c.loop-station.invariant.0)
