use Rattle.std.proofs.Common.{◌-◌, ◌<◌, length, arith, rules}
use Rattle.calls.proofs.hands.station_at.Goals as goal

pub offset_bounds-stations-from : goal.offset_bounds-stations-from
offset_bounds-stations-from g c =
    let below : c.from.result - 1 < length c.args.m.now.stations.now = omega (arith, c.from.ensures, c.requires.0, c.requires.1) in
    search rules
