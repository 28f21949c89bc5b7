use Rattle.std.proofs.Common.{[], append-nil, subst}
use Rattle.capture.specs.Scans.{Scans}
use Rattle.capture.proofs.scan.scan.Goals as goal

pub returns : goal.returns
returns g c =
    let m = g.V.Value in
    subst (Scans m.valid m.run m.judges c.args.words.now 0) (append-nil c.loop-place.items.items) (c.loop-place.invariant.1 [] c.loop-place-test.false)
