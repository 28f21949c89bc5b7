use Rattle.calls.proofs.Tellers.{holder_told}
use Rattle.calls.proofs.choosing.choose.Goals as goal

pub holder-requires : goal.holder-requires
holder-requires g c =
    let j = rw c.in-OneTrip.is at c.judged-verdict.ensures in
    holder_told c.args.told.now c.args.q c.requires.told c.in-OneTrip.tag j.0

pub holder-requires-in-SecondTrip : goal.holder-requires-in-SecondTrip
holder-requires-in-SecondTrip g c =
    let j = rw c.in-SecondTrip.is at c.judged-verdict.ensures in
    holder_told c.args.told.now c.args.q c.requires.told c.in-SecondTrip.tag j.0

pub returns-in-OneTrip : goal.returns-in-OneTrip
returns-in-OneTrip g c = rw c.in-Read.is (c.in-OneTrip.tag, rw c.in-OneTrip.is at c.judged-verdict.ensures, c.holder.ensures)

pub returns-in-SecondTrip : goal.returns-in-SecondTrip
returns-in-SecondTrip g c = rw c.in-Read.is (c.in-SecondTrip.tag, rw c.in-SecondTrip.is at c.judged-verdict.ensures, c.holder-in-SecondTrip.ensures)
