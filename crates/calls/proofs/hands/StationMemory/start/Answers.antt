use Rattle.std.proofs.Common.{refl}
use Rattle.calls.proofs.Sending.{places_free}
use Rattle.calls.proofs.hands.StationMemory.start.Goals as goal

pub send_all-requires : goal.send_all-requires
send_all-requires g c =
    let a = c.args.self.now in
    let noted = c.note.new.self in
    let first = places_free a.m.now noted.m.now _ a.ends c.note.ensures.0 refl refl refl c.requires.places in
    places_free noted.m.now c.take_up.new.self.m.now _ noted.ends c.take_up.ensures.0 refl refl refl first
