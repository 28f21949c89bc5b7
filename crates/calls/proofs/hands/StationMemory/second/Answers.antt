use Rattle.std.proofs.Common.{refl}
use Rattle.calls.proofs.Sending.{places_free}
use Rattle.calls.proofs.hands.StationMemory.second.Goals as goal

pub send_all-requires : goal.send_all-requires
send_all-requires g c = places_free c.args.self.now.m.now c.hold.new.self.m.now _ c.args.self.now.ends c.hold.ensures.0 refl refl refl c.requires.places
