use Rattle.std.proofs.Common.{ap, ◌∙◌, rules}
use Rattle.line.specs.Lines.{View}
use Rattle.line.specs.Seen.{seen}
use Rattle.calls.specs.Choices.{chosen_line}
use Rattle.calls.proofs.Hearing.{Heard, after_row, after_places, all_told, goes_on, held_up, line_there}
use Rattle.calls.proofs.station.on_told.Goals as goal

pub receive-requires-clause-line : goal.receive-requires-clause-line
receive-requires-clause-line g c =
    let x : Heard (g.S.QuorumSystem.size c.args.system.now) c.args.m.now c.args.place c.args.t c.args.hand c.args.pair =
    record { few = (g.met.S.QuorumSystem.sized c.args.system.now).1; sound = c.requires.sound; on = c.requires.on.0; fits = c.requires.on.1; counts = c.requires.counts } in
    line_there x

pub receive-requires-2-clause-line : goal.receive-requires-2-clause-line
receive-requires-2-clause-line g c =
    let x : Heard (g.S.QuorumSystem.size c.args.system.now) c.args.m.now c.args.place c.args.t c.args.hand c.args.pair =
    record { few = (g.met.S.QuorumSystem.sized c.args.system.now).1; sound = c.requires.sound; on = c.requires.on.0; fits = c.requires.on.1; counts = c.requires.counts } in
    line_there x

pub choose-choice-requires-clause-told : goal.choose-choice-requires-clause-told
choose-choice-requires-clause-told g c =
    let x : Heard (g.S.QuorumSystem.size c.args.system.now) c.args.m.now c.args.place c.args.t c.args.hand c.args.pair =
    record { few = (g.met.S.QuorumSystem.sized c.args.system.now).1; sound = c.requires.sound; on = c.requires.on.0; fits = c.requires.on.1; counts = c.requires.counts } in
    let picked = c.in-Some.ensures in
    all_told x (g.S.QuorumSystem.quorum c.args.system.now) c.in-Some.q picked (g.met.S.QuorumSystem.line c.args.system.now c.in-Some.q picked.0) c.new-told.result c.new-told.ensures

pub apply-requires-clause-row : goal.apply-requires-clause-row
apply-requires-clause-row g c =
    let x : Heard (g.S.QuorumSystem.size c.args.system.now) c.args.m.now c.args.place c.args.t c.args.hand c.args.pair =
    record { few = (g.met.S.QuorumSystem.sized c.args.system.now).1; sound = c.requires.sound; on = c.requires.on.0; fits = c.requires.on.1; counts = c.requires.counts } in
    after_row x c.receive-2.new.m c.receive-2.ensures

pub apply-requires-clause-places : goal.apply-requires-clause-places
apply-requires-clause-places g c sent =
    let x : Heard (g.S.QuorumSystem.size c.args.system.now) c.args.m.now c.args.place c.args.t c.args.hand c.args.pair =
    record { few = (g.met.S.QuorumSystem.sized c.args.system.now).1; sound = c.requires.sound; on = c.requires.on.0; fits = c.requires.on.1; counts = c.requires.counts } in
    after_places x c.receive-2.new.m c.receive-2.ensures (c.if-not-has_room.ensures sent)

pub returns-then-not-has_room-clause-step : goal.returns-then-not-has_room-clause-step
returns-then-not-has_room-clause-step g c =
    let x : Heard (g.S.QuorumSystem.size c.args.system.now) c.args.m.now c.args.place c.args.t c.args.hand c.args.pair =
    record { few = (g.met.S.QuorumSystem.sized c.args.system.now).1; sound = c.requires.sound; on = c.requires.on.0; fits = c.requires.on.1; counts = c.requires.counts } in
    let picked = c.in-Some.ensures in
    let tight = c.if-not-has_room.ensures in
    held_up x (g.S.QuorumSystem.quorum c.args.system.now) c.in-Some.q picked (g.met.S.QuorumSystem.line c.args.system.now c.in-Some.q picked.0) c.choose-choice.result c.new-told.result c.last_at-last.result c.new-told.ensures c.last_at-last.ensures
    c.choose-choice.ensures tight.0 tight.1

pub returns-clause-step : goal.returns-clause-step
returns-clause-step g c =
    let x : Heard (g.S.QuorumSystem.size c.args.system.now) c.args.m.now c.args.place c.args.t c.args.hand c.args.pair =
    record { few = (g.met.S.QuorumSystem.sized c.args.system.now).1; sound = c.requires.sound; on = c.requires.on.0; fits = c.requires.on.1; counts = c.requires.counts } in
    let picked = c.in-Some.ensures in
    let hand = c.args.hand in
    let s = c.args.t.station in
    let step = goes_on x (g.S.QuorumSystem.quorum c.args.system.now) c.in-Some.q picked (g.met.S.QuorumSystem.line c.args.system.now c.in-Some.q picked.0) c.choose-choice.result c.new-told.result c.last_at-last.result c.new-told.ensures c.last_at-last.ensures
    c.choose-choice.ensures c.if-not-has_room.ensures c.apply.result (seen c.apply.new.self.m.now) c.apply.ensures.0 (c.apply.ensures.1.0.0 ∙ ap (λ (y : View g.row.V.Denot). chosen_line y s hand c.choose-choice.result) c.receive-2.ensures.0) in
    search rules
