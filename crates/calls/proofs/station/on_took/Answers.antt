use Rattle.std.proofs.Common.{◌≡◌, refl, ap, ◌∙◌, inl, inr, arith, rules}
use Rattle.line.specs.declared.types.Stage.TheVariants.{Ended}
use Rattle.line.specs.Lines.{View, at_stage, ended_row, hold, note, owed_by}
use Rattle.line.specs.Seen.{seen}
use Rattle.line.proofs.Sounds.{setting_owes}
use Rattle.calls.specs.Changes.{off}
use Rattle.calls.proofs.Arriving.{took_arrives}
use Rattle.calls.proofs.Outcomes.{rows_left, sound_ends}
use Rattle.calls.proofs.Sending.{same_rows}
use Rattle.calls.proofs.station.on_took.Goals as goal

pub finish-requires-clause-row : goal.finish-requires-clause-row
finish-requires-clause-row g c =
    let m = c.args.m.now in
    let sound = c.requires.sound in
    let counts = c.requires.counts in
    let h = counts.0 in
    let same = same_rows m c.take_off.new.m _ (sound_ends _ m sound) c.take_off.ensures refl refl in
    let owes : owed_by h.work h.stage ≡ 1 = ap (owed_by h.work) counts.3.1 ∙ setting_owes h.work c.args.pair c.args.strikes counts.3.0 in
    omega (arith, same.0, same.1, rows_left _ m c.args.t.station h sound c.requires.on.1.1 counts.1)

pub returns-in-None-clause-step : goal.returns-in-None-clause-step
returns-in-None-clause-step g c =
    let v = seen c.args.m.now in
    let t = c.args.t in
    let step = took_arrives (g.S.QuorumSystem.quorum c.args.system.now) v (off v c.args.place) t c.args.hand (seen c.hold.new.self.m.now) c.args.pair c.args.strikes c.args.took _ c.requires.counts
    (inl (c.in-None.ensures, refl, c.hold.ensures.0.0 ∙ ap (λ (w : View g.row.V.Denot). hold w t.station c.args.hand) c.take_off.ensures.0)) in
    search rules

pub returns-in-Some-clause-step : goal.returns-in-Some-clause-step
returns-in-Some-clause-step g c =
    let v = seen c.args.m.now in
    let t = c.args.t in
    let s = t.station in
    let hand = c.args.hand in
    let ended : View g.row.V.Denot → View g.row.V.Denot = λ w. note (hold w s (at_stage hand (Ended c.args.pair 2 c.args.strikes))) (ended_row s hand.job c.args.pair 2 c.args.strikes) in
    let step = took_arrives (g.S.QuorumSystem.quorum c.args.system.now) v (off v c.args.place) t hand (seen c.finish.new.self.m.now) c.args.pair c.args.strikes c.args.took _ c.requires.counts
    (inr (c.in-Some.field-0, c.in-Some.ensures, refl, c.finish.ensures.0.0 ∙ ap ended c.take_off.ensures.0)) in
    search rules
