use Rattle.std.proofs.Common.{ℕ, [], ◌∷◌, ap, ◌∙◌, arith}
use Rattle.telegrams.specs.declared.Telegram.{Telegram}
use Rattle.line.specs.Lines.{send}
use Rattle.calls.specs.Stations.{line}
use Rattle.calls.proofs.Outcomes.{lends_on}
use Rattle.calls.proofs.Sending.{send_more, sent_so_far}
use Rattle.calls.proofs.hands.StationMemory.send_all.Goals as goal

pub join-requires : goal.join-requires
join-requires g c =
    let a = c.args.self.now in
    let b = c.loop-cabinet.self in
    let inv = c.loop-cabinet.invariant in
    let f : ℕ → Telegram g.row.V.Denot = λ x. record { cabinet = x; station = a.station; job = c.args.job; kind = c.args.kind } in
    let sent = sent_so_far a.m.now b.m.now f c.loop-cabinet.cabinet a.ends.0 b.ends.0 inv.0.0 in
    (b.ends, omega (arith, sent.0, sent.1, c.requires.1, c.loop-cabinet-test.true))

pub loop-cabinet-preserved : goal.loop-cabinet-preserved
loop-cabinet-preserved g c =
    let a = c.args.self.now in
    let b = c.loop-cabinet.self in
    let inv = c.loop-cabinet.invariant in
    let f : ℕ → ℕ → Telegram g.row.V.Denot = λ s x. record { cabinet = x; station = s; job = c.args.job; kind = c.args.kind } in
    let joined = c.join.ensures.0 ∙ ap (λ (s : ℕ). send (line b) (f s c.loop-cabinet.cabinet ∷ [])) inv.2 in (
      (send_more (line a) (line b) _ (f a.station) c.loop-cabinet.cabinet inv.0.0 joined, lends_on a.m.now b.m.now c.join.new.m inv.0.1 c.join.ensures.1),
      inv.1,
      inv.2,
    )
