use Rattle.std.proofs.Common.{ℕ, ◌<◌, ◌≤◌, length, Ok, Err, sym, refl, ap, ◌∙◌, subst, inl, inr, option_copied, rules}
use Rattle.words.specs.declared.refusal.Refusal.TheVariants.{BookFull, BusFull}
use Rattle.line.specs.Lines.{size}
use Rattle.line.specs.Seen.{seen}
use Rattle.line.specs.Runs.{began}
use Rattle.line.specs.Steps.{wants}
use Rattle.calls.proofs.Outcomes.{accepted, refused, written_is}
use Rattle.calls.proofs.Rooms.{few_cabinets, has_free, has_room, no_room, not_free, places_left, row_left}
use Rattle.calls.proofs.Views.{not_some}
use Rattle.calls.proofs.begin.begin.Goals as goal

pub returns-then-m : goal.returns-then-m
returns-then-m g c =
    let m = c.args.m.now in
    let system = c.args.system.now in
    let sound = c.in_ok-free.ensures.sound.0 in
    let line = c.if-not-is_station.ensures in
    refused (g.S.QuorumSystem.size system) (g.S.QuorumSystem.quorum system) (began c.args.station c.args.work (Err BusFull)) m sound
    (inr (inr (inl (line, sym c.hand_at.ensures ∙ ap option_copied (not_some c.hand_at.result (sym c.is_some.ensures ∙ c.if-is_some.false)), (no_room _ m sound (size (seen m)) c.if-m.true, (BusFull, refl, refl, refl))))))

pub returns-then-free-rows_wanted : goal.returns-then-free-rows_wanted
returns-then-free-rows_wanted g c =
    let m = c.args.m.now in
    let system = c.args.system.now in
    let judged = c.in_ok-free.ensures.sound in
    let sound = judged.0 in
    let line = c.if-not-is_station.ensures in
    let few = subst (λ (k : ℕ). c.in_ok-free.free < k) c.rows_wanted.ensures c.if-free-rows_wanted.true in
    refused (g.S.QuorumSystem.size system) (g.S.QuorumSystem.quorum system) (began c.args.station c.args.work (Err BookFull)) m sound
    (inr (inr (inr (inl (
      line,
      sym c.hand_at.ensures ∙ ap option_copied (not_some c.hand_at.result (sym c.is_some.ensures ∙ c.if-is_some.false)),
      has_room _ m sound (size (seen m)) c.if-m.false,
      (not_free _ m sound c.in_ok-free.free judged.1 (wants c.args.work) few, (BookFull, refl, refl, refl)),
    )))))

pub start-job-requires : goal.start-job-requires
start-job-requires g c =
    let m = c.args.m.now in
    let judged = c.in_ok-free.ensures.sound in
    let sound = judged.0 in
    let enough = subst (λ (k : ℕ). k ≤ c.in_ok-free.free) c.rows_wanted.ensures c.if-free-rows_wanted.false in
    record {
      rows = (row_left _ m sound c.in_ok-free.free judged.1 c.args.work enough, sound.0.8);
      places = (few_cabinets _ m sound (g.met.S.QuorumSystem.sized c.args.system.now).1, places_left _ m sound (length m.replicas.now) c.if-m.false);
    }

pub returns : goal.returns
returns g c =
    let m = c.args.m.now in
    let system = c.args.system.now in
    let judged = c.in_ok-free.ensures.sound in
    let sound = judged.0 in
    let line = c.if-not-is_station.ensures in
    let enough = subst (λ (k : ℕ). k ≤ c.in_ok-free.free) c.rows_wanted.ensures c.if-free-rows_wanted.false in
    let job = c.start-job.ensures.0 ∙ sym (written_is _ m sound) in
    let done = accepted (g.S.QuorumSystem.size system) (g.S.QuorumSystem.quorum system) (began c.args.station c.args.work (Ok (c.args.station, c.start-job.result))) m c.start-job.new.self.m.now _ sound
    (inr (inr (inr (inr (
      line,
      sym c.hand_at.ensures ∙ ap option_copied (not_some c.hand_at.result (sym c.is_some.ensures ∙ c.if-is_some.false)),
      has_room _ m sound (size (seen m)) c.if-m.false,
      has_free _ m sound c.in_ok-free.free judged.1 (wants c.args.work) enough,
      ap (λ (k : ℕ). Ok (c.args.station, k)) job,
      refl,
    )))))
    c.start-job.ensures.1.0 refl in
    search rules
