use Rattle.std.proofs.Common.{length, sym, ap, ◌∙◌}
use Rattle.line.specs.Seen.{seen}
use Rattle.calls.proofs.Tellers.{told_length}
use Rattle.calls.proofs.tellings.Tellings.cabinets.Goals as goal

pub returns : goal.returns
returns g c =
    let x = c.self.inside in
    (sym (told_length (seen x.m.now) x.t x.pair) ∙ ap length c.self.view_is, c.self.invariant.2)
