use Rattle.std.proofs.Common.{ℕ, sym, refl, ap, ◌∙◌, subst, rules}
use Rattle.line.specs.Lines.{View}
use Rattle.calls.specs.declared.choice.Choice.{Choice}
use Rattle.calls.specs.Choices.{answer_of, chosen_line, second_trip, sends, tagged_line}
use Rattle.calls.specs.Stations.{Goes, line}
use Rattle.calls.proofs.Outcomes.{lends_on}
use Rattle.calls.proofs.Sending.{places_free}
use Rattle.calls.proofs.hands.StationMemory.apply.Goals as goal

pub second-requires-clause-places : goal.second-requires-clause-places
second-requires-clause-places g c =
    let a = c.args.self.now in
    places_free a.m.now c.tag.new.self.m.now _ a.ends c.tag.ensures.0 refl refl refl (c.requires.places (ap sends c.in-Tagged.is))

pub returns-in-Tagged : goal.returns-in-Tagged
returns-in-Tagged g c =
    let a = c.args.self.now in
    let b = c.tag.new.self in
    let e = c.second.new.self in
    let s = a.station in
    let hand = c.args.hand in
    let pair = c.in-Tagged.pair in
    let w = line a in
    let is : Goes a (second_trip w s hand (tagged_line w s hand pair) pair 0) e = (
      (
        c.second.ensures.0.0
            ∙ ap (λ (k : ℕ). second_trip w k hand (line b) pair 0) c.tag.ensures.2 ∙ ap (λ (x : View g.row.V.Denot). second_trip w s hand x pair 0) c.tag.ensures.0.0,
        lends_on a.m.now b.m.now e.m.now c.tag.ensures.0.1 c.second.ensures.0.1,
      ),
      c.second.ensures.1 ∙ c.tag.ensures.1,
      c.second.ensures.2 ∙ c.tag.ensures.2,
    ) in
    let answer = sym (ap answer_of c.in-Tagged.is) in
    let done = subst (λ (x : Choice g.row.V.Denot). Goes a (chosen_line w s hand x) e) (sym c.in-Tagged.is) is in
    search rules
