use Rattle.std.proofs.Common.{ℕ, List, length, replicate, refl, ap, ◌∙◌, subst, inr, arith}
use Rattle.telegrams.specs.declared.Pair.{Pair}
use Rattle.line.specs.declared.types.Station.{Station}
use Rattle.line.specs.Seen.{answers_of}
use Rattle.line.specs.Memories.{Suits}
use Rattle.line.specs.Runs.{Laws}
use Rattle.line.proofs.Openings.{after_opening}
use Rattle.calls.proofs.Views.{idle_answers, same_view}
use Rattle.calls.proofs.opening.open.Goals as goal

pub returns : goal.returns
returns g c =
    let m = c.args.m.now in
    let suits = subst (λ (n : ℕ). Suits n c.args.first.count m) c.cabinets.ensures c.if-not-suits.ensures in
    let k = length m.stations.now in
    let pair : Pair g.row.V.Denot = record { tag = record { count = c.args.first.count; owner = 0 }; value = c.args.first.value } in
    let met = g.met.S.QuorumSystem in
    let system = c.args.system.now in
    let n = g.S.QuorumSystem.size system in
    let F = g.S.QuorumSystem.quorum system in
    let laws : Laws F n = record { few = (met.sized system).1; member = met.member system; line = met.line system; share = met.share system } in
    let opens = inr (
      suits,
      refl,
      (refl, refl, refl, refl, refl, omega arith, refl, omega arith),
      same_view _ _ refl (c.fill.ensures ∙ ap (λ (n : ℕ). replicate n pair) suits.1) c.fill-2.ensures
          (λ s x. ap (λ (xs : List (Station g.row.V.Denot)). answers_of xs (length c.fill.new.places) m.answers.now s x) c.fill-2.ensures ∙ idle_answers k (length c.fill.new.places) m.answers.now s x)
          refl refl refl refl,
    ) in
    record { opens = opens; order = λ _. after_opening n F laws c.args.first m _ opens }
