use Rattle.std.proofs.Common.{◌-◌, ◌≤◌, min, length, drop, subst, arith, rules}
use Rattle.std.proofs.lemmas.List.{length-drop}
use Rattle.std.proofs.lemmas.Option.{MatchOption-at_some}
use Rattle.std.proofs.lemmas.Result.{err_from_is_err_and, MatchResult-at_err}
use Rattle.words.specs.Judged.{Faulted}
use Rattle.words.specs.Judging.{of_kind}
use Rattle.telegrams.proofs.Reading.{after_head, at_owner, at_value, handed_on, judged_part, owner_low}
use Rattle.telegrams.proofs.read_pair.Goals as goal

pub returns-in_err-owner : goal.returns-in_err-owner
returns-in_err-owner g c =
    let p = err_from_is_err_and c.from_residual-in_err-owner.result c.from_residual-in_err-owner.ensures.1 in
    rw (p.1, p.2) (search (rules, at_owner, of_kind))

pub returns-in_err-value : goal.returns-in_err-value
returns-in_err-value g c =
    let ws = c.args.words.now in
    let js = g.V.Value.judges in
    let count = MatchOption-at_some _ _ c.in_ok-count.count c.in_ok-count.ensures.ok_part c.bits_at.ensures in
    let owner = MatchOption-at_some _ _ c.in_ok-owner.owner c.in_ok-owner.ensures.ok_part c.owner_at.ensures in
    let n = c.min-end.result - 3 in
    let enough : min (length js) (length (drop 3 ws)) ≤ n = rw (length-drop 3 ws) (omega (arith, c.min-end.ensures, c.width.ensures)) in
    let part = judged_part js (drop 3 ws) n enough in
    let p = err_from_is_err_and c.from_residual-in_err-value.result c.from_residual-in_err-value.ensures.1 in
    let faults = after_head js ws in
    rw (p.1, p.2)
    (MatchResult-at_err (λ _. Unit {0}) (Faulted faults) c.in_err-value.field-0.0 c.in_err-value.was
    (handed_on _ (Faulted faults) _ c.read.result c.map_err.result c.map_err.ensures.cases c.read.ensures (λ e d k. search rules) (λ _ _. tt)
    (λ e f. at_value js ws e owner.0 (of_kind 5 _ _ count.1 count.2) (owner_low _ _ owner.2 owner.1) g.met.V.Value.few (subst (λ vs. Faulted vs e) part f))))
