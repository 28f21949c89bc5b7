use Rattle.std.proofs.Common.{◌≡◌, ℕ, min, ◌+◌, ◌-◌, ◌/◌, ◌^◌, ◌≤◌, bit_and, Some, None, Option, MatchOption, IsSomeAnd, ap, rules, sym, subst, ◌∙◌, arith}
use Rattle.std.proofs.lemmas.Iterator.{YieldsList-from_range}
use Rattle.std.proofs.lemmas.Iterator.Adapters.{option_map_id}
use Rattle.std.proofs.lemmas.Iterator.Consumers.{YieldsList-from_filter, nth_from_yields_List}
use Rattle.std.proofs.lemmas.Nat.{and_mask}
use Rattle.quorums.specs.Families.{MajorityOf}
use Rattle.quorums.specs.Majorities.{least, too_few}
use Rattle.quorums.specs.Sets.{Picked}
use Rattle.quorums.proofs.Gathers.{MemberAt, member_at}
use Rattle.quorums.proofs.Tests.{joins, joins_same}
use Rattle.quorums.proofs.majority.MajorityQuorumSystem.pick.Goals as goal

-- with enough members those up to the last that is needed are picked, and none if there are too few
enough : (n given i : ℕ) (last r : Option ℕ) → n ≤ 16 → i ≡ n / 2 → MemberAt given 0 n i last
    → MatchOption last (r ≡ None) (λ k. IsSomeAnd r (λ s. s ≡ bit_and given (2 ^ min (k + 1) 16 - 1)))
    → Picked (MajorityOf n) given r
enough n given i None r h e short is = subst (Picked (MajorityOf n) given) (sym is) (too_few n given (omega (arith, short)))
enough n given i (Some k) None h e m is = absurd is
enough n given i (Some k) (Some s) h e m is =
    let few : min (k + 1) 16 ≡ k + 1 = omega (arith, m.0) in
    let front = is ∙ ap (λ (j : ℕ). bit_and given (2 ^ j - 1)) few ∙ and_mask given (k + 1) in
    subst (λ (t : ℕ). Picked (MajorityOf n) given (Some t)) (sym front) (least n given (k + 1) (omega (arith, m.0)) (omega (arith, m.1)))

pub returns : goal.returns
returns c =
    let n = c.args.self.now.cabinets.count in
    let given = c.args.given in
    let i = c.from.result in
    let e = sym (option_map_id _) ∙ nth_from_yields_List c.nth.result _ _ c.nth.ensures.ran
    (YieldsList-from_filter _ (joins given) (YieldsList-from_range 0 n n (cc) (omega arith)) c.filter.ensures.closure (λ x r q k. search (rules, joins_same))) in
    enough n given i c.nth.result c.map.result (omega arith) (omega arith) (subst (MemberAt given 0 n i) (sym e) (member_at given n i)) (search rules)
