use Rattle.std.proofs.Common.{◌≡◌, ℕ, map, length, take, ap, ◌∙◌, arith}
use Rattle.std.proofs.lemmas.List.{length-map}
use Rattle.line.specs.Lines.{tag_of}
use Rattle.calls.proofs.Tellers.{told_below}
use Rattle.calls.proofs.choosing.judged.Goals as goal

pub returns : goal.returns
returns g c =
    let tags = c.tags-tags.result in
    let all : take c.from.result tags ≡ map tag_of c.args.told.now = ap (λ (i : ℕ). take i tags) (c.from.ensures ∙ c.cabinets.ensures.0) ∙ c.tags-tags.ensures in
    rw all at c.in-Some.ensures.judges.1

-- a quorum has a member, and each member told
pub unreachable-requires : goal.unreachable-requires
unreachable-requires g c =
    let told = c.args.told.now in
    let tags = c.tags-tags.result in
    let all : take c.from.result tags ≡ map tag_of told = ap (λ (i : ℕ). take i tags) (c.from.ensures ∙ c.cabinets.ensures.0) ∙ c.tags-tags.ensures in
    let long : length (take c.from.result tags) ≡ length told = ap length all ∙ length-map told tag_of in
    c.in_default.ensures.judges (g.met.S.QuorumSystem.member c.args.system.now c.args.q c.requires.picked)
    (λ k member. let x = c.requires.told k member in omega (arith, told_below told c.args.q k x.0 (member, x.1)))
