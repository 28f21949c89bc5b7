use Rattle.std.proofs.Common.{refl, subst, inl, inr}
use Rattle.words.specs.Tags.{Before, Upto}
use Rattle.telegrams.specs.declared.Pair.{Pair}
use Rattle.line.specs.Lines.{store}
use Rattle.line.specs.Seen.{seen}
use Rattle.calls.proofs.Outcomes.{lends_same}
use Rattle.calls.proofs.cabinet.offer.Goals as goal

pub returns-then-is_later : goal.returns-then-is_later
returns-then-is_later g c = (
  store (seen c.args.m.now) c.args.cabinet c.args.pair,
  inl (subst (λ (p : Pair g.row.V.Denot). Before p.tag c.args.pair.tag) c.replica_at.ensures c.if-is_later.ensures.later, refl),
  c.store.ensures,
)

pub returns-else-is_later : goal.returns-else-is_later
returns-else-is_later g c = (
  seen c.args.m.now,
  inr (subst (λ (p : Pair g.row.V.Denot). Upto c.args.pair.tag p.tag) c.replica_at.ensures c.if-is_later.ensures.later, refl),
  (refl, lends_same c.args.m.now c.requires.0),
)
