use Rattle.words.specs.Tags.{Before}
use Rattle.quorums.specs.Sets.{Member, Those}
use Rattle.views.specs.Views.{told}
use Rattle.views.proofs.Told.before.Given as goal

abbrev pub invariant-loop-k : goal.invariant-loop-k
invariant-loop-k l = Those (λ k. Member k l.self.members × Before (told l.self.tags.now k) l.tag) l.k l.rest
