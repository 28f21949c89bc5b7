-- The order of tags: by count, and at equal counts by owner.
use Rattle.std.specs.Prelude.{◌≡◌, ◌<◌, ◌≤◌, ◌⊎◌}
use Rattle.words.specs.declared.tag.Tag.{Tag}

-- a is earlier than b
abbrev pub Before : Tag → Tag → Type 0
Before a b = (a.count ≤ b.count) × (a.count ≡ b.count → a.owner < b.owner)

-- a is no later than b
abbrev pub Upto : Tag → Tag → Type 0
Upto a b = (a.count ≤ b.count) × (a.count ≡ b.count → a.owner ≤ b.owner)

-- tags are in one row: each pair of them is in order one way round, and only equal tags both ways
pub record TagOrder : Type 0 where
  pub either : (a b : Tag) → Before a b ⊎ Upto b a
  pub not_both : (a b : Tag) → Before a b → Upto b a → ⊥
  pub through : (a b c : Tag) → Upto a b → Upto b c → Upto a c
  pub before_through : (a b c : Tag) → Before a b → Upto b c → Before a c
  pub through_before : (a b c : Tag) → Upto a b → Before b c → Before a c
  pub same : (a b : Tag) → Upto a b → Upto b a → a ≡ b
