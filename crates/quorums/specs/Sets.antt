-- Sets of cabinets. A set goes by its number, the sum of 2^k over its members k.
use Rattle.std.specs.Prelude.{◌≡◌, ℕ, ◌/◌, ◌%◌, ◌^◌, ◌<◌, ◌≤◌, min, ◌↔◌, Some, None, Option}

abbrev pub Member : ℕ → ℕ → Type 0
Member k s = s / 2 ^ k % 2 ≡ 1

-- every member of s is one of t
abbrev pub Inside : ℕ → ℕ → Type 0
Inside s t = (k : ℕ) → Member k s → Member k t

-- s and t share a cabinet
abbrev pub Share : ℕ → ℕ → Type 0
Share s t = (k : ℕ) × Member k s × Member k t

-- s is the set of those cabinets below n of which P holds
abbrev pub Those : (ℕ → Type 0) → ℕ → ℕ → Type 0
Those P n s = (k : ℕ) → Member k s ↔ ((k < n) × P k)

-- the set of least number in a family that lies inside a given set, and none exactly if none lies inside
abbrev pub Picked : (ℕ → Type 0) → ℕ → Option ℕ → Type 0
Picked family given None = (s : ℕ) → family s → Inside s given → ⊥
Picked family given (Some s) = family s × Inside s given × ((t : ℕ) → family t → Inside t given → s ≤ t)

-- the lesser of the best set so far, if there is one, and another
abbrev pub lesser : Option ℕ → ℕ → ℕ
lesser None s = s
lesser (Some b) s = min b s
