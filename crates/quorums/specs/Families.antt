-- Which sets are the quorums of each system.
use Rattle.std.specs.Prelude.{◌≡◌, ℕ, ◌+◌, ◌*◌, ◌/◌, ◌%◌, ◌^◌, ◌<◌, ◌≤◌, ◌⊎◌, List, length, count_ones, slice_index}
use Rattle.quorums.specs.Sets.{Share, Those}

-- majority of n cabinets: the sets of exactly n ÷ 2 + 1 of them
abbrev pub MajorityOf : ℕ → ℕ → Type 0
MajorityOf n s = (s < 2 ^ n) × (count_ones s ≡ n / 2 + 1)

-- a table: the listed sets
abbrev pub TableOf : List ℕ → ℕ → Type 0
TableOf list s = (i : ℕ) × (i < length list) × (slice_index list i ≡ s)

-- what a list has to be for a table of n cabinets: 1 to 32 sets of cabinets of the line, each two of
-- which share one; so none is empty
pub record Tight (n : ℕ) (list : List ℕ) : Type 0 where
  pub some : 1 ≤ length list
  pub few : length list ≤ 32
  pub line : (i : ℕ) → i < length list → slice_index list i < 2 ^ n
  pub share : (i j : ℕ) → i < length list → j < length list → Share (slice_index list i) (slice_index list j)

-- a grid of r rows and c columns, cabinet k in row k ÷ c and column k mod c: a whole row with a whole column
abbrev pub GridOf : ℕ → ℕ → ℕ → Type 0
GridOf r c s =
    (row : ℕ) × (column : ℕ) × (row < r) × (column < c)
    × Those (λ k. (k / c ≡ row) ⊎ (k % c ≡ column)) (r * c) s

-- of n cabinets in c columns, the row and the column that cross at a cabinet
unfoldable pub CrossOf : ℕ → ℕ → ℕ → ℕ → Type 0
CrossOf n c at s = Those (λ k. (k / c ≡ at / c) ⊎ (k % c ≡ at % c)) n s
