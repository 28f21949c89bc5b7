-- A row of parts of 28 bits, each in a word of kind 7: what a mask is made of.
use Rattle.std.specs.Prelude.{◌≡◌, ℕ, ◌^◌, ◌<◌, cond, List, map, length, take, replicate, nat_lt, slice_index}
use Rattle.words.specs.declared.mask.Mask.{Mask}
use Rattle.words.specs.Words.{kind_judge, marked}

-- a part has 28 bits
abbrev pub part_fault : ℕ → ℕ
part_fault p = cond (nat_lt p (2 ^ 28)) 0 10

abbrev pub Small : List ℕ → Type 0
Small parts = (k : ℕ) → slice_index parts k < 2 ^ 28

abbrev pub parts_run : List ℕ → List ℕ
parts_run parts = map (marked 7) parts

-- A mask: four parts.
abbrev pub mask_judges : List (ℕ → ℕ)
mask_judges = replicate 4 (kind_judge 7)

abbrev pub IsMask : Mask → Type 0
IsMask m = (length m.parts ≡ 4) × Small m.parts

abbrev pub mask_faults : Mask → List ℕ
mask_faults m = map part_fault (take 4 m.parts)

abbrev pub mask_run : Mask → List ℕ
mask_run m = parts_run m.parts
