-- The words of a row of bytes are those of its runs of four.
use Rattle.std.proofs.Common.{◌≡◌, ℕ, ◌+◌, ◌*◌, ◌/◌, List, [], ◌∷◌, length, map, refl, ap, arith, suc, zero, slice_index_or}
use Rattle.std.specs.Simd.{first_chunks}
use Rattle.words.specs.Bytes.{word_list}

-- four bytes as a word
abbrev pub word_of : List ℕ → ℕ
word_of b = slice_index_or b 0 0 * 0x100_0000 + slice_index_or b 1 0 * 0x1_0000 + slice_index_or b 2 0 * 0x100 + slice_index_or b 3 0

pub by_fours : (k : ℕ) (bs : List ℕ) → length bs / 4 ≡ k → map word_of (first_chunks 4 k bs) ≡ word_list bs
by_fours zero [] e = refl
by_fours zero (a ∷ []) e = refl
by_fours zero (a ∷ b ∷ []) e = refl
by_fours zero (a ∷ b ∷ c ∷ []) e = refl
by_fours zero (a ∷ b ∷ c ∷ d ∷ bs) e = absurd (omega arith)
by_fours (suc k) [] e = absurd (omega arith)
by_fours (suc k) (a ∷ []) e = absurd (omega arith)
by_fours (suc k) (a ∷ b ∷ []) e = absurd (omega arith)
by_fours (suc k) (a ∷ b ∷ c ∷ []) e = absurd (omega arith)
by_fours (suc k) (a ∷ b ∷ c ∷ d ∷ bs) e = ap (λ (t : List ℕ). word_of (a ∷ b ∷ c ∷ d ∷ []) ∷ t) (by_fours k bs (omega arith))
