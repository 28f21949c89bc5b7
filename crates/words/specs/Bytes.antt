-- Words in bytes, most significant first.
use Rattle.std.specs.Prelude.{ℕ, ◌+◌, ◌*◌, List, [], ◌∷◌}

-- the whole words; one to three bytes left over are no word
abbrev pub word_list : List ℕ → List ℕ
word_list [] = []
word_list (a ∷ []) = []
word_list (a ∷ b ∷ []) = []
word_list (a ∷ b ∷ c ∷ []) = []
word_list (a ∷ b ∷ c ∷ d ∷ bytes) = (a * 0x100_0000 + b * 0x1_0000 + c * 0x100 + d) ∷ word_list bytes
