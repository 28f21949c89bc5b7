-- A word of 32 bits: its kind in the top four, and the fields of a head word.
use Rattle.std.specs.Prelude.{ℕ, ◌+◌, ◌*◌, ◌/◌, ◌^◌, cond, ◌==◌}
use Rattle.words.specs.declared.word.Head.{Head}

-- the kind of a word
abbrev pub kind_of : ℕ → ℕ
kind_of w = w / 2 ^ 28

-- a word of a kind with its other 28 bits
abbrev pub marked : ℕ → ℕ → ℕ
marked kind bits = kind * 2 ^ 28 + bits

-- a word of another kind is a bad word
abbrev pub kind_judge : ℕ → ℕ → ℕ
kind_judge kind w = cond (kind_of w == kind) 0 10

-- the word of a head: kind in bits 31-28, cabinet in 27-24, station in 23-16, job in 15-0
abbrev pub head_word : Head → ℕ
head_word h = marked h.kind (h.cabinet * 2 ^ 24 + h.station * 2 ^ 16 + h.job)
