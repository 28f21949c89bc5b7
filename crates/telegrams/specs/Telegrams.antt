-- Telegrams: which there are, the run of words of each, and how words are judged.
use Rattle.std.specs.Prelude.{◌≡◌, ℕ, ◌/◌, ◌%◌, ◌^◌, ◌<◌, ◌≤◌, Bool, cond, ◌&&◌, List, [], ◌∷◌, ◌++◌, length, take, Some, None, Ok, Err, Option, Result, MatchResult, ◌==◌, nat_le, nat_lt}
use Rattle.words.specs.declared.refusal.Refusal.{Refusal}
use Rattle.words.specs.declared.refusal.Refusal.TheVariants.{BadWord}
use Rattle.telegrams.specs.declared.Pair.{Pair}
use Rattle.telegrams.specs.declared.Telegram.{Telegram}
use Rattle.telegrams.specs.declared.HeadKind.{HeadKind}
use Rattle.telegrams.specs.declared.HeadKind.TheVariants as heads
use Rattle.telegrams.specs.declared.TelegramKind.{TelegramKind}
use Rattle.telegrams.specs.declared.TelegramKind.TheVariants.{Query, Told, Set, Took}
use Rattle.words.specs.declared.word.Head.{Head}
use Rattle.words.specs.Judged.{judged, Faulted}
use Rattle.words.specs.Words.{kind_of, kind_judge, marked, head_word}

-- Words in turn. A head has kind 1 to 4, a station from 1 to 32 and a job up to 4,095; all four
-- bits of the cabinet are in use.
abbrev pub within : ℕ → ℕ → ℕ → Bool
within low high x = nat_le low x && nat_le x high

abbrev pub head_judge : ℕ → ℕ
head_judge w = cond (within 1 4 (kind_of w) && within 1 32 (w / 2 ^ 16 % 2 ^ 8) && nat_le (w % 2 ^ 16) 4095) 0 10

-- the fields of a head word, in their ranges
abbrev pub IsHead : Head → Type 0
IsHead h = (1 ≤ h.kind) × (h.kind ≤ 4) × (h.cabinet ≤ 15) × (1 ≤ h.station) × (h.station ≤ 32) × (h.job ≤ 4095)

-- an owner from 0 to 32, all other bits zero
abbrev pub owner_judge : ℕ → ℕ
owner_judge w = cond (kind_of w == 6 && nat_le (w % 2 ^ 28) 32) 0 10

-- a count in the 28 bits of a word of kind 5, then the owner
abbrev pub tag_judges : List (ℕ → ℕ)
tag_judges = kind_judge 5 ∷ owner_judge ∷ []

-- the judges of a telegram's words: a head of kind 2 or 3 is followed by a tag and a value
abbrev pub telegram_judges : List (ℕ → ℕ) → List ℕ → List (ℕ → ℕ)
telegram_judges judges [] = head_judge ∷ []
telegram_judges judges (w ∷ ws) =
    head_judge ∷ cond (within 2 3 (kind_of w)) (tag_judges ++ judges) []

-- fields of a tag to be written
abbrev pub count_fault : ℕ → ℕ
count_fault n = cond (nat_lt n (2 ^ 28)) 0 10

abbrev pub owner_fault : ℕ → ℕ
owner_fault n = cond (nat_le n 32) 0 10

-- the numbers of the kinds of a head
abbrev pub number_of : HeadKind → ℕ
number_of heads.Query = 1
number_of heads.Told = 2
number_of heads.Set = 3
number_of heads.Took = 4

-- the kind with the number, or the refusal of a head with a number that no kind has
abbrev pub Numbered : ℕ → Result HeadKind Refusal → Type 0
Numbered n r = MatchResult r (λ kind. number_of kind ≡ n) (λ e. (e ≡ BadWord 0) × (¬ ((1 ≤ n) × (n ≤ 4))))

module _ {V : Type 0} where
  abbrev pub kind_number : TelegramKind V → ℕ
  kind_number Query = 1
  kind_number (Told pair) = 2
  kind_number (Set pair) = 3
  kind_number Took = 4

  -- the tag and value that told and set carry
  abbrev pub pair_of : TelegramKind V → Option (Pair V)
  pair_of Query = None
  pair_of (Told pair) = Some pair
  pair_of (Set pair) = Some pair
  pair_of Took = None

  abbrev pub pair_run : (V → List ℕ) → Option (Pair V) → List ℕ
  pair_run run None = []
  pair_run run (Some pair) = marked 5 pair.tag.count ∷ marked 6 pair.tag.owner ∷ run pair.value

  abbrev pub head_of : Telegram V → Head
  head_of t = record { kind = kind_number t.kind; cabinet = t.cabinet; station = t.station; job = t.job }

  -- the one run of words of a telegram
  abbrev pub telegram_run : (V → List ℕ) → Telegram V → List ℕ
  telegram_run run t = head_word (head_of t) ∷ pair_run run (pair_of t.kind)

  abbrev pub IsPair : (V → Type 0) → Option (Pair V) → Type 0
  IsPair valid None = Unit {0}
  IsPair valid (Some pair) = (pair.tag.count < 2 ^ 28) × (pair.tag.owner ≤ 32) × valid pair.value

  -- every field lies in its range
  pub record IsTelegram (valid : V → Type 0) (t : Telegram V) : Type 0 where
    pub cabinet : t.cabinet ≤ 15
    pub station : (1 ≤ t.station) × (t.station ≤ 32)
    pub job : t.job ≤ 4095
    pub pair : IsPair valid (pair_of t.kind)

  -- the faults of a telegram to be written, by the places of its words
  abbrev pub head_fault : Telegram V → ℕ
  head_fault t = cond (nat_le t.cabinet 15 && within 1 32 t.station && nat_le t.job 4095) 0 10

  abbrev pub pair_faults : (V → List ℕ) → Option (Pair V) → List ℕ
  pair_faults faults None = []
  pair_faults faults (Some pair) = count_fault pair.tag.count ∷ owner_fault pair.tag.owner ∷ faults pair.value

  abbrev pub telegram_faults : (V → List ℕ) → Telegram V → List ℕ
  telegram_faults faults t = head_fault t ∷ pair_faults faults (pair_of t.kind)

  -- Reading: the words open with the run of the telegram, whose length is told; or the first word at
  -- fault is refused.
  abbrev pub ReadAs : (V → Type 0) → (V → List ℕ) → List (ℕ → ℕ) → List ℕ → Result (Telegram V × ℕ) Refusal → Type 0
  ReadAs valid run judges words (Ok (t, n)) =
      IsTelegram valid t × (n ≡ length (telegram_run run t)) × (take n words ≡ telegram_run run t)
  ReadAs valid run judges words (Err e) = Faulted (judged (telegram_judges judges words) words) e

  -- whatever telegram's run opens the words, that telegram is read
  abbrev pub Exact : (V → Type 0) → (V → List ℕ) → List ℕ → Result (Telegram V × ℕ) Refusal → Type 0
  Exact valid run words r =
      (t : Telegram V) (rest : List ℕ) → IsTelegram valid t → words ≡ telegram_run run t ++ rest → r ≡ Ok (t, length (telegram_run run t))

  -- no two telegrams share a run, and no run opens another's
  abbrev pub OneRun : (V → Type 0) → (V → List ℕ) → Type 0
  OneRun valid run =
      (t u : Telegram V) (x y : List ℕ) → IsTelegram valid t → IsTelegram valid u → telegram_run run t ++ x ≡ telegram_run run u ++ y → t ≡ u
