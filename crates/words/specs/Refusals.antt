-- The number of each refusal, and the values that it carries.
use Rattle.std.specs.Prelude.{ℕ, ◌+◌, ◌-◌, ◌^◌, min, List, [], ◌∷◌}
use Rattle.words.specs.declared.refusal.Refusal.{Refusal}
use Rattle.words.specs.declared.refusal.Refusal.TheVariants.{BadPlan, LooseCrews, NoStation, HandsFull, BusFull, BookFull, NoTelegram, NotOver, StrangeTicket, BadWord, BadValue, BadTape, ShortStrip}

abbrev pub number : Refusal → ℕ
number BadPlan = 1
number LooseCrews = 2
number NoStation = 3
number HandsFull = 4
number BusFull = 5
number BookFull = 6
number NoTelegram = 7
number NotOver = 8
number StrangeTicket = 9
number (BadWord place) = 10
number (BadValue place) = 11
number (BadTape inner place) = 12
number ShortStrip = 13

-- places, and in a bad tape first the number inside
abbrev pub carried : Refusal → List ℕ
carried BadPlan = []
carried LooseCrews = []
carried NoStation = []
carried HandsFull = []
carried BusFull = []
carried BookFull = []
carried NoTelegram = []
carried NotOver = []
carried StrangeTicket = []
carried (BadWord place) = place ∷ []
carried (BadValue place) = place ∷ []
carried (BadTape inner place) = inner ∷ place ∷ []
carried ShortStrip = []

-- the refusal as counted from `by` words further back; a place stops at the greatest number of 64 bits
abbrev pub shifted : ℕ → Refusal → Refusal
shifted by BadPlan = BadPlan
shifted by LooseCrews = LooseCrews
shifted by NoStation = NoStation
shifted by HandsFull = HandsFull
shifted by BusFull = BusFull
shifted by BookFull = BookFull
shifted by NoTelegram = NoTelegram
shifted by NotOver = NotOver
shifted by StrangeTicket = StrangeTicket
shifted by (BadWord place) = BadWord (min (place + by) (2 ^ 64 - 1))
shifted by (BadValue place) = BadValue (min (place + by) (2 ^ 64 - 1))
shifted by (BadTape inner place) = BadTape inner place
shifted by ShortStrip = ShortStrip
