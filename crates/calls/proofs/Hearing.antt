-- What a station has to know of sound memory when a telling that counts comes.
use Rattle.std.proofs.Common.{◌≡◌, ℕ, ◌+◌, ◌-◌, ◌*◌, ◌/◌, ◌%◌, ◌^◌, ◌<◌, ◌≤◌, eqb, ltb, List, map, length, Some, None, Ok, Err, Option, true, sym, refl, ap, ◌∙◌, subst, inr, ⊎_elim, arith}
use lib.Bits.{bit_or}
use Rattle.std.specs.List.{slice_get, range_with_len}
use Rattle.std.proofs.lemmas.List.Edits.{length-remove}
use Rattle.std.proofs.lemmas.List.{get_or-set_same}
use Rattle.std.proofs.lemmas.Option.{slice_get_within}
use Rattle.std.proofs.lemmas.Bool.{cases_eq, cond-true, eq-eqb, lt-ltb}
use Rattle.words.specs.declared.refusal.Refusal.TheVariants.{BusFull}
use Rattle.telegrams.specs.declared.Pair.{Pair}
use Rattle.telegrams.specs.declared.Telegram.{Telegram}
use Rattle.quorums.specs.Sets.{Member, Picked}
use Rattle.quorums.specs.Members.{with_cases}
use Rattle.line.specs.declared.types.Delivered.{Delivered}
use Rattle.line.specs.declared.types.Hand.{Hand}
use Rattle.line.specs.declared.types.Memory.{Memory}
use Rattle.line.specs.declared.types.Stage.TheVariants.{Querying}
use Rattle.line.specs.declared.types.Station.{Station}
use Rattle.line.specs.declared.types.Work.{Work}
use Rattle.line.specs.declared.types.Work.TheVariants.{Read, Write}
use Rattle.line.specs.Lines.{IsStation, View, hand_of, idle, last_of, owed_by, put, size}
use Rattle.line.specs.Seen.{live_in_line, seen}
use Rattle.line.specs.Memories.{Sound}
use Rattle.line.specs.Steps.{AtHand, Chosen, Fits}
use Rattle.line.proofs.Keeps.{put_here, put_other}
use Rattle.calls.specs.Changes.{Becomes, HasAnswers, OnBus, Placed, off, told_list}
use Rattle.calls.specs.Choices.{AllTold, Chooses, answer_of, chosen_line, sends}
use Rattle.calls.specs.declared.choice.Choice.{Choice}
use Rattle.calls.specs.declared.effect.Effect.TheVariants as effect
use Rattle.calls.specs.Effects.{CountsNow}
use Rattle.calls.proofs.Arriving.{told_arrives, told_line}
use Rattle.calls.proofs.Chosen.{chosen, full, nth_counted}
use Rattle.calls.proofs.Live.{own_answers}
use Rattle.calls.proofs.Outcomes.{rows_left, sent_is, sound_ends}
use Rattle.calls.proofs.Sending.{bus_length, same_rows}
use Rattle.calls.proofs.Told.{within_answers}
use Rattle.calls.proofs.Views.{some_place}

querying_owes : {V : Type 0} (work : Work V) → 1 ≤ owed_by work Querying
querying_owes (Write x) = omega arith
querying_owes Read = omega arith

pub place_below : {V : Type 0} (n : ℕ) (few : n ≤ 16) (m : Memory V) (sound : Sound n m) (t : Telegram V) (fits : Fits (seen m) t) (place : ℕ) → slice_get (seen m).bus place ≡ Some t → place < m.sent
place_below n few m sound t fits place on = omega (arith, slice_get_within (seen m).bus place t on, sent_is n m sound)

-- a telling that counts, on sound memory: `hand` is the job after it
pub record Heard {V : Type 0} (n : ℕ) (m : Memory V) (place : ℕ) (t : Telegram V) (hand : Hand V) (pair : Pair V) : Type 0 where
  pub few : n ≤ 16
  pub sound : Sound n m
  pub on : slice_get (seen m).bus place ≡ Some t
  pub fits : Fits (seen m) t
  pub counts : CountsNow (seen m) t hand (effect.Told pair)

module _ {V : Type 0} {n : ℕ} {m : Memory V} {place : ℕ} {t : Telegram V} {hand : Hand V} {pair : Pair V} (x : Heard n m place t hand pair) where
  abbrev s : ℕ
  s = t.station

  abbrev v : View V
  v = seen m

  abbrev h : Hand V
  h = x.counts.0

  wide : length m.answers.now ≡ length m.replicas.now * length m.stations.now
  wide = x.sound.0.4 ∙ ap (λ (k : ℕ). k * length m.stations.now) (sym x.sound.0.1)

  pub may_read : Placed m t
  may_read = (x.fits, x.sound.0.3, omega (arith, x.few, x.sound.0.1), wide)

  pub now_told : hand.told ≡ bit_or h.told (2 ^ t.cabinet)
  now_told = ap (λ (k : Hand V). k.told) x.counts.3.3

  -- what keeping it asks
  pub line_there : OnBus m place × IsStation v s
  line_there = ((sound_ends n m x.sound, place_below n x.few m x.sound t x.fits place x.on), x.fits.1)

  pub wide_there : HasAnswers m t.cabinet
  wide_there = (x.fits.0, may_read.2, wide)

  pub told_there : (k : Hand V) × (hand_of v s ≡ Some k) × (hand.told ≡ bit_or k.told (2 ^ t.cabinet))
  told_there = (h, x.counts.1, now_told)

  bus_less : length (off v place).bus + 1 ≡ m.sent
  bus_less = length-remove v.bus place (slice_get_within v.bus place t x.on) ∙ sent_is n m x.sound

  -- a cabinet that told the job before has an answer
  told_before : (k : ℕ) → k < size v → Member k h.told → (p : Pair V) × (v.answers s k ≡ Some p)
  told_before k below member =
      let row : s - 1 < length m.stations.now = omega (arith, x.fits.1.0, x.fits.1.1) in
      let y = some_place m.answers.now ((s - 1) * size v + k) (within_answers (size v) (length m.stations.now) (s - 1) k (length m.answers.now) row below wide) in (
        y.0,
        own_answers m.stations.now (size v) m.answers.now s k x.fits.1.0
            ∙ ap (live_in_line (size v) m.answers.now s k) x.counts.1
            ∙ cond-true (ltb k (size v)) _ None (lt-ltb k (size v) below)
            ∙ cond-true (eqb (h.told / 2 ^ k % 2) 1) _ None (eq-eqb (h.told / 2 ^ k % 2) 1 member) ∙ y.1,
      )

  abbrev w : View V
  w = told_line (off v place) t hand pair

  -- the line with the telling: its answers and the station's own last count
  own_told : w.answers s ≡ put (v.answers s) t.cabinet (Some pair)
  own_told = put_here v.answers s (put (v.answers s) t.cabinet (Some pair))

  own_last : last_of w s ≡ last_of v s
  own_last = ap (λ (st : Station V). st.last) (get_or-set_same v.stations (s - 1) (record { last = last_of v s; hand = Some hand }) idle (omega (arith, x.fits.1.0, x.fits.1.1)))

  -- after the telling is kept
  module _ (a : Memory V) (becomes : Becomes m w a) where
    pub after_row : a.written < length a.journal.now
    after_row =
        let same = same_rows m a w (sound_ends n m x.sound) becomes refl refl in
        let owes : owed_by h.work h.stage ≡ owed_by h.work Querying = ap (owed_by h.work) x.counts.3.0 in
        omega (arith, same.0, same.1, rows_left n m s h x.sound x.fits.1 x.counts.1, querying_owes h.work)

    pub after_places : size v ≤ length m.bus.now - m.sent + 1 → (length a.replicas.now ≤ 16) × (a.sent + length a.replicas.now ≤ length a.bus.now)
    after_places l =
        let all : length a.replicas.now ≡ size v = ap (λ (y : View V). length y.replicas) becomes.0 in
        let bus : length a.bus.now ≡ length m.bus.now = ap (λ (y : View V). y.bus_places) becomes.0 in
        let sent : a.sent + 1 ≡ m.sent = ap (λ (k : ℕ). k + 1) (sym (bus_length a becomes.1.5) ∙ ap (λ (y : View V). length y.bus) becomes.0) ∙ bus_less in
        (omega (arith, x.few, x.sound.0.1), omega (arith, x.sound.1))

  -- with the quorum that is picked from the cabinets that told
  module _ (F : ℕ → Type 0) (q : ℕ) (picked : Picked F hand.told (Some q)) (inside : (k : ℕ) → Member k q → k < n) where
    below : (k : ℕ) → Member k q → k < size v
    below k member = omega (arith, inside k member, x.sound.0.1)

    -- each member has an answer
    pub all_told : (told : List (Option (Pair V))) → told ≡ told_list v t pair → AllTold told q
    all_told told listed = subst (λ (xs : List (Option (Pair V))). AllTold xs q) (sym listed) (λ k member.
        let f = put (v.answers s) t.cabinet (Some pair) in
        let here = nth_counted f (size v) k (below k member) in
        ⊎_elim
        (λ same. (pair, here ∙ ap Some (ap f same ∙ put_here (v.answers s) t.cabinet (Some pair))))
        (λ other.
        let before = ⊎_elim (λ old. old) (λ e. absurd (other e)) (with_cases h.told t.cabinet k (subst (Member k) now_told (picked.1 k member))) in
        let y = told_before k (below k member) before in
        (y.0, here ∙ ap Some (put_other (v.answers s) t.cabinet (Some pair) k other ∙ y.1)))
        (cases_eq k t.cabinet))

    module _ (choice : Choice V) (told : List (Option (Pair V))) (last : ℕ) (listed : told ≡ told_list v t pair) (own : last ≡ last_of v s) (chose : Chooses told q F s last hand.work choice) where
      pub chooses : Chooses (map (w.answers s) (range_with_len 0 (size w))) q F s (last_of w s) hand.work choice
      chooses =
          subst (λ (l : ℕ). Chooses (map (w.answers s) (range_with_len 0 (size w))) q F s l hand.work choice) (own ∙ sym own_last)
          (subst (λ (f : ℕ → Option (Pair V)). Chooses (map f (range_with_len 0 (size v))) q F s last hand.work choice) (sym own_told)
          (subst (λ (xs : List (Option (Pair V))). Chooses xs q F s last hand.work choice) listed chose))

      -- the choice is carried out
      pub goes_on : (sends choice ≡ true → size v ≤ length m.bus.now - m.sent + 1) → (r : Delivered) (after : View V) → r ≡ answer_of choice → after ≡ chosen_line w s hand choice → AtHand F v (off v place) t (hand_of v s) (Ok r) after
      goes_on room r after answers is =
          let done = chosen F v (off v place) t w hand q below hand.work choice chooses (λ sent. omega (arith, bus_less, room sent, x.sound.1)) in
          told_arrives F v (off v place) t hand after pair (Ok r) x.counts (inr (
            q,
            picked,
            subst (λ (d : Delivered). Chosen F v (off v place) t w hand q hand.work (Ok d) after) (sym answers)
                (subst (λ (y : View V). Chosen F v (off v place) t w hand q hand.work (Ok (answer_of choice)) y) (sym is) done),
          ))

      -- the bus has no room for it
      pub held_up : sends choice ≡ true → length m.bus.now - m.sent + 1 < size v → AtHand F v (off v place) t (hand_of v s) (Err BusFull) v
      held_up sent tight =
          told_arrives F v (off v place) t hand v pair (Err BusFull) x.counts
          (inr (q, picked, full F v (off v place) t w hand q below hand.work choice chooses sent (λ room. omega (arith, bus_less, room, x.sound.1))))
