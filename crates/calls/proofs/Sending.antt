-- Telegrams that join the bus one after the other.
use Rattle.std.proofs.Common.{◌≡◌, ℕ, ◌+◌, ◌<◌, ◌≤◌, List, [], ◌∷◌, ◌++◌, map, length, sym, ap, ◌∙◌, inl, inr, arith}
use Rattle.std.specs.List.{remove, range_with_len}
use Rattle.std.proofs.lemmas.List.FromFn.{length-map-range_with_len, map-range_with_len_more}
use Rattle.std.proofs.lemmas.List.Edits.{length-remove}
use Rattle.std.proofs.lemmas.List.{append_assoc, length-append, length-take-le}
use Rattle.telegrams.specs.declared.Pair.{Pair}
use Rattle.telegrams.specs.declared.Telegram.{Telegram}
use Rattle.line.specs.declared.types.Memory.{Memory}
use Rattle.line.specs.declared.types.Row.{Row}
use Rattle.line.specs.Lines.{View, send, with_bus}
use Rattle.line.specs.Seen.{seen}
use Rattle.line.specs.Steps.{Stored}
use Rattle.calls.specs.Changes.{Becomes, Ends}

module _ {V : Type 0} where
  pub bus_length : (m : Memory V) → m.sent ≤ length m.bus.now → length (seen m).bus ≡ m.sent
  bus_length m within = length-take-le m.sent m.bus.now within

  -- one more telegram, for the next cabinet
  pub send_more : (v w x : View V) (f : ℕ → Telegram V) (k : ℕ) → w ≡ send v (map f (range_with_len 0 k)) → x ≡ send w (f k ∷ []) → x ≡ send v (map f (range_with_len 0 (k + 1)))
  send_more v w x f k before after =
      after ∙ ap (λ (z : View V). send z (f k ∷ [])) before
      ∙ ap (with_bus v) (append_assoc v.bus (map f (range_with_len 0 k)) (f k ∷ []) ∙ ap (λ (ts : List (Telegram V)). v.bus ++ ts) (sym (map-range_with_len_more f 0 k k (omega arith))))

  -- how many are on the bus after k
  pub sent_so_far : (m0 m : Memory V) (f : ℕ → Telegram V) (k : ℕ) → m0.sent ≤ length m0.bus.now → m.sent ≤ length m.bus.now → seen m ≡ send (seen m0) (map f (range_with_len 0 k)) → (m.sent ≡ m0.sent + k) × (length m.bus.now ≡ length m0.bus.now)
  sent_so_far m0 m f k within0 within is =
      let all = ap (λ (v : View V). length v.bus) is ∙ length-append (seen m0).bus (map f (range_with_len 0 k)) in
      (omega (arith, bus_length m0 within0, bus_length m within, length-map-range_with_len f 0 k), ap (λ (v : View V). v.bus_places) is)

  -- where no telegram came or went
  pub bus_kept : (m a : Memory V) → m.sent ≤ length m.bus.now → a.sent ≤ length a.bus.now → (seen a).bus ≡ (seen m).bus → a.sent ≡ m.sent
  bus_kept m a within after is = sym (bus_length a after) ∙ ap (λ (ts : List (Telegram V)). length ts) is ∙ bus_length m within

  -- after one telegram was taken off there is room for one
  pub place_freed : (m a : Memory V) (place : ℕ) → Ends m → Ends a → place < m.sent → (seen a).bus ≡ remove (seen m).bus place → length a.bus.now ≡ length m.bus.now → (a.sent + 1 ≡ m.sent) × (a.sent < length a.bus.now)
  place_freed m a place ends after l bus wide =
      let less : length (seen a).bus + 1 ≡ length (seen m).bus = ap (λ (ts : List (Telegram V)). length ts + 1) bus ∙ length-remove (seen m).bus place (omega (arith, bus_length m ends.0)) in
      let one : a.sent + 1 ≡ m.sent = omega (arith, bus_length m ends.0, bus_length a after.0) in
      (one, omega (arith, ends.0))

  -- storing leaves the bus as it is
  pub stored_bus : (v w : View V) (c : ℕ) (p : Pair V) → Stored v c p w → (w.bus ≡ v.bus) × (w.bus_places ≡ v.bus_places)
  stored_bus v w c p (inl later) = (ap (λ (z : View V). z.bus) later.1, ap (λ (z : View V). z.bus_places) later.1)
  stored_bus v w c p (inr passed) = (ap (λ (z : View V). z.bus) passed.1, ap (λ (z : View V). z.bus_places) passed.1)

  -- whatever lies on the bus, the same is stored
  pub stored_off : (v w : View V) (c : ℕ) (p : Pair V) → Stored v c p w → (bus : List (Telegram V)) → Stored (with_bus v bus) c p (with_bus w bus)
  stored_off v w c p (inl later) bus = inl (later.0, ap (λ (z : View V). with_bus z bus) later.1)
  stored_off v w c p (inr passed) bus = inr (passed.0, ap (λ (z : View V). with_bus z bus) passed.1)

  -- where a step left journal or bus alone, as many rows or places are free after it
  module _ (m a : Memory V) (v : View V) (ends : Ends m) (becomes : Becomes m v a) where
    pub same_rows : v.journal ≡ (seen m).journal → v.journal_places ≡ (seen m).journal_places → (a.written ≡ m.written) × (length a.journal.now ≡ length m.journal.now)
    same_rows rows long =
        let is = ap (λ (z : View V). length z.journal) becomes.0 ∙ ap (λ (xs : List (Row V)). length xs) rows in (
          sym (length-take-le a.written a.journal.now becomes.1.7) ∙ is ∙ length-take-le m.written m.journal.now ends.1,
          ap (λ (z : View V). z.journal_places) becomes.0 ∙ long,
        )

    pub places_free : v.bus ≡ (seen m).bus → v.bus_places ≡ (seen m).bus_places → length v.replicas ≡ length (seen m).replicas → (length m.replicas.now ≤ 16) × (m.sent + length m.replicas.now ≤ length m.bus.now) → (length a.replicas.now ≤ 16) × (a.sent + length a.replicas.now ≤ length a.bus.now)
    places_free bus wide many places =
        let sent = bus_kept m a ends.0 becomes.1.5 (ap (λ (z : View V). z.bus) becomes.0 ∙ bus) in
        let room : length a.bus.now ≡ length m.bus.now = ap (λ (z : View V). z.bus_places) becomes.0 ∙ wide in
        let all : length a.replicas.now ≡ length m.replicas.now = ap (λ (z : View V). length z.replicas) becomes.0 ∙ many in
        (omega (arith, places.0), omega (arith, places.1))
