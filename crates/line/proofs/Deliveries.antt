-- A delivery keeps what holds of a line.
use Rattle.std.proofs.Common.{◌≡◌, ℕ, ◌<◌, ◌≤◌, [], ◌∷◌, ◌++◌, length, Some, sym, refl, ap, ◌∙◌, subst, arith}
use Rattle.std.specs.List.{Contains, remove}
use Rattle.std.proofs.lemmas.Option.{same_Some, slice_get_within}
use Rattle.std.proofs.lemmas.List.{get_or-set_same}
use Rattle.words.specs.Tags.{Before, Upto}
use Rattle.words.proofs.TagOrders.{upto_refl}
use Rattle.telegrams.specs.declared.Pair.{Pair}
use Rattle.telegrams.specs.declared.Telegram.{Telegram}
use Rattle.telegrams.specs.declared.TelegramKind.{TelegramKind}
use Rattle.telegrams.specs.declared.TelegramKind.TheVariants.{Told, Set, Took}
use Rattle.quorums.specs.Sets.{Member}
use Rattle.line.specs.declared.types.Hand.{Hand}
use Rattle.line.specs.declared.types.Row.{Row}
use Rattle.line.specs.declared.types.Stage.{Stage}
use Rattle.line.specs.declared.types.Stage.TheVariants.{Querying, Setting, Ended, Spent}
use Rattle.line.specs.Lines.{View, at_stage, ended_row, first_pair, hand_of, hold, last_of, note, replica, reply, send, size, store, to_all, with_bus}
use Rattle.line.proofs.Invariants.{Carries, Earned, Ending, Inv, KindFits, Known, SetFits, StageFits, TookFits}
use Rattle.line.proofs.Moves.{New, begun_note, earned_note, inv_note, inv_store, known_note}
use Rattle.line.proofs.Keeps.{keep, off_and_on, over}
use Rattle.line.proofs.Rows.{contains_made, contains_one, pair_of}

module _ {V : Type 0} (F : ℕ → Type 0) where
  -- a telegram is answered
  replied : (v : View V) (inv : Inv v F) (place : ℕ) (t : Telegram V) → Contains v.bus t → (k : TelegramKind V) → Carries v (reply t k) k
      → ((h : Hand V) → hand_of v t.station ≡ Some h → h.job ≡ t.job → KindFits v (reply t k) k h) → ((p : Pair V) → k ≡ Told p → p ≡ replica v t.cabinet)
      → Inv (with_bus v (remove v.bus place ++ (reply t k ∷ []))) F
  replied v inv place t m k carries fits told =
      let x = inv.bus t m in
      off_and_on F v inv place (reply t k ∷ [])
      (λ u n. subst (New F v inv) (contains_one _ u n) (record { station = x.station; work = x.work; begun = x.begun; carries = carries; fits = fits }, told))

  -- a query, with the replica
  pub keeps_query : (v : View V) (inv : Inv v F) (place : ℕ) (t : Telegram V) → Contains v.bus t
      → Inv (send (with_bus v (remove v.bus place)) (reply t (Told (replica v t.cabinet)) ∷ [])) F
  keeps_query v inv place t m =
      let r = replica v t.cabinet in
      replied v inv place t m (Told r) (inv.replicas t.cabinet, upto_refl r.tag) (λ h e low. tt) (λ p told. cc)

  -- a set is stored if it is later, and acknowledged
  module _ (v : View V) (inv : Inv v F) (place : ℕ) (t : Telegram V) (m : Contains v.bus t) (p : Pair V) (is : t.kind ≡ Set p) where
    set_known : Known v p
    set_known = subst (Carries v t) is (inv.bus t m).carries

    took_fits : (w : View V) → Upto p.tag (replica w t.cabinet).tag → (st : Stage V) → SetFits v st p → TookFits w t.cabinet st
    took_fits w up Querying x = x
    took_fits w up (Setting u strikes took) x = subst (λ (z : Pair V). Upto z.tag (replica w t.cabinet).tag) (sym x) up
    took_fits w up (Ended u trips strikes) x = tt
    took_fits w up Spent x = tt

    set_fits : (h : Hand V) → hand_of v t.station ≡ Some h → h.job ≡ t.job → SetFits v h.stage p
    set_fits h e low = subst (λ (k : TelegramKind V). KindFits v t k h) is ((inv.bus t m).fits h e low)

    pub keeps_stored : Before (replica v t.cabinet).tag p.tag → t.cabinet < size v
        → Inv (send (store (with_bus v (remove v.bus place)) t.cabinet p) (reply t Took ∷ [])) F
    keeps_stored later within =
        let w = store v t.cabinet p in
        let at : replica w t.cabinet ≡ p = get_or-set_same v.replicas t.cabinet p (first_pair v) within in
        let up : Upto p.tag (replica w t.cabinet).tag = subst (λ (z : Pair V). Upto p.tag z.tag) (sym at) (upto_refl p.tag) in
        replied w (inv_store F v inv t.cabinet p later set_known) place t m Took tt (λ h e low. took_fits w up h.stage (set_fits h e low)) (λ q told. cc)

    pub keeps_passed : Upto p.tag (replica v t.cabinet).tag → Inv (send (with_bus v (remove v.bus place)) (reply t Took ∷ [])) F
    keeps_passed up = replied v inv place t m Took tt (λ h e low. took_fits v up h.stage (set_fits h e low)) (λ q told. cc)

  -- sets of a job that is setting
  pub keeps_sets : (v : View V) (inv : Inv v F) (place s : ℕ) → 1 ≤ s → (h : Hand V) (p : Pair V) (a b : ℕ) → hand_of v s ≡ Some h → h.stage ≡ Setting p a b
      → Inv (with_bus v (remove v.bus place ++ to_all v s h.job (Set p))) F
  keeps_sets v inv place s one h p a b e stage =
      let known : Known v p = (subst (λ (st : Stage V). StageFits v s h st) stage (inv.hands s h one e).1).0 in
      off_and_on F v inv place (to_all v s h.job (Set p))
      (λ t n.
      let sent = contains_made (λ c. record { cabinet = c; station = s; job = h.job; kind = Set p }) (size v) t n in
      subst (New F v inv) sent.1 (
        record {
          station = one;
          work = h.work;
          begun = (inv.hands s h one e).0;
          carries = known;
          fits = λ k eq low. subst (λ (st : Stage V). SetFits v st p) (sym (ap (λ (z : Hand V). z.stage) (sym (same_Some h k (sym e ∙ eq))) ∙ stage)) refl;
        },
        λ u told. cc,
      ))

  -- no job began after the newest row
  newest_bus : {A : Type 0} (v : View V) → Inv v F → (t : Telegram V) → Contains v.bus t → length v.journal < t.job → A
  newest_bus v inv t m l = absurd (omega (arith, slice_get_within v.journal t.job _ (inv.bus t m).begun))

  newest_hand : {A : Type 0} (v : View V) → Inv v F → (s : ℕ) (h : Hand V) → 1 ≤ s → hand_of v s ≡ Some h → length v.journal < h.job → A
  newest_hand v inv s h one e l = absurd (omega (arith, slice_get_within v.journal h.job _ (inv.hands s h one e).0))

  -- a job ends: row and stage
  module _ (v : View V) (inv : Inv v F) (s : ℕ) (one : 1 ≤ s) (in_line : s ≤ length v.stations) (h : Hand V) (e : hand_of v s ≡ Some h) (p : Pair V)
      (trips strikes : ℕ)
      (known : Known v p) (earned : Earned v s h.job h.work p) (q : ℕ) (fq : F q) (stored : (c : ℕ) → Member c q → Upto p.tag (replica v c).tag) where
    pub keeps_end : Inv (note (hold v s (at_stage h (Ended p trips strikes))) (ended_row s h.job p trips strikes)) F
    keeps_end =
        let g = at_stage h (Ended p trips strikes) in
        let w = hold v s g in
        let row = ended_row s h.job p trips strikes in
        let x = note w row in
        let held = keep F v inv s one in_line h e (last_of v s) (omega arith) g refl refl refl tt (λ t m k. over v t t.kind h g p trips strikes refl k) in
        let job_below = slice_get_within v.journal h.job _ (inv.hands s h one e).0 in
        let fits : Ending x F (length v.journal) s h.job p =
        record {
          fits = record {
            work = h.work;
            begun = begun_note F w held row s h.job h.work (inv.hands s h one e).0;
            known = known_note F w held row p known;
            earned = earned_note F w held row s h.job h.work p job_below earned;
            quorum = q;
            is_quorum = fq;
          };
          guards = λ c mem. record {
            stored = stored c mem;
            under_way = λ t u a told at l. newest_bus w held t a l;
            kept = λ r k u l eq a low. newest_hand w held r k l eq low;
          };
        } in
        inv_note F w held row
        (λ r j u eq. cc (ap (λ (z : Row V). z.kind) eq))
        (λ r j u a b eq.
        let P : Row V → Type 0 = λ z. Ending x F (length v.journal) z.station z.job (pair_of z) in
        subst P eq fits)
