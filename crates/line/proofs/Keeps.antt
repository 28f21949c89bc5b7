-- Every call keeps what holds of a line.
use Rattle.std.proofs.Common.{◌≡◌, ℕ, ◌<◌, ◌≤◌, false, List, ◌++◌, length, Some, None, sym, refl, ap, ◌∙◌, subst, inl, inr, ⊎_elim, arith}
use Rattle.std.specs.List.{Contains, remove}
use Rattle.std.proofs.lemmas.List.Elements.{Contains-append_cases}
use Rattle.std.proofs.lemmas.Option.{slice_get_within}
use Rattle.std.proofs.lemmas.Nat.{pow_pos}
use Rattle.telegrams.specs.declared.Pair.{Pair}
use Rattle.telegrams.specs.declared.Telegram.{Telegram}
use Rattle.telegrams.specs.declared.TelegramKind.{TelegramKind}
use Rattle.telegrams.specs.declared.TelegramKind.TheVariants.{Query, Told, Set, Took}
use Rattle.quorums.specs.Sets.{Member}
use Rattle.quorums.specs.Members.{bit_high}
use Rattle.line.specs.declared.types.Hand.{Hand}
use Rattle.line.specs.declared.types.Stage.{Stage}
use Rattle.line.specs.declared.types.Stage.TheVariants.{Querying, Setting, Ended}
use Rattle.line.specs.declared.types.Work.{Work}
use Rattle.line.specs.Lines.{View, begin_row, change, hand_of, last_of, note, size, to_all, with_bus}
use Rattle.line.specs.Steps.{begun}
use Rattle.line.proofs.Invariants.{Begun, Inv, KindFits, SetFits, StageFits, TookFits}
pub use Rattle.line.proofs.Moves.{put_here, put_other}
use Rattle.line.proofs.Moves.{New, inv_bus, inv_change, inv_note, nth_last}
use Rattle.line.proofs.Rows.{contains_made, contains_removed, not_begun}

pub no_member : {A : Type 0} (k : ℕ) → Member k 0 → A
no_member k m = absurd (omega (arith, bit_high k 0 (pow_pos k)))

module _ {V : Type 0} (v : View V) where
  -- sets and tooks that fit a job at one stage fit it at another
  abbrev Stays : Stage V → Stage V → Type 0
  Stays a b = ((p : Pair V) → SetFits v a p → SetFits v b p) × ((c : ℕ) → TookFits v c a → TookFits v c b)

  stays : (t : Telegram V) (k : TelegramKind V) (h g : Hand V) → Stays h.stage g.stage → KindFits v t k h → KindFits v t k g
  stays t Query h g s x = tt
  stays t (Told p) h g s x = tt
  stays t (Set p) h g s x = s.0 p x
  stays t Took h g s x = s.1 t.cabinet x

  -- of a job that is still querying there are none
  pub querying : (t : Telegram V) (k : TelegramKind V) (h g : Hand V) → h.stage ≡ Querying → KindFits v t k h → KindFits v t k g
  querying t k h g e = stays t k h g (subst (λ (a : Stage V). Stays a g.stage) (sym e) ((λ p x. absurd x), (λ c x. absurd x)))

  pub like : (t : Telegram V) (k : TelegramKind V) (h g : Hand V) → h.stage ≡ g.stage → KindFits v t k h → KindFits v t k g
  like t k h g e = stays t k h g (subst (Stays h.stage) e ((λ p x. x), (λ c x. x)))

  pub setting : (t : Telegram V) (k : TelegramKind V) (h g : Hand V) (p : Pair V) (a b a2 b2 : ℕ) → h.stage ≡ Setting p a b → g.stage ≡ Setting p a2 b2
      → KindFits v t k h → KindFits v t k g
  setting t k h g p a b a2 b2 e f =
      stays t k h g (subst (λ (z : Stage V). Stays z g.stage) (sym e) (subst (Stays (Setting p a b)) (sym f) ((λ u x. x), (λ c x. x))))

  pub over : (t : Telegram V) (k : TelegramKind V) (h g : Hand V) (p : Pair V) (a b : ℕ) → g.stage ≡ Ended p a b → KindFits v t k h → KindFits v t k g
  over t k h g p a b e = stays t k h g (subst (Stays h.stage) (sym e) ((λ u x. tt), (λ c x. tt)))

module _ {V : Type 0} (F : ℕ → Type 0) where
  -- the job in hand goes on: the same job, with what was told it
  module _ (v : View V) (inv : Inv v F) (s : ℕ) (one : 1 ≤ s) (in_line : s ≤ length v.stations) (h : Hand V) (e : hand_of v s ≡ Some h) where
    pub keep : (last : ℕ) → last_of v s ≤ last → (g : Hand V) → g.job ≡ h.job → g.work ≡ h.work → g.told ≡ h.told → StageFits v s g g.stage
        → ((t : Telegram V) → Contains v.bus t → KindFits v t t.kind h → KindFits v t t.kind g) → Inv (change v s last (Some g) (v.answers s)) F
    keep last l g job work same_told stage fits =
        inv_change F v inv s one in_line last (Some g) (v.answers s) (record {
          rises = l;
          begun = (subst (λ (j : ℕ). Begun v s j g.work) (sym job) (subst (Begun v s h.job) (sym work) (inv.hands s h one e).0), stage);
          fits = λ t m at low. fits t m ((inv.bus t m).fits h (ap (hand_of v) at ∙ e) (sym job ∙ low));
          tells = λ c m. inv.told s h one e c (subst (Member c) same_told m);
          told = λ c p a. inv.answers s c p one a;
          guarded = λ i c p guard u a low. guard.kept s h u one e a (subst (λ (j : ℕ). i < j) job low);
        })

    -- the station is freed
    pub free : Inv (change v s (last_of v s) None (λ c. None)) F
    free =
        inv_change F v inv s one in_line (last_of v s) None (λ c. None)
        (record { rises = omega arith; begun = tt; fits = tt; tells = tt; told = λ c p a. cc; guarded = tt })

  -- telegrams leave the bus, or join it again
  pub off : (v : View V) → Inv v F → (place : ℕ) → Inv (with_bus v (remove v.bus place)) F
  off v inv place = inv_bus F v inv (remove v.bus place) (λ t m. inl (contains_removed v.bus place t m))

  pub off_and_on : (v : View V) (inv : Inv v F) (place : ℕ) (ts : List (Telegram V)) → ((t : Telegram V) → Contains ts t → New F v inv t)
      → Inv (with_bus v (remove v.bus place ++ ts)) F
  off_and_on v inv place ts new =
      inv_bus F v inv (remove v.bus place ++ ts)
      (λ t m. ⊎_elim (λ o. inl (contains_removed v.bus place t o)) (λ n. inr (new t n)) (Contains-append_cases (remove v.bus place) ts t m))

  -- a job begins
  module _ (v : View V) (inv : Inv v F) (s : ℕ) (one : 1 ≤ s) (in_line : s ≤ length v.stations) (work : Work V) where
    pub keeps_begin : Inv (begun v s work) F
    keeps_begin =
        let job = length v.journal in
        let row = begin_row v s job work in
        let w = note v row in
        let hand : Hand V = record { job = job; work = work; told = 0; stage = Querying; shelved = false } in
        let noted = inv_note F v inv row (λ r j p e. not_begun v s job work _ e refl) (λ r j p a b e. not_begun v s job work _ e refl) in
        let changed =
        inv_change F w noted s one in_line (last_of v s) (Some hand) (λ c. None) (record {
          rises = omega arith;
          begun = (nth_last v.journal row, tt);
          fits = λ t m at low. absurd (omega (arith, slice_get_within v.journal t.job _ (inv.bus t m).begun, low));
          tells = λ c m. no_member c m;
          told = λ c p a. cc;
          guarded = λ i c p guard u a low. cc;
        }) in
        let x = change w s (last_of v s) (Some hand) (λ c. None) in
        inv_bus F x changed (v.bus ++ to_all v s job Query)
        (λ t m.
        ⊎_elim inl
        (λ n.
        let sent = contains_made (λ c. record { cabinet = c; station = s; job = job; kind = Query }) (size v) t n in
        inr (subst (New F x changed) sent.1 (
          record { station = one; work = work; begun = nth_last v.journal row; carries = tt; fits = λ h eq low. tt },
          λ u told. cc,
        )))
        (Contains-append_cases v.bus (to_all v s job Query) t m))
