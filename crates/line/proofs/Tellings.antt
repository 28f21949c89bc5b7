-- A telling at a station keeps what holds of a line: kept, tagged, spent, judged.
use Rattle.std.proofs.Common.{◌≡◌, ℕ, ◌+◌, ◌^◌, ◌<◌, ◌≤◌, length, Some, Option, sym, refl, ap, ◌∙◌, subst, inr, ⊎_elim, arith}
use lib.Bits.{bit_or}
use Rattle.std.specs.List.{Contains}
use Rattle.std.proofs.lemmas.Option.{same_Some, slice_get_within}
use Rattle.std.proofs.lemmas.Bool.{cases_eq}
use Rattle.words.specs.declared.tag.Tag.{Tag}
use Rattle.words.specs.Tags.{Upto}
use Rattle.words.proofs.TagOrders.{tag_order}
use Rattle.telegrams.specs.declared.Pair.{Pair}
use Rattle.telegrams.specs.declared.Telegram.{Telegram}
use Rattle.telegrams.specs.declared.TelegramKind.{TelegramKind}
use Rattle.telegrams.specs.declared.TelegramKind.TheVariants.{Told, Took}
use Rattle.quorums.specs.Sets.{Inside, Member}
use Rattle.quorums.specs.Members.{below, with_cases}
use Rattle.views.specs.Views.{Judged}
use Rattle.views.proofs.Laws.{lawful}
use Rattle.views.specs.declared.Verdict.TheVariants.{OneTrip, SecondTrip}
use Rattle.line.specs.declared.types.Hand.{Hand}
use Rattle.line.specs.declared.types.Row.{Row}
use Rattle.line.specs.declared.types.Stage.{Stage}
use Rattle.line.specs.declared.types.Stage.TheVariants.{Querying, Setting, Ended, Spent}
use Rattle.line.specs.declared.types.Station.{Station}
use Rattle.line.specs.declared.types.Work.{Work}
use Rattle.line.specs.declared.types.Work.TheVariants.{Write, Read}
use Rattle.line.specs.Runs.{Laws}
use Rattle.line.specs.Lines.{View, at_stage, change, ended_row, hand_of, hold, last_of, note, put, replica, size, spent_row, tagged_row, told_tags}
use Rattle.line.proofs.Invariants.{Begun, Carries, Earned, EndedRow, Inv, KindFits, Known, StageFits, TaggedFits, TaggedRow, TookFits, page}
use Rattle.line.proofs.Moves.{begun_note, hand_here, here, inv_change, inv_note, made, nth_cases, nth_last, station_still, tagged_line, told_at, told_hand, told_view}
use Rattle.line.proofs.Keeps.{keep, like, no_member, put_here, put_other, querying, setting}
use Rattle.line.proofs.Deliveries.{keeps_end}
use Rattle.line.proofs.Rows.{pair_of}

module _ {V : Type 0} (F : ℕ → Type 0) (n : ℕ) (laws : Laws F n) where
  -- the telling is kept
  module _ (v : View V) (inv : Inv v F) (t : Telegram V) (m : Contains v.bus t) (in_line : t.station ≤ length v.stations)
      (h : Hand V) (e : hand_of v t.station ≡ Some h) (stage : h.stage ≡ Querying) (job : h.job ≡ t.job) (p : Pair V) (is : t.kind ≡ Told p) where
    abbrev s : ℕ
    s = t.station

    abbrev c : ℕ
    c = t.cabinet

    one : 1 ≤ s
    one = (inv.bus t m).station

    carried : Known v p × Upto p.tag (replica v c).tag
    carried = subst (Carries v t) is (inv.bus t m).carries

    -- what was told, with this telling
    abbrev heard : ℕ → Option (Pair V)
    heard = put (v.answers s) c (Some p)

    heard_here : (d : ℕ) (u : Pair V) → d ≡ c → heard d ≡ Some u → p ≡ u
    heard_here d u at a = same_Some p u (sym (ap heard at ∙ put_here (v.answers s) c (Some p)) ∙ a)

    pub keeps_told : Inv (told_view v t h p) F
    keeps_told =
        inv_change F v inv s one in_line (last_of v s) (Some (told_hand t h)) (put (v.answers s) c (Some p)) (record {
          rises = omega arith;
          begun = ((inv.hands s h one e).0, tt);
          fits = λ u n at low. like v u u.kind h (told_hand t h) stage ((inv.bus u n).fits h (ap (hand_of v) at ∙ e) low);
          tells = λ d mem.
              ⊎_elim (λ at. (p, ap heard at ∙ put_here (v.answers s) c (Some p)))
              (λ ne.
              ⊎_elim (λ old. let y = inv.told s h one e d old in (y.0, put_other (v.answers s) c (Some p) d ne ∙ y.1)) (λ at. absurd (ne at))
              (with_cases h.told c d mem))
              (cases_eq d c);
          told = λ d u a.
              ⊎_elim
              (λ at.
              subst (λ (x : ℕ). Known v u × Upto u.tag (replica v x).tag) (sym at)
              (subst (λ (z : Pair V). Known v z × Upto z.tag (replica v c).tag) (heard_here d u at a) carried))
              (λ ne. inv.answers s d u one (sym (put_other (v.answers s) c (Some p) d ne) ∙ a))
              (cases_eq d c);
          guarded = λ i d u guard z a low.
              ⊎_elim
              (λ at. guard.under_way t z m (is ∙ ap Told (heard_here d z at a)) (sym at) (subst (λ (j : ℕ). i < j) job low))
              (λ ne. guard.kept s h z one e (sym (put_other (v.answers s) c (Some p) d ne) ∙ a) low)
              (cases_eq d c);
        })

    pub told_held : hand_of (told_view v t h p) s ≡ Some (told_hand t h)
    told_held = hand_here v s one in_line (last_of v s) (Some (told_hand t h)) heard

  -- A job that is still querying, with a quorum that told it.
  module _ (v : View V) (inv : Inv v F) (s : ℕ) (one : 1 ≤ s) (in_line : s ≤ length v.stations) (h : Hand V) (e : hand_of v s ≡ Some h)
      (stage : h.stage ≡ Querying)
      (q : ℕ) (fq : F q) (inside : Inside q h.told) where
    told_by : (k : ℕ) → Member k q → (u : Pair V) × (v.answers s k ≡ Some u)
    told_by k mem = inv.told s h one e k (inside k mem)

    -- what ended before the job began is no later than what some member of q told
    above : (i r j : ℕ) (u : Pair V) → EndedRow v i r j u → i < h.job → (k : ℕ) × Member k q × ((a : Pair V) × (v.answers s k ≡ Some a) × Upto u.tag a.tag)
    above i r j u row low =
        let x = inv.ended i r j u row in
        let both = laws.share x.fits.quorum q x.fits.is_quorum fq in
        let a = told_by both.0 both.2 in
        (both.0, both.2, (a.0, a.1, (x.guards both.0 both.1).kept s h a.0 one e a.1 low))

    -- a write gets the next count
    module _ (x : V) (work : h.work ≡ Write x) (g : ℕ) (last : last_of v s ≤ g)
        (most : (k : ℕ) (u : Pair V) → Member k q → v.answers s k ≡ Some u → u.tag.count ≤ g) where
      abbrev new : Pair V
      new = made s x g

      abbrev raised : View V
      raised = change v s (g + 1) (Some h) (v.answers s)

      abbrev row : Row V
      row = tagged_row s h.job new

      abbrev pub tagged_view : View V
      tagged_view = tagged_line v s h x g

      raised_inv : Inv raised F
      raised_inv = keep F v inv s one in_line h e (g + 1) (omega arith) h refl refl refl (inv.hands s h one e).1 (λ t m k. k)

      counted : (u : Pair V) → Known v u → v.first.count ≤ u.tag.count
      counted u = ⊎_elim (λ eq. omega (arith, ap (λ (z : Pair V). z.tag.count) eq)) (λ k. omega (arith, (inv.tagged k.0 k.1 k.2 u k.3).above_first))

      above_first : v.first.count ≤ g
      above_first =
          let k = laws.member q fq in
          let u = told_by k.0 k.1 in
          omega (arith, counted u.0 (inv.answers s k.0 u.0 one u.1).0, most k.0 u.0 k.1 u.1)

      last_is : last_of raised s ≡ g + 1
      last_is = ap (λ (st : Station V). st.last) (here F v inv s one in_line (g + 1) (Some h) (v.answers s))

      job_below : h.job < length v.journal
      job_below = slice_get_within v.journal h.job _ (inv.hands s h one e).0

      begun_write : Begun v s h.job (Write x)
      begun_write = subst (Begun v s h.job) work (inv.hands s h one e).0

      tagged_fits : TaggedFits (page tagged_view) (length v.journal) s h.job new
      tagged_fits = record {
        owner = refl;
        station = one;
        above_first = omega (arith, above_first);
        begun = begun_note F raised raised_inv row s h.job (Write x) begun_write;
        above_ended = λ i r j u ended low.
            let old : EndedRow v i r j u =
            (ended.0, ended.1, ⊎_elim (λ o. o) (λ n. absurd (omega (arith, n.0, job_below))) (nth_cases v.journal row i _ ended.2)) in
            let a = above i r j u old low in
            let less = most a.0 a.2.0 a.1 a.2.1 in
            (omega (arith, a.2.2.0), λ eq. absurd (omega (arith, a.2.2.0)));
        rises = λ i j u low tagged.
            let old : TaggedRow v i s j u = ⊎_elim (λ o. o) (λ n. absurd (omega (arith, n.0))) (nth_cases v.journal row i _ tagged) in
            omega (arith, inv.lasts i s j u old);
      }

      pub keeps_tag : Inv tagged_view F
      keeps_tag =
          inv_note F raised raised_inv row
          (λ r j u eq.
          let P : Row V → Type 0 =
          λ z. TaggedFits (page tagged_view) (length v.journal) z.station z.job (pair_of z) × (z.tag.count ≤ last_of raised z.station) in
          subst P eq (tagged_fits, omega (arith, last_is)))
          (λ r j u a b eq. cc (ap (λ (z : Row V). z.kind) eq))

      held : hand_of tagged_view s ≡ Some h
      held = hand_here v s one in_line (g + 1) (Some h) (v.answers s)

      -- and the second trip begins
      abbrev set_hand : Hand V
      set_hand = at_stage h (Setting new 0 0)

      pub keeps_setting : Inv (hold tagged_view s set_hand) F
      keeps_setting =
          keep F tagged_view keeps_tag s one (station_still v.stations s one _ in_line) h held (last_of tagged_view s) (omega arith) set_hand refl refl refl (
            inr (length v.journal, s, h.job, nth_last v.journal row),
            (λ k mem. no_member k mem),
            subst (λ (y : Work V). Earned tagged_view s h.job y new) (sym work) (length v.journal, nth_last v.journal row),
          )
          (λ t m k. querying tagged_view t t.kind h set_hand stage k)

    -- the counts have run out
    pub keeps_spent : Inv (note (hold v s (at_stage h Spent)) (spent_row v s h.job)) F
    keeps_spent =
        let w = hold v s (at_stage h Spent) in
        let spent =
        keep F v inv s one in_line h e (last_of v s) (omega arith) (at_stage h Spent) refl refl refl tt
        (λ t m k. querying v t t.kind h (at_stage h Spent) stage k) in
        inv_note F w spent (spent_row v s h.job) (λ r j u eq. cc (ap (λ (z : Row V). z.kind) eq)) (λ r j u a b eq. cc (ap (λ (z : Row V). z.kind) eq))

    -- a read, as it is judged
    module _ (size_is : size v ≡ n) (work : h.work ≡ Read) where
      line : (d : ℕ) → F d → (k : ℕ) → Member k d → k < size v
      line d fd k mem = omega (arith, laws.line d fd k mem, size_is)

      small : q < 2 ^ 16
      small = below 16 q (λ k mem. omega (arith, line q fq k mem, size_is, laws.few))

      pub keeps_one_trip : (tag : Tag) (strikes : ℕ) → Judged (told_tags v s) q F (OneTrip tag) strikes → (k : ℕ) (p : Pair V) → Member k q
          → v.answers s k ≡ Some p → p.tag ≡ tag → Inv (note (hold v s (at_stage h (Ended p 1 strikes))) (ended_row s h.job p 1 strikes)) F
      keeps_one_trip tag strikes judged k p mem a is =
          let law = lawful (told_tags v s) q F small laws.share (OneTrip tag) strikes judged in
          keeps_end F v inv s one in_line h e p 1 strikes (inv.answers s k p one a).0
          (subst (λ (y : Work V). Earned v s h.job y p) (sym work)
          (λ i r j u row low.
          let x = inv.ended i r j u row in
          ⊎_elim
          (λ same. (x.guards k (subst (λ (d : ℕ). Member k d) (sym same) mem)).kept s h p one e a low)
          (λ other.
          let found = law.2 fq x.fits.quorum x.fits.is_quorum other in
          let b = told_by found.0 found.2 in
          let at : b.0.tag ≡ p.tag = sym (told_at v s found.0 b.0 (line q fq found.0 found.2) b.1) ∙ found.3 ∙ sym is in
          subst (Upto u.tag) at ((x.guards found.0 found.1).kept s h b.0 one e b.1 low))
          (cases_eq x.fits.quorum q)))
          q fq
          (λ c m.
          let b = told_by c m in
          let first = subst (λ (z : Tag). Upto z b.0.tag) (sym is) (subst (Upto tag) (told_at v s c b.0 (line q fq c m) b.1) (law.1 c m)) in
          tag_order.through p.tag b.0.tag (replica v c).tag first (inv.answers s c b.0 one b.1).1)

      pub keeps_second : (tag : Tag) (strikes : ℕ) → Judged (told_tags v s) q F (SecondTrip tag) strikes → (k : ℕ) (p : Pair V) → Member k q
          → v.answers s k ≡ Some p → p.tag ≡ tag → Inv (hold v s (at_stage h (Setting p strikes 0))) F
      keeps_second tag strikes judged k p mem a is =
          let g = at_stage h (Setting p strikes 0) in
          keep F v inv s one in_line h e (last_of v s) (omega arith) g refl refl refl (
            (inv.answers s k p one a).0,
            (λ c m. no_member c m),
            subst (λ (y : Work V). Earned v s h.job y p) (sym work)
                (λ i r j u row low.
                let b = above i r j u row low in
                let most = subst (Upto b.2.0.tag) (sym is) (subst (λ (z : Tag). Upto z tag) (told_at v s b.0 b.2.0 (line q fq b.0 b.1) b.2.1) (judged.1 b.0 b.1)) in
                tag_order.through u.tag b.2.0.tag p.tag b.2.2 most),
          )
          (λ t m x. querying v t t.kind h g stage x)

  -- Tooks: counted, and the job ends with a quorum of them.
  module _ (v : View V) (inv : Inv v F) (t : Telegram V) (m : Contains v.bus t) (in_line : t.station ≤ length v.stations)
      (h : Hand V) (e : hand_of v t.station ≡ Some h) (p : Pair V) (strikes took : ℕ) (stage : h.stage ≡ Setting p strikes took)
      (job : h.job ≡ t.job) (is : t.kind ≡ Took) where
    first_station : 1 ≤ t.station
    first_station = (inv.bus t m).station

    facts : StageFits v t.station h (Setting p strikes took)
    facts = subst (λ (st : Stage V). StageFits v t.station h st) stage (inv.hands t.station h first_station e).1

    now_took : Upto p.tag (replica v t.cabinet).tag
    now_took =
        subst (λ (st : Stage V). TookFits v t.cabinet st) stage (subst (λ (k : TelegramKind V). KindFits v t k h) is ((inv.bus t m).fits h e job))

    counted_all : (c : ℕ) → Member c (bit_or took (2 ^ t.cabinet)) → Upto p.tag (replica v c).tag
    counted_all c mem =
        ⊎_elim (λ old. facts.1 c old) (λ at. subst (λ (d : ℕ). Upto p.tag (replica v d).tag) (sym at) now_took) (with_cases took t.cabinet c mem)

    pub keeps_counted : Inv (hold v t.station (at_stage h (Setting p strikes (bit_or took (2 ^ t.cabinet))))) F
    keeps_counted =
        let g = at_stage h (Setting p strikes (bit_or took (2 ^ t.cabinet))) in
        keep F v inv t.station first_station in_line h e (last_of v t.station) (omega arith) g refl refl refl
        (facts.0, counted_all, facts.2)
        (λ u n k. setting v u u.kind h g p strikes took strikes (bit_or took (2 ^ t.cabinet)) stage refl k)

    pub keeps_took : (q : ℕ) → F q → Inside q (bit_or took (2 ^ t.cabinet))
        → Inv (note (hold v t.station (at_stage h (Ended p 2 strikes))) (ended_row t.station h.job p 2 strikes)) F
    keeps_took q fq inside =
        keeps_end F v inv t.station first_station in_line h e p 2 strikes facts.0 facts.2 q fq (λ c mem. counted_all c (inside c mem))
