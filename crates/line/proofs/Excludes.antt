-- The steps leave no room for what a line must not do.
use Rattle.std.proofs.Common.{◌≡◌, ℕ, ◌+◌, ◌-◌, ◌^◌, ◌<◌, ◌≤◌, ◌⊎◌, List, [], ◌∷◌, ◌++◌, map, length, get_or, set, Some, None, Ok, Err, Option, Result, sym, refl, ap, ◌∙◌, subst, inl, inr, ⊎_elim, zero-add, arith}
use Rattle.std.specs.List.{slice_get, remove, range_with_len}
use Rattle.std.proofs.lemmas.List.FromFn.{get_or-map-range_with_len, length-map-range_with_len}
use Rattle.std.proofs.lemmas.List.Edits.{length-remove}
use Rattle.std.proofs.lemmas.List.{get_or-append-add, get_or-set_same, length-append}
use Rattle.std.proofs.lemmas.Grind.{common_steps}
use Rattle.std.proofs.lemmas.Option.{same_Some, slice_get-get_or, slice_get_within}
use Rattle.words.specs.declared.refusal.Refusal.{Refusal}
use Rattle.words.specs.declared.tag.Tag.{Tag}
use Rattle.words.specs.Tags.{Before, Upto}
use Rattle.words.proofs.TagOrders.{tag_order, upto_refl}
use Rattle.telegrams.specs.declared.Pair.{Pair}
use Rattle.telegrams.specs.declared.Telegram.{Telegram}
use Rattle.telegrams.specs.declared.TelegramKind.{TelegramKind}
use Rattle.telegrams.specs.declared.TelegramKind.TheVariants.{Query, Told, Set, Took}
use Rattle.quorums.specs.Sets.{Inside, Member, Picked}
use Rattle.views.specs.Views.{Held, Judged, Struck, told}
use Rattle.views.specs.declared.Verdict.{Verdict}
use Rattle.views.specs.declared.Verdict.TheVariants.{OneTrip, SecondTrip}
use Rattle.line.specs.declared.types.Delivered.{Delivered}
use Rattle.line.specs.declared.types.Delivered.TheVariants as answer
use Rattle.line.specs.declared.types.Hand.{Hand}
use Rattle.line.specs.declared.types.Stage.{Stage}
use Rattle.line.specs.declared.types.Stage.TheVariants.{Setting, Ended}
use Rattle.line.specs.declared.types.Station.{Station}
use Rattle.line.specs.declared.types.Work.{Work}
use Rattle.line.specs.declared.types.Work.TheVariants.{Write, Read}
use Rattle.line.specs.Excluded.{Counts, Delivery, Excluded, Now, Stands, tellers}
use Rattle.line.specs.Excluded as excluded_specs
use Rattle.line.specs.Lines.{IsStation, View, at_stage, change, first_pair, hand_of, hold, idle, last_of, replica, reply, send, size, store, told_tags, with_bus}
use Rattle.line.specs.Steps.{AtHand, AtStation, Begins, Chosen, Fits, Free, GivesUp, Greatest, Handed, Reads, Room, Second, Stored, Tells, wants}
use Rattle.line.proofs.Keeps.{put_here}
use Rattle.line.proofs.Shapes.{Handing, answering, handing, passing, storing, taking, telling}
use Rattle.line.proofs.Moves as moves
use Rattle.line.proofs.Moves.{hand_here, made, nth_last, station_here, station_still, tagged_line}
use Rattle.views.proofs.Judgings.{not_before}
use Rattle.quorums.proofs.Picks.{picked_same}

-- of telegrams that joined the bus in turn, each has its place there
joined : {X : Type 0} (xs : List X) (f : ℕ → X) (n c : ℕ) → c < n → slice_get (xs ++ map f (range_with_len 0 n)) (length xs + c) ≡ Some (f c)
joined xs f n c l =
    let ys = map f (range_with_len 0 n) in
    slice_get-get_or (xs ++ ys) (length xs + c) (f c) (omega (arith, length-append xs ys, length-map-range_with_len f 0 n))
    ∙ ap Some (get_or-append-add xs ys c (f c) ∙ get_or-map-range_with_len f 0 n c c (f c) l (zero-add c))

-- where all tags held are one, none is struck
none_struck : (tags : List Tag) (q : ℕ) (t : Tag) (n : ℕ) → ((u : Tag) → Held tags q u → t ≡ u) → Struck tags q t n → n ≡ 0
none_struck tags q t n one ([], rising, are, is) = sym is
none_struck tags q t n one (u ∷ us, rising, are, is) = let x = (are u).0 (inl refl) in absurd (not_before t u (one u x.0) x.1)

last_at : {V : Type 0} (xs : List (Station V)) (i : ℕ) (hand : Option (Hand V)) (k : ℕ)
    → (get_or (set xs i (record { last = (get_or xs i idle).last; hand = hand })) k idle).last ≡ (get_or xs k idle).last
last_at xs i hand k = grind (arith, common_steps)

module _ {V : Type 0} where
  -- a change that leaves the own last count
  last_kept : (v : View V) (s : ℕ) (hand : Option (Hand V)) (answers : ℕ → Option (Pair V)) (k : ℕ)
      → last_of (change v s (last_of v s) hand answers) k ≡ last_of v k
  last_kept v s hand answers k = last_at v.stations (s - 1) hand (k - 1)

  -- giving up keeps each own last count
  keeps : (v : View V) (s job : ℕ) (r : Result (Unit {0}) Refusal) (w : View V) → GivesUp v s job r w → (k : ℕ) → last_of w k ≡ last_of v k
  keeps v s job r w (inl x) k = ap (λ (z : View V). last_of z k) x.1.3
  keeps v s job r w (inr (inl x)) k = ap (λ (z : View V). last_of z k) x.4 ∙ last_kept v s None (λ c. None) k
  keeps v s job r w (inr (inr x)) k = ap (λ (z : View V). last_of z k) x.4 ∙ last_kept v s None (λ c. None) k

  -- a begin that nothing stands against is not refused
  begins : (v : View V) (s : ℕ) (work : Work V) (r : Result (ℕ × ℕ) Refusal) (w : View V) → IsStation v s → hand_of v s ≡ None → Room v (size v)
      → Free v (wants work) → Begins v s work r w → r ≡ Ok (s, length v.journal)
  begins v s work r w line empty room free =
      ⊎_elim (λ x. absurd (x.0 line)) (⊎_elim (λ x. absurd (x.1.0 empty)) (⊎_elim (λ x. absurd (x.2.0 room)) (⊎_elim (λ x. absurd (x.3.0 free)) (λ x. x.4))))

  module _ (F : ℕ → Type 0) (v : View V) (place : ℕ) (t : Telegram V) where
    abbrev s : ℕ
    s = t.station

    abbrev c : ℕ
    c = t.cabinet

    abbrev off : View V
    off = with_bus v (remove v.bus place)

    -- the telegram at the place is delivered; the job's stage then
    abbrev Done : Result Delivered Refusal → View V → Type 0
    Done = Delivery F v place t

    abbrev At : View V → Stage V → Type 0
    At = Now F v place t

    -- a telegram of the line is handed over
    handed : (k : TelegramKind V) → t.kind ≡ k → (r : Result Delivered Refusal) (w : View V) → Done r w → Handed F v off t k r w
    handed k kind r w d =
        subst (λ (k : TelegramKind V). Handed F v off t k r w) kind
        (⊎_elim (λ x. absurd (omega (arith, x.0, slice_get_within v.bus place t d.on)))
        (⊎_elim (λ x. absurd (x.2 (subst (Fits v) (same_Some _ _ (sym d.on ∙ x.1)) d.fits)))
        (λ x. subst (λ (u : Telegram V). Handed F v off u u.kind r w) (same_Some _ _ (sym x.1 ∙ d.on)) x.3))
        d.delivers)

    -- a query is answered with the replica
    answers : (r : Result Delivered Refusal) (w : View V) → Done r w → t.kind ≡ Query → Stands w (reply t (Told (replica v t.cabinet)))
    answers r w d kind =
        let x = handed Query kind r w d in
        (length off.bus, ap (λ (z : View V). slice_get z.bus (length off.bus)) x.1 ∙ nth_last off.bus _)

    -- what a set leaves
    abbrev Stores : Pair V → View V → Type 0
    Stores p w = Stands w (reply t Took) × Upto p.tag (replica w c).tag × (Before (replica v c).tag p.tag → replica w c ≡ p)

    stored : (p : Pair V) (w : View V) → Fits v t → Stored off c p w → Stores p (send w (reply t Took ∷ []))
    stored p w fits (inl (later, is)) =
        let at : replica (store off c p) c ≡ p = get_or-set_same v.replicas c p (first_pair v) fits.0 in
        subst (λ (z : View V). Stores p (send z (reply t Took ∷ []))) (sym is)
        ((length off.bus, nth_last off.bus _), subst (λ (u : Pair V). Upto p.tag u.tag) (sym at) (upto_refl p.tag), λ _. at)
    stored p w fits (inr (passed, is)) =
        subst (λ (z : View V). Stores p (send z (reply t Took ∷ []))) (sym is)
        ((length off.bus, nth_last off.bus _), passed, λ later. absurd (tag_order.not_both (replica v c).tag p.tag later passed))

    -- a set is stored if it is later, and answered
    stores : (p : Pair V) (r : Result Delivered Refusal) (w : View V) → Done r w → t.kind ≡ Set p → Stores p w
    stores p r w d kind =
        let x = handed (Set p) kind r w d in
        subst (Stores p) (sym x.1.2) (stored p x.1.0 d.fits x.1.1)

    -- a telling, at the station's job in hand
    told_at : (h : Hand V) (p : Pair V) (r : Result Delivered Refusal) (w : View V) → t.kind ≡ Told p → hand_of v s ≡ Some h → Done r w
        → AtStation F v off t h h.stage (Told p) r w
    told_at h p r w kind held d =
        subst (λ (k : TelegramKind V). AtStation F v off t h h.stage k r w) kind
        (subst (λ (hand : Option (Hand V)). AtHand F v off t hand r w) held (handed (Told p) kind r w d))

    -- what came of the delivery
    came : (r : Result Delivered Refusal) (w : View V) → Done r w → Handing v F off t r w
    came r w d = handing v F off t r w t.kind refl (handed t.kind refl r w d)

    once : (h : Hand V) (p : Pair V) (r : Result Delivered Refusal) (w : View V) → t.kind ≡ Told p → hand_of v s ≡ Some h → Member c h.told → Done r w
        → r ≡ Ok answer.Nothing
    once h p r w kind held m d =
        elim (came r w d) [
          | answering query is after ↦ cc
          | storing u set is x stored after ↦ cc
          | telling k held2 job stage u told new y ↦ absurd (new (subst (λ (z : Hand V). Member c z.told) (same_Some h k (sym held ∙ held2)) m))
          | taking k held2 job u strikes took stage tooks y ↦ cc
          | passing is after ↦ is
        ]

    -- the job's stage after a change of its stage
    now_at : (x : View V) (k : Hand V) (stage : Stage V) → IsStation x s → k.job ≡ t.job → At (hold x s (at_stage k stage)) stage
    now_at x k stage line job = (at_stage k stage, hand_here x s line.0 line.1 (last_of x s) (Some (at_stage k stage)) (x.answers s), job, refl)

    -- a second trip has one pair
    now_same : (w : View V) (p u : Pair V) (a b i j : ℕ) → At w (Setting p a i) → At w (Setting u b j) → p ≡ u
    now_same w p u a b i j x y =
        let same : ◌≡◌ {A = Stage V} (Setting p a i) (Setting u b j) = sym x.3 ∙ ap (λ (k : Hand V). k.stage) (same_Some _ _ (sym x.1 ∙ y.1)) ∙ y.3 in
        cc

    -- a set to each cabinet is on the bus
    abbrev AllSet : View V → Pair V → Type 0
    AllSet w p = (i : ℕ) → i < size v → Stands w (record { cabinet = i; station = s; job = t.job; kind = Set p })

    abbrev Sends : View V → Type 0
    Sends w = (p : Pair V) × (strikes : ℕ) × At w (Setting p strikes 0) × AllSet w p

    -- a second trip from the line x, or no room for it
    abbrev Trip : View V → Pair V → ℕ → Result Delivered Refusal → View V → Type 0
    Trip x p strikes r w =
        ((r ≡ Ok answer.SecondTrip) × At w (Setting p strikes 0) × AllSet w p × (last_of w s ≡ last_of x s))
        ⊎ ((Room x (size x) → ⊥) × ((e : Refusal) × (r ≡ Err e)))

    second : (x : View V) (k : Hand V) (p : Pair V) (strikes : ℕ) (r : Result Delivered Refusal) (w : View V) → IsStation x s → size x ≡ size v → k.job ≡ t.job
        → Second F v off t x k p strikes r w → Trip x p strikes r w
    second x k p strikes r w line same job (inl (room, (is, after))) =
        let telegram : ℕ → ℕ → Telegram V = λ j i. record { cabinet = i; station = s; job = j; kind = Set p } in
        inl (
          is,
          subst (λ (z : View V). At z (Setting p strikes 0)) (sym after) (now_at x k (Setting p strikes 0) line job),
          subst (λ (z : View V). AllSet z p) (sym after)
              (λ i l. (length x.bus + i, joined x.bus (telegram k.job) (size x) i (omega arith) ∙ ap (λ (j : ℕ). Some (telegram j i)) job)),
          ap (λ (z : View V). last_of z s) after ∙ last_kept x s _ (x.answers s) s,
        )
    second x k p strikes r w line same job (inr (full, refused)) = inr (full, (refused.0, refused.1))

    -- a telling at a job that still queries
    module _ (h : Hand V) (p : Pair V) where
      abbrev told_by : ℕ
      told_by = tellers F v place t h

      abbrev heard : ℕ → Option (Pair V)
      heard = excluded_specs.telling F v place t p

      abbrev told_hand : Hand V
      told_hand = moves.told_hand t h

      abbrev told_view : View V
      told_view = moves.told_view off t h p

      -- the own last count and what was told, with this telling
      told_last : last_of told_view s ≡ last_of v s
      told_last = last_kept off s _ heard s

      told_kept : (k : ℕ) → told_view.answers s k ≡ heard k
      told_kept k = ap (λ (f : ℕ → Option (Pair V)). f k) (put_here v.answers s heard)

      -- the tags told, and a member's
      abbrev tags : List Tag
      tags = told_tags told_view s

      told_tag : (k : ℕ) (u : Pair V) → k < size v → heard k ≡ Some u → told tags k ≡ u.tag
      told_tag k u low is = moves.told_at told_view s k u low (told_kept k ∙ is)

      -- a member told no more than the greatest count
      above : (q g k : ℕ) (u : Pair V) → Greatest F v off t told_view q g → Member k q → heard k ≡ Some u → u.tag.count ≤ g
      above q g k u most m kept = most.1 k u m (told_kept k ∙ kept)

      -- the line with a write's tag
      abbrev tagged : V → ℕ → View V
      tagged x g = tagged_line told_view s told_hand x g

      -- no count is left
      abbrev Full : Type 0
      Full = (2 ^ 28 - 1 ≤ last_of v s) ⊎ ((k : ℕ) × (u : Pair V) × (heard k ≡ Some u) × (2 ^ 28 - 1 ≤ u.tag.count))

      -- all members of a quorum told one tag
      abbrev AllTold : ℕ → Tag → Type 0
      AllTold q tag = (k : ℕ) → Member k q → (k < size v) × ((u : Pair V) × (heard k ≡ Some u) × (u.tag ≡ tag))

      -- what comes of a quorum
      data Way (q : ℕ) (r : Result Delivered Refusal) (w : View V) : Type 0 where
        spent : (g : ℕ) → Greatest F v off t told_view q g → 2 ^ 28 - 1 ≤ g → r ≡ Ok answer.Spent → Way q r w
        ended : r ≡ Ok answer.Ended → Way q r w
        sent : (u : Pair V) (strikes : ℕ) → r ≡ Ok answer.SecondTrip → At w (Setting u strikes 0) → AllSet w u → Way q r w
        refused : (e : Refusal) → r ≡ Err e → Way q r w

      module _ (line : IsStation v s) (job : h.job ≡ t.job) where
        -- the station is still one, and its second trips
        told_line : IsStation told_view s
        told_line = (line.0, station_still v.stations s line.0 _ line.1)

        second_tagged : (x : V) (g : ℕ) (r : Result Delivered Refusal) (w : View V) → Second F v off t (tagged x g) told_hand (made s x g) 0 r w
            → Trip (tagged x g) (made s x g) 0 r w
        second_tagged x g r w = second (tagged x g) told_hand (made s x g) 0 r w (line.0, station_still told_view.stations s line.0 _ told_line.1) refl job

        second_read : (u : Pair V) (strikes : ℕ) (r : Result Delivered Refusal) (w : View V) → Second F v off t told_view told_hand u strikes r w
            → Trip told_view u strikes r w
        second_read u strikes r w = second told_view told_hand u strikes r w told_line refl job

        way : (q : ℕ) (work : Work V) (r : Result Delivered Refusal) (w : View V) → Chosen F v off t told_view told_hand q work r w → Way q r w
        way q (Write x) r w (g, most, inl (all, (is, after))) = spent g most all is
        way q (Write x) r w (g, most, inr (l, next)) = ⊎_elim (λ y. sent (made s x g) 0 y.0 y.1 y.2) (λ y. refused y.1.0 y.1.1) (second_tagged x g r w next)
        way q Read r w (OneTrip tag, strikes, judged, (u, low, (is, after))) = ended is
        way q Read r w (SecondTrip tag, strikes, judged, (u, low, next)) =
            ⊎_elim (λ y. sent u strikes y.0 y.1 y.2) (λ y. refused y.1.0 y.1.1) (second_read u strikes r w next)

        -- the answers that a telling gives at a quorum only
        sends_told : (w : View V) → Tells F v off t h p (Ok answer.SecondTrip) w → Sends w
        sends_told w (inl x) = cc x.1.0
        sends_told w (inr x) =
            elim (way x.0 h.work (Ok answer.SecondTrip) w x.2) [
              | spent g most all is ↦ cc is
              | ended is ↦ cc is
              | sent u strikes is now all ↦ (u, strikes, now, all)
              | refused e is ↦ cc is
            ]

        full_told : (w : View V) → Tells F v off t h p (Ok answer.Spent) w → Full
        full_told w (inl x) = cc x.1.0
        full_told w (inr x) =
            elim (way x.0 h.work (Ok answer.Spent) w x.2) [
              | spent g most all is ↦
                  ⊎_elim (λ own. inl (omega (arith, own, told_last, all)))
                  (λ (k, u, m, kept, at). inr (k, u, sym (told_kept k) ∙ kept, omega (arith, at, all))) most.2
              | ended is ↦ cc is
              | sent u strikes is now all ↦ cc is
              | refused e is ↦ cc is
            ]

        -- where all members of a quorum told one tag, a read ends with it
        module _ (q : ℕ) (tag : Tag) (all : AllTold q tag) where
          one_tag : (a b : Tag) → Held tags q a → Held tags q b → a ≡ b
          one_tag a b x y =
              let at : (k : ℕ) → Member k q → told tags k ≡ tag = λ k m. let z = all k m in told_tag k z.1.0 z.0 z.1.1 ∙ z.1.2 in
              sym x.2 ∙ at x.0 x.1 ∙ sym (at y.0 y.1) ∙ y.2

          reads : (verdict : Verdict) (strikes : ℕ) (r : Result Delivered Refusal) (w : View V) → Judged tags q F verdict strikes
              → Reads F v off t told_view told_hand q verdict strikes r w
              → (r ≡ Ok answer.Ended) × ((u : Pair V) × (u.tag ≡ tag) × At w (Ended u 1 0))
          reads (OneTrip a) strikes r w judged (u, low, (is, after)) =
              let none = none_struck tags q a strikes (λ b. one_tag a b judged.0) judged.3 in
              let now = subst (λ (z : View V). At z (Ended u 1 strikes)) (sym after) (now_at told_view told_hand (Ended u 1 strikes) told_line job) in
              let at = all low.0 low.1 in
              let same : u ≡ at.1.0 = same_Some _ _ (sym low.2 ∙ told_kept low.0 ∙ at.1.1) in
              (is, (u, ap (λ (x : Pair V). x.tag) same ∙ at.1.2, subst (λ (n : ℕ). At w (Ended u 1 n)) none now))
          reads (SecondTrip m) strikes r w judged x =
              let (b, held, (a, held2, less), other, none, struck) = judged.2 in
              absurd (not_before a b (one_tag a b held2 held) less)

        -- a second trip of a read has the latest tag
        latest_of : (q : ℕ) (verdict : Verdict) (strikes : ℕ) (w : View V) (u : Pair V) (n : ℕ) → Judged tags q F verdict strikes
            → Reads F v off t told_view told_hand q verdict strikes (Ok answer.SecondTrip) w → At w (Setting u n 0)
            → (k : ℕ) (x : Pair V) → k < size v → Member k q → heard k ≡ Some x → Upto x.tag u.tag
        latest_of q (OneTrip a) strikes w u n judged (y, low, (is, after)) now k x l m kept = cc is
        latest_of q (SecondTrip a) strikes w u n judged (y, low, next) now k x l m kept =
            ⊎_elim
            (λ trip.
            let tag : a ≡ u.tag = sym low.3 ∙ ap (λ (z : Pair V). z.tag) (now_same w y u strikes n 0 0 trip.1 now) in
            subst (Upto x.tag) tag (subst (λ (z : Tag). Upto z a) (told_tag k x l kept) (judged.1 k m)))
            (λ full. cc full.1.1)
            (second_read y strikes (Ok answer.SecondTrip) w next)

      module _ (counts : Counts F v place t h p) where
        -- the telling counts
        tells : (r : Result Delivered Refusal) (w : View V) → Done r w → Tells F v off t h p r w
        tells r w d =
            ⊎_elim (λ x. x.2) (λ x. absurd (⊎_elim (λ ne. ne counts.job) counts.new x.0))
            (subst (λ (stage : Stage V). AtStation F v off t h stage (Told p) r w) counts.querying (told_at h p r w counts.kind counts.held d))

        -- the quorum is the one picked
        chosen : (q : ℕ) (work : Work V) (r : Result Delivered Refusal) (w : View V) → h.work ≡ work → Picked F told_by (Some q) → Done r w
            → Chosen F v off t told_view told_hand q work r w
        chosen q work r w is picked d =
            ⊎_elim (λ x. cc (picked_same F told_by None (Some q) x.0 picked))
            (λ x.
            subst (λ (k : Work V). Chosen F v off t told_view told_hand q k r w) is
            (subst (λ (i : ℕ). Chosen F v off t told_view told_hand i h.work r w) (same_Some _ _ (picked_same F told_by (Some x.0) (Some q) x.1 picked)) x.2))
            (tells r w d)

        -- with a quorum inside, the telling is not only kept
        picks : (q : ℕ) (w : View V) → F q → Inside q told_by → Done (Ok answer.Kept) w → ⊥
        picks q w fq inside d =
            ⊎_elim (λ x. x.0 q fq inside)
            (λ x.
            elim (way d.fits.1 counts.job x.0 h.work (Ok answer.Kept) w x.2) [
              | spent g most all is ↦ cc is
              | ended is ↦ cc is
              | sent u strikes is now all ↦ cc is
              | refused e is ↦ cc is
            ])
            (tells (Ok answer.Kept) w d)

        -- spent only at the limit
        spent_only : (w : View V) → Done (Ok answer.Spent) w → Full
        spent_only w d = full_told d.fits.1 counts.job w (tells (Ok answer.Spent) w d)

        -- one trip where all tags agree
        one_trip : (q : ℕ) (tag : Tag) (r : Result Delivered Refusal) (w : View V) → h.work ≡ Read → Picked F told_by (Some q) → AllTold q tag → (k : ℕ)
            → Member k q → Done r w
            → (r ≡ Ok answer.Ended) × ((u : Pair V) × (u.tag ≡ tag) × At w (Ended u 1 0))
        one_trip q tag r w is picked all k m d =
            let (verdict, strikes, judged, next) = chosen q Read r w is picked d in
            reads d.fits.1 counts.job q tag all verdict strikes r w judged next

        -- the latest tag of the quorum
        latest : (q : ℕ) (u : Pair V) (strikes : ℕ) (w : View V) → h.work ≡ Read → Picked F told_by (Some q) → Done (Ok answer.SecondTrip) w
            → At w (Setting u strikes 0)
            → (k : ℕ) (x : Pair V) → k < size v → Member k q → heard k ≡ Some x → Upto x.tag u.tag
        latest q u n w is picked d =
            let (verdict, strikes, judged, next) = chosen q Read (Ok answer.SecondTrip) w is picked d in
            latest_of d.fits.1 counts.job q verdict strikes w u n judged next

        -- a write's count is new
        fresh : (u : Pair V) (x : V) (strikes : ℕ) (w : View V) → h.work ≡ Write x → Done (Ok answer.SecondTrip) w → At w (Setting u strikes 0)
            → (last_of v s < u.tag.count) × (last_of w s ≡ u.tag.count)
        fresh u x n w is d now =
            ⊎_elim (λ y. cc y.1.0)
            (λ y.
            let (g, most, after) = subst (λ (k : Work V). Chosen F v off t told_view told_hand y.0 k (Ok answer.SecondTrip) w) is y.2 in
            ⊎_elim (λ all. cc all.1.0)
            (λ next.
            ⊎_elim
            (λ trip.
            let count : g + 1 ≡ u.tag.count = ap (λ (z : Pair V). z.tag.count) (now_same w (made s x g) u 0 n 0 0 trip.1 now) in
            let raised = ap (λ (st : Station V). st.last) (station_here told_view.stations s d.fits.1.0 _ (told_line d.fits.1 counts.job).1) in
            (omega (arith, most.0, told_last), trip.3 ∙ raised ∙ count))
            (λ full. cc full.1.1)
            (second_tagged d.fits.1 counts.job x g (Ok answer.SecondTrip) w next.1))
            after)
            (tells (Ok answer.SecondTrip) w d)

        -- the last count, and none after it
        last_count : (q : ℕ) (x : V) (r : Result Delivered Refusal) (w : View V) → h.work ≡ Write x → Picked F told_by (Some q) → Room v (size v)
            → last_of v s ≤ 268435454
            → ((k : ℕ) (u : Pair V) → Member k q → heard k ≡ Some u → u.tag.count ≤ 268435454)
            → (k : ℕ) (u : Pair V) → Member k q → heard k ≡ Some u → u.tag.count ≡ 268435454 → Done r w
            → (r ≡ Ok answer.SecondTrip) × At w (Setting (record { tag = record { count = 268435455; owner = s }; value = x }) 0 0)
        last_count q x r w is picked room low lows k u m kept at d =
            let (g, most, after) = chosen q (Write x) r w is picked d in
            let upto : g ≤ 268435454 =
            ⊎_elim (λ own. omega (arith, own, told_last)) (λ (i, y, mem, its, count). omega (arith, count, lows i y mem (sym (told_kept i) ∙ its))) most.2 in
            let next : g + 1 ≡ 268435455 = omega (arith, above q g k u most m kept) in
            ⊎_elim (λ all. absurd (omega (arith, all.0)))
            (λ less.
            ⊎_elim (λ trip. (trip.0, subst (λ (n : ℕ). At w (Setting (record { tag = record { count = n; owner = s }; value = x }) 0 0)) next trip.1))
            (λ full. absurd (full.0 (omega (arith, length-remove v.bus place (slice_get_within v.bus place t d.on)))))
            (second_tagged d.fits.1 counts.job x g r w less.1))
            after

        no_count : (q : ℕ) (x : V) (r : Result Delivered Refusal) (w : View V) → h.work ≡ Write x → Picked F told_by (Some q) → (k : ℕ) (u : Pair V)
            → Member k q → heard k ≡ Some u → u.tag.count ≡ 268435455 → Done r w → r ≡ Ok answer.Spent
        no_count q x r w is picked k u m kept at d =
            let (g, most, after) = chosen q (Write x) r w is picked d in
            ⊎_elim (λ all. all.1.0) (λ next. absurd (omega (arith, next.0, above q g k u most m kept))) after

    -- no other delivery is answered by a second trip
    sends : (w : View V) → Done (Ok answer.SecondTrip) w → Sends w
    sends w d =
        elim (came (Ok answer.SecondTrip) w d) [
          | answering query is after ↦ cc is
          | storing u set is x stored after ↦ cc is
          | telling h held job stage p told new y ↦ sends_told h p d.fits.1 job w y
          | taking h held job p strikes took stage tooks y ↦ ⊎_elim (λ z. cc z.1.0) (λ z. cc z.2.0) y
          | passing is after ↦ cc is
        ]

pub excluded : (V : Type 0) (F : ℕ → Type 0) → Excluded V F
excluded V F = record {
  begins = begins;
  answers = answers F;
  stores = stores F;
  picks = λ v place t h p q w counts. picks F v place t h p counts q w;
  one_trip = λ v place t h p q tag r w counts. one_trip F v place t h p counts q tag r w;
  sends = sends F;
  latest = λ v place t h p q u strikes w counts. latest F v place t h p counts q u strikes w;
  fresh = λ v place t h p u x strikes w counts. fresh F v place t h p counts u x strikes w;
  keeps = keeps;
  spent = λ v place t h p w counts. spent_only F v place t h p counts w;
  once = once F;
  last_count = λ v place t h p q x r w counts. last_count F v place t h p counts q x r w;
  no_count = λ v place t h p q x r w counts. no_count F v place t h p counts q x r w;
}
