-- The known run: each of its calls is a step, and its write stands before its read.
use Rattle.std.proofs.Common.{◌≡◌, ℕ, zero, suc, ◌-◌, ◌<◌, ◌≤◌, false, List, [], ◌∷◌, length, Some, None, Ok, refl, ap, subst, inl, inr, arith, lit<, lit≤}
use lib.Count.{ones, ones_in}
use Rattle.std.specs.List.{slice_get}
use Rattle.words.specs.declared.tag.Tag.{Tag}
use Rattle.words.specs.Tags.{Before, Upto}
use Rattle.words.proofs.TagOrders.{tag_order, upto_refl}
use Rattle.std.proofs.lemmas.Option.{same_Some}
use Rattle.telegrams.specs.declared.Pair.{Pair}
use Rattle.telegrams.specs.declared.Telegram.{Telegram}
use Rattle.telegrams.specs.declared.TelegramKind.{TelegramKind}
use Rattle.telegrams.specs.declared.TelegramKind.TheVariants.{Query, Told, Set, Took}
use Rattle.quorums.specs.Families.{MajorityOf}
use Rattle.quorums.specs.Sets.{Member, Picked}
use Rattle.quorums.specs.Majorities.{least, majority_member, majority_share, too_few}
use Rattle.quorums.specs.Members.{member_below}
use Rattle.views.specs.Views.{Held, Judged, Latest, told}
use Rattle.views.specs.declared.Verdict.TheVariants.{SecondTrip}
use Rattle.views.proofs.Known.{two}
use Rattle.line.specs.declared.types.Collected.TheVariants as result
use Rattle.line.specs.declared.types.Delivered.TheVariants as answer
use Rattle.line.specs.declared.types.Hand.{Hand}
use Rattle.line.specs.declared.types.Stage.{Stage}
use Rattle.line.specs.declared.types.Stage.TheVariants.{Querying, Setting, Ended}
use Rattle.line.specs.declared.types.Work.TheVariants.{Write, Read}
use Rattle.line.specs.Known as known
use Rattle.line.specs.Lines.{View, change, ended_row, first_pair, hold, note, put, store, tagged_row, with_bus}
use Rattle.line.specs.Runs.{AtTime, EndedAt, Laws, Moment, Placed, Run, Step, began, collected, delivered, more, none, read, write}
use Rattle.line.specs.Steps.{Fits, begun, freed}
use Rattle.line.proofs.Order.{once_after, order_of_jobs}

-- of three cabinets one is too few, and the first two are the least majority
picks_none : Picked (MajorityOf 3) 1 None
unfolding ones ones_in
picks_none = too_few 3 1 (lit< tt)

picks : Picked (MajorityOf 3) 3 (Some 3)
unfolding ones ones_in
picks = least 3 3 2 (lit≤ tt) refl

ones_5 : ones 5 ≡ 2
unfolding ones ones_in
ones_5 = refl

-- where {0,1} told two tags, cabinet 0 the later one, a read needs a second trip: {0,2} shares with {0,1} cabinet 0 alone
judged : (t1 t2 t3 : Tag) → Before t1 t2 → Judged (t2 ∷ t1 ∷ t3 ∷ []) 3 (MajorityOf 3) (SecondTrip t2) 0
judged t1 t2 t3 b =
    let tags = t2 ∷ t1 ∷ t3 ∷ [] in
    let latest : Latest tags 3 t2 = two (λ k. Upto (told tags k) t2) (upto_refl t2) (b.0, λ e. omega (arith, b.1 e)) in
    let none_later : (u : Tag) → Held tags 3 u → Before t2 u → ⊥ =
    λ u h bu. tag_order.not_both t2 u bu (subst (λ (t : Tag). Upto t t2) h.2 (latest h.0 h.1)) in (
      (0, refl, refl),
      latest,
      (
        t2,
        (0, refl, refl),
        (t1, (1, refl, refl), b),
        (
          5,
          (lit< tt, ones_5),
          (λ e. omega arith),
          (λ k mc mq. two (λ k. Member k 5 → Upto t2 (told tags k)) (λ _. upto_refl t2) (λ m. absurd (omega (arith, m))) k mq mc),
        ),
        (λ u h bu o. none_later u h bu),
        ([], tt, (λ u. ((λ x. absurd x), (λ p. none_later u p.0 p.1))), refl),
      ),
    )

laws : Laws (MajorityOf 3) 3
laws = record {
  few = lit≤ tt;
  member = majority_member 3;
  line = λ q m k. member_below 3 k q m.0;
  share = majority_share 3;
}

-- places of the list count from the newest moment, times from the oldest
at_time : {V : Type 0} (ms : List (Moment V)) (i : ℕ) (m : Moment V) → slice_get ms i ≡ Some m → AtTime ms (length ms - suc i) m
at_time [] i m e = cc
at_time (x ∷ ms) zero m e = inl (omega arith, same_Some x m e)
at_time (x ∷ ms) (suc i) m e =
    let down : length ms - suc i ≡ suc (length ms) - suc (suc i) = omega arith in
    inr (subst (λ (k : ℕ). AtTime ms k m) down (at_time ms i m e))

module _ {V : Type 0} (old new : V) where
  abbrev Happens : Moment V → Type 0
  Happens m = Step (MajorityOf 3) m.before m.event m.after

  abbrev start : View V
  start = known.start old new

  abbrev first : Pair V
  first = first_pair start

  abbrev written : Pair V
  written = known.written old new

  -- the telegrams and the hands of the write, job 0 of station 1, and of the read, job 2 of station 2
  abbrev of_write : ℕ → TelegramKind V → Telegram V
  of_write c kind = record { cabinet = c; station = 1; job = 0; kind = kind }

  abbrev of_read : ℕ → TelegramKind V → Telegram V
  of_read c kind = record { cabinet = c; station = 2; job = 2; kind = kind }

  write_fits : (c : ℕ) (kind : TelegramKind V) → c < 3 → Fits start (of_write c kind)
  write_fits c kind l = (l, (lit≤ tt, lit≤ tt), lit≤ tt)

  read_fits : (c : ℕ) (kind : TelegramKind V) → c < 3 → Fits start (of_read c kind)
  read_fits c kind l = (l, (lit≤ tt, lit≤ tt), lit≤ tt)

  abbrev write_hand : ℕ → Stage V → Hand V
  write_hand told stage = record { job = 0; work = Write new; told = told; stage = stage; shelved = false }

  abbrev read_hand : ℕ → Stage V → Hand V
  read_hand told stage = record { job = 2; work = Read; told = told; stage = stage; shelved = false }

  -- a station keeps what a cabinet told
  abbrev kept : View V → ℕ → Hand V → ℕ → Pair V → View V
  kept v s h c p = change v s 0 (Some h) (put (v.answers s) c (Some p))

  -- 1: station 1 begins the write
  abbrev v1 : View V
  v1 = begun start 1 (Write new)

  abbrev m1 : Moment V
  m1 = record { before = start; event = began 1 (Write new) (Ok (1, 0)); after = v1 }

  step1 : Happens m1
  step1 = inr (inr (inr (inr ((lit≤ tt, lit≤ tt), refl, lit≤ tt, lit≤ tt, refl, refl))))

  -- 2: cabinet 0 tells the first pair
  abbrev v2 : View V
  v2 = with_bus v1 (of_write 1 Query ∷ of_write 2 Query ∷ of_write 0 (Told first) ∷ [])

  abbrev m2 : Moment V
  m2 = record { before = v1; event = delivered 0 (Ok answer.Answered); after = v2 }

  step2 : Happens m2
  step2 = inr (inr (of_write 0 Query, refl, write_fits 0 Query (lit< tt), (refl, refl)))

  -- 3: and so does cabinet 1
  abbrev v3 : View V
  v3 = with_bus v1 (of_write 2 Query ∷ of_write 0 (Told first) ∷ of_write 1 (Told first) ∷ [])

  abbrev m3 : Moment V
  m3 = record { before = v2; event = delivered 0 (Ok answer.Answered); after = v3 }

  step3 : Happens m3
  step3 = inr (inr (of_write 1 Query, refl, write_fits 1 Query (lit< tt), (refl, refl)))

  -- 4: one answer is too few
  abbrev v4 : View V
  v4 = kept (with_bus v3 (of_write 2 Query ∷ of_write 1 (Told first) ∷ [])) 1 (write_hand 1 Querying) 0 first

  abbrev m4 : Moment V
  m4 = record { before = v3; event = delivered 1 (Ok answer.Kept); after = v4 }

  step4 : Happens m4
  step4 = inr (inr (of_write 0 (Told first), refl, write_fits 0 (Told first) (lit< tt), inl (refl, (λ m. omega (arith, m)), inl (picks_none, (refl, refl)))))

  -- 5: two are enough; the greatest count is 0, so the write has the count 1
  abbrev w5 : View V
  w5 = kept (with_bus v4 (of_write 2 Query ∷ [])) 1 (write_hand 3 Querying) 1 first

  abbrev v5 : View V
  v5 =
      with_bus (hold (note (change w5 1 1 (Some (write_hand 3 Querying)) (w5.answers 1)) (tagged_row 1 0 written)) 1 (write_hand 3 (Setting written 0 0)))
      (of_write 2 Query ∷ of_write 0 (Set written) ∷ of_write 1 (Set written) ∷ of_write 2 (Set written) ∷ [])

  abbrev m5 : Moment V
  m5 = record { before = v4; event = delivered 1 (Ok answer.SecondTrip); after = v5 }

  count_first : (p : Pair V) → Some first ≡ Some p → p.tag.count ≤ 0
  count_first p e = omega (arith, ap (λ (x : Pair V). x.tag.count) (same_Some first p e))

  greatest : (p : Pair V) (k : ℕ) → Member k 3 → w5.answers 1 k ≡ Some p → p.tag.count ≤ 0
  greatest p = two (λ k. w5.answers 1 k ≡ Some p → p.tag.count ≤ 0) (count_first p) (count_first p)

  step5 : Happens m5
  step5 =
      inr (inr (
        of_write 1 (Told first),
        refl,
        write_fits 1 (Told first) (lit< tt),
        inl (refl, (λ m. omega (arith, m)), inr (3, picks, (0, (lit≤ tt, (λ k p. greatest p k), inl refl), inr (lit< tt, inl (lit≤ tt, (refl, refl)))))),
      ))

  -- 6: cabinet 0 stores the pair; what else there is of the write stays on the bus
  abbrev left : List (Telegram V) → List (Telegram V)
  left bus = of_write 2 Query ∷ of_write 1 (Set written) ∷ of_write 2 (Set written) ∷ of_write 0 Took ∷ bus

  abbrev v6 : View V
  v6 = with_bus (store v5 0 written) (left [])

  abbrev m6 : Moment V
  m6 = record { before = v5; event = delivered 1 (Ok answer.Answered); after = v6 }

  later : Before first.tag written.tag
  later = (lit≤ tt, λ e. omega arith)

  step6 : Happens m6
  step6 = inr (inr (of_write 0 (Set written), refl, write_fits 0 (Set written) (lit< tt), (refl, (_, inl (later, refl), refl))))

  -- 7: station 2 begins the read
  abbrev v7 : View V
  v7 = begun v6 2 Read

  abbrev m7 : Moment V
  m7 = record { before = v6; event = began 2 Read (Ok (2, 2)); after = v7 }

  step7 : Happens m7
  step7 = inr (inr (inr (inr ((lit≤ tt, lit≤ tt), refl, lit≤ tt, lit≤ tt, refl, refl))))

  -- 8: cabinet 0 tells the write's pair
  abbrev v8 : View V
  v8 = with_bus v7 (left (of_read 1 Query ∷ of_read 2 Query ∷ of_read 0 (Told written) ∷ []))

  abbrev m8 : Moment V
  m8 = record { before = v7; event = delivered 4 (Ok answer.Answered); after = v8 }

  step8 : Happens m8
  step8 = inr (inr (of_read 0 Query, refl, read_fits 0 Query (lit< tt), (refl, refl)))

  -- 9: cabinet 1 tells the first
  abbrev v9 : View V
  v9 = with_bus v7 (left (of_read 2 Query ∷ of_read 0 (Told written) ∷ of_read 1 (Told first) ∷ []))

  abbrev m9 : Moment V
  m9 = record { before = v8; event = delivered 4 (Ok answer.Answered); after = v9 }

  step9 : Happens m9
  step9 = inr (inr (of_read 1 Query, refl, read_fits 1 Query (lit< tt), (refl, refl)))

  -- 10: one answer is too few
  abbrev v10 : View V
  v10 = kept (with_bus v9 (left (of_read 2 Query ∷ of_read 1 (Told first) ∷ []))) 2 (read_hand 1 Querying) 0 written

  abbrev m10 : Moment V
  m10 = record { before = v9; event = delivered 5 (Ok answer.Kept); after = v10 }

  step10 : Happens m10
  step10 = inr (inr (of_read 0 (Told written), refl, read_fits 0 (Told written) (lit< tt), inl (refl, (λ m. omega (arith, m)), inl (picks_none, (refl, refl)))))

  -- 11: two are enough, and the read needs a second trip
  abbrev v11 : View V
  v11 =
      with_bus (hold (kept v10 2 (read_hand 3 Querying) 1 first) 2 (read_hand 3 (Setting written 0 0)))
      (left (of_read 2 Query ∷ of_read 0 (Set written) ∷ of_read 1 (Set written) ∷ of_read 2 (Set written) ∷ []))

  abbrev m11 : Moment V
  m11 = record { before = v10; event = delivered 5 (Ok answer.SecondTrip); after = v11 }

  step11 : Happens m11
  step11 =
      inr (inr (
        of_read 1 (Told first),
        refl,
        read_fits 1 (Told first) (lit< tt),
        inl (
          refl,
          (λ m. omega (arith, m)),
          inr (
            3,
            picks,
            (
              SecondTrip written.tag,
              0,
              judged first.tag written.tag _ later,
              (written, (0, refl, refl, refl, λ i u below m e same. omega arith), inl (lit≤ tt, (refl, refl))),
            ),
          ),
        ),
      ))

  -- 12: cabinet 0 has the pair
  abbrev v12 : View V
  v12 = with_bus v11 (left (of_read 2 Query ∷ of_read 1 (Set written) ∷ of_read 2 (Set written) ∷ of_read 0 Took ∷ []))

  abbrev m12 : Moment V
  m12 = record { before = v11; event = delivered 5 (Ok answer.Answered); after = v12 }

  step12 : Happens m12
  step12 = inr (inr (of_read 0 (Set written), refl, read_fits 0 (Set written) (lit< tt), (refl, (_, inr (upto_refl written.tag, refl), refl))))

  -- 13: cabinet 1 stores it
  abbrev v13 : View V
  v13 = with_bus (store v12 1 written) (left (of_read 2 Query ∷ of_read 2 (Set written) ∷ of_read 0 Took ∷ of_read 1 Took ∷ []))

  abbrev m13 : Moment V
  m13 = record { before = v12; event = delivered 5 (Ok answer.Answered); after = v13 }

  step13 : Happens m13
  step13 = inr (inr (of_read 1 (Set written), refl, read_fits 1 (Set written) (lit< tt), (refl, (_, inl (later, refl), refl))))

  -- 14: one took is too few
  abbrev v14 : View V
  v14 = hold (with_bus v13 (left (of_read 2 Query ∷ of_read 2 (Set written) ∷ of_read 1 Took ∷ []))) 2 (read_hand 3 (Setting written 0 1))

  abbrev m14 : Moment V
  m14 = record { before = v13; event = delivered 6 (Ok answer.Kept); after = v14 }

  step14 : Happens m14
  step14 = inr (inr (of_read 0 Took, refl, read_fits 0 Took (lit< tt), inl (refl, (λ m. omega (arith, m)), inl (picks_none, (refl, refl)))))

  -- 15: two are enough
  abbrev v15 : View V
  v15 =
      note (hold (with_bus v14 (left (of_read 2 Query ∷ of_read 2 (Set written) ∷ []))) 2 (read_hand 3 (Ended written 2 0)))
      (ended_row 2 2 written 2 0)

  abbrev m15 : Moment V
  m15 = record { before = v14; event = delivered 6 (Ok answer.Ended); after = v15 }

  step15 : Happens m15
  step15 = inr (inr (of_read 1 Took, refl, read_fits 1 Took (lit< tt), inl (refl, (λ m. omega (arith, m)), inr (3, picks, (refl, refl)))))

  -- 16: station 2 collects
  abbrev v16 : View V
  v16 = freed v15 2

  abbrev m16 : Moment V
  m16 = record { before = v15; event = collected 2 2 (Ok (result.Got written 2)); after = v16 }

  step16 : Happens m16
  step16 = inr (inr (read_hand 3 (Ended written 2 0), ((lit≤ tt, lit≤ tt), refl, refl, refl), (result.Got written 2, refl, refl), refl))

  abbrev moments : List (Moment V)
  moments = m16 ∷ m15 ∷ m14 ∷ m13 ∷ m12 ∷ m11 ∷ m10 ∷ m9 ∷ m8 ∷ m7 ∷ m6 ∷ m5 ∷ m4 ∷ m3 ∷ m2 ∷ m1 ∷ []

  run : Run (MajorityOf 3) start moments v16
  run =
      more (more (more (more (more (more (more (more (more (more (more (more (more (more (more (more none
      step1) step2) step3) step4) step5) step6) step7) step8) step9) step10) step11) step12) step13) step14) step15) step16

  -- the write began in the first call and had its tag in the fifth
  abbrev write_job : Placed moments
  write_job = record {
    sort = write;
    station = 1;
    job = 0;
    tag = written.tag;
    value = new;
    began_at = 0;
    moment = m1;
    at = at_time moments 15 m1 refl;
    begins = refl;
    got = (
      4,
      m5,
      written,
      at_time moments 11 m5 refl,
      ((1, of_write 1 (Told first), refl, refl, refl, refl), (write_hand 3 (Setting written 0 0), 0, 0, refl, refl)),
      refl,
    );
  }

  -- the read began in the seventh and ended in the fifteenth
  abbrev read_job : Placed moments
  read_job = record {
    sort = read;
    station = 2;
    job = 2;
    tag = written.tag;
    value = new;
    began_at = 6;
    moment = m7;
    at = at_time moments 9 m7 refl;
    begins = refl;
    got = (
      14,
      m15,
      written,
      at_time moments 1 m15 refl,
      ((6, of_read 1 Took, refl, refl, refl, refl), (read_hand 3 (Ended written 2 0), 2, 0, refl, refl)),
      refl,
      refl,
    );
  }

  -- the write is still on its second trip, and so no row says that it ended
  unfinished : (k : ℕ) → EndedAt moments write_job k → ⊥
  unfinished k (m, p, at, ends) =
      let shown = (order_of_jobs (MajorityOf 3) 3 laws (record { count = 0; value = old }) 2 256 1024 moments v16 run).1 in
      let row = (shown.ended write_job k m p at ends).2 in
      let once = once_after (MajorityOf 3) 3 laws (record { count = 0; value = old }) 2 256 1024 run in
      ((once.phase 1 (write_hand 3 (Setting written 0 0)) (lit≤ tt) refl).ended (length m.before.journal) row.0 row.1 p row.2).1

  pub known_run : known.KnownRun old new
  known_run = record {
    moments = moments;
    line = v16;
    run = run;
    events = refl;
    journal = refl;
    write_job = write_job;
    writes = (refl, refl, refl);
    unfinished = unfinished;
    read_job = read_job;
    reads = (refl, refl, refl);
    in_order = inr (refl, tt);
  }
