use Rattle.std.proofs.Common.{◌≡◌, ℕ, ◌+◌, ◌-◌, ◌*◌, ◌<◌, List, length, set, Some, refl, ap, ◌∙◌, arith}
use Rattle.telegrams.specs.declared.Pair.{Pair}
use Rattle.line.specs.Lines.{put}
use Rattle.line.specs.Seen.{answers_of, live_in_line}
use Rattle.calls.specs.Stations.{line}
use Rattle.calls.proofs.Told.{others_told, own_told, within_answers}
use Rattle.calls.proofs.Views.{same_view}
use Rattle.calls.proofs.hands.StationMemory.tell.Goals as goal

pub returns : goal.returns
returns g c =
    let a = c.args.self.now in
    let m = a.m.now in
    let n = length m.replicas.now in
    let xs = m.stations.now in
    let known = m.answers.now in
    let s = a.station in
    let x = c.args.cabinet in
    let hand = c.args.hand in
    let pair = c.args.pair in
    let there = a.there in
    let wide = c.requires.wide in
    let told = c.requires.told in
    let row : s - 1 < length xs = omega (arith, there.0, there.1) in
    let within : (s - 1) * n + x < length known = within_answers n (length xs) (s - 1) x (length known) row wide.0 wide.2 in
    let put_is : c.put.new.places ≡ set known ((s - 1) * n + x) pair =
    c.put.ensures ∙ ap (λ (k : ℕ). set known k pair) c.answer_place-place.ensures in
    let f = put ((line a).answers s) x (Some pair) in
    let done = c.put_hand.ensures f
    (λ k. ap (λ (live : List (Pair g.row.V.Denot)). live_in_line n live s k (Some hand)) put_is ∙ own_told n known xs s x there.0 there.1 wide.0 within pair told.0 hand told.1 told.2 k) in
    let lends = done.0.1 in (
      (
        done.0.0
            ∙ same_view _ _ refl refl refl
            (λ r k. ap (λ (live : List (Pair g.row.V.Denot)). put (answers_of xs n live) s f r k) put_is ∙ others_told n known xs s x there.0 there.1 wide.0 within pair f r k)
            refl refl refl refl,
        (lends.0, lends.1, lends.2, lends.3 ∙ c.put.auto.places, lends.4, lends.5, lends.6, lends.7),
      ),
      done.1,
      done.2,
    )
