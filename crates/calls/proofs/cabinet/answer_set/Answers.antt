use Rattle.std.proofs.Common.{[], ◌∷◌, List, ap, ◌∙◌, arith}
use Rattle.std.specs.List.{remove}
use Rattle.telegrams.specs.declared.Telegram.{Telegram}
use Rattle.telegrams.specs.declared.TelegramKind.TheVariants.{Took}
use Rattle.line.specs.Lines.{View, reply, send, with_bus}
use Rattle.line.specs.Seen.{seen}
use Rattle.calls.specs.Changes.{off}
use Rattle.calls.proofs.Outcomes.{lends_on}
use Rattle.calls.proofs.Sending.{bus_kept, stored_bus, stored_off}
use Rattle.calls.proofs.cabinet.answer_set.Goals as goal

pub reply-requires : goal.reply-requires
reply-requires g c =
    let m = c.args.m.now in
    let b = c.offer.new.m in
    let w = c.offer.ensures.0 in
    let stored = stored_bus (seen m) w c.args.t.cabinet c.args.pair c.offer.ensures.1 in
    let lends = c.offer.ensures.2.1 in
    let sent = bus_kept m b c.requires.0.0.0 lends.5 (ap (λ (v : View g.row.V.Denot). v.bus) c.offer.ensures.2.0 ∙ stored.0) in
    ((lends.5, lends.7), omega (arith, c.requires.0.1))

pub returns : goal.returns
returns g c =
    let m = c.args.m.now in
    let b = c.offer.new.m in
    let w = c.offer.ensures.0 in
    let place = c.args.place in
    let bus = remove (seen m).bus place in
    let answer = reply c.args.t Took ∷ [] in
    let stored = stored_bus (seen m) w c.args.t.cabinet c.args.pair c.offer.ensures.1 in (
      with_bus w bus,
      stored_off (seen m) w c.args.t.cabinet c.args.pair c.offer.ensures.1 bus,
      (
        c.reply.ensures.0
            ∙ ap (λ (v : View g.row.V.Denot). send (off v place) answer) c.offer.ensures.2.0
            ∙ ap (λ (ts : List (Telegram g.row.V.Denot)). send (with_bus w (remove ts place)) answer) stored.0,
        lends_on m b c.reply.new.m c.offer.ensures.2.1 c.reply.ensures.1,
      ),
    )
