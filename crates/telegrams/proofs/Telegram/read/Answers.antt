use Rattle.telegrams.proofs.Runs.{exact, one_run}
use Rattle.telegrams.proofs.Telegram.read.Goals as goal

pub returns : goal.returns
returns g c =
    let m = g.V.Value in
    let laws = g.met.V.Value in
    record {
      reads = c.read_words.ensures;
      exact = exact m.valid m.run m.judges laws.long laws.apart laws.good c.args.words.now c.read_words.result c.read_words.ensures;
      alone = one_run m.valid m.run m.judges laws.long laws.apart;
    }
