use Rattle.std.proofs.Common.{map, length, rules, IfOk, ◌≡◌, ◌∙◌, ◌/◌, refl, ap}
use Rattle.std.proofs.iter.runs.Made.{chains}
use Rattle.words.proofs.ByteRows.{by_fours, word_of}
use Rattle.words.proofs.bytes.be_words.Goals as goal

pub returns : goal.returns
returns c =
    let bs = c.args.bytes.now in
    let all = ap (map word_of) c.as_chunks.ensures.front ∙ by_fours (length bs / 4) bs refl in
    let made : IfOk c.collect.result (λ words. words.items ≡ map word_of c.as_chunks.result.0.now) = search (rules, chains) in
    rw all at made
