use Rattle.std.proofs.Common.{◌<◌, ◌+◌, ◌*◌, ◌/◌, ◌%◌, ◌^◌, ℕ, length, bit_or, ◌∙◌, arith}
use Rattle.std.proofs.lemmas.List.{get_or_default}
use Rattle.greedy_rules.proofs.SenderLemmas.{word_written, bit_written}
use Rattle.greedy_rules.proofs.TableLemmas.{fits}
use Rattle.greedy_rules.proofs.senders.Senders.set.Goals as goal

pub returns-clause-set : goal.returns-clause-set
returns-clause-set c = λ at other.
    let now = c.args.self.now in
    let words = c.requires.2 in
    let word : ℕ = c.args.src / 64 in
    let place : ℕ = c.args.slot * now.each + word in
    let old : ℕ = c.index_mut.result.now in
    let below : word < now.each = omega (arith, words.each, c.requires.4) in
    let inside : place < length now.words.items = omega (arith, fits now.each c.requires.0 c.args.slot c.requires.3, below, words.count, now.words.ok.0) in
    word_written now.each now.words.items c.args.slot word (bit_or old (1 * 2 ^ (c.args.src % 64) % 2 ^ 64)) below inside at other
    ∙ bit_written now.each now.words.items c.args.slot c.args.src old (c.index_mut.ensures.value ∙ get_or_default now.words.items place old 0 inside) below at other
