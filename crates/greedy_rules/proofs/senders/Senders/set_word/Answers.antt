use Rattle.std.proofs.Common.{arith}
use Rattle.greedy_rules.proofs.SenderLemmas.{word_written}
use Rattle.greedy_rules.proofs.TableLemmas.{fits}
use Rattle.greedy_rules.proofs.senders.Senders.set_word.Goals as goal

pub returns-clause-set : goal.returns-clause-set
returns-clause-set c = λ at src.
    let now = c.args.self.now in
    let words = c.requires.slot in
    word_written now.each now.words.items c.args.slot c.args.word c.args.bits c.requires.word
    (omega (arith, fits now.each words.0 c.args.slot words.3, c.requires.word, words.2.count, now.words.ok.0)) at src
