use Rattle.std.proofs.Common.{◌+◌, ◌-◌, ◌/◌, length, refl, ap, arith}
use Rattle.trace_text.proofs.HeadFacts.{begins-all, same-before}
use Rattle.trace_text.proofs.plain_ask.AskHead.begins.Goals as goal

pub returns : goal.returns
returns c same =
    let head = c.args.self.now.bytes.now in
    let text = c.args.text.now in
    let last = length head - 4 in
    let short = c.args.self.now.short in
    let four = c.is_word_at.ensures c.if-not-is_word_at.false refl in
    let middle = c.is_word_at-2.ensures c.if-not-is_word_at-2.false (same-before head text (last / 2) 4 (omega arith) four) in
    let all = c.is_word_at-3.ensures same (same-before head text last (last / 2 + 4) (omega arith) middle) in
    begins-all head text (last + 4) (omega (arith, ap length c.args.self.now.says.0)) all
