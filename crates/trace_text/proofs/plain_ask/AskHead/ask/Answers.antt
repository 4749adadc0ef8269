use Rattle.std.proofs.Common.{drop, length}
use Rattle.trace_text.proofs.EndFacts.{headed-ask}
use Rattle.trace_text.proofs.plain_ask.AskHead.ask.Goals as goal

pub returns-clause-ask : goal.returns-clause-ask
returns-clause-ask c =
    let text = c.args.text.now in
    let head = c.args.self.now in
    headed-ask text head.bytes.now (drop (length head.bytes.now) text) (drop c.in_ok-src.at text) (drop c.in_ok-dst.at text) c.in_ok-slots.rest.now _ head.says (c.begins.ensures c.if-not-begins.false)
    c.in_ok-src.ensures.number c.in_ok-dst.ensures.number c.in_ok-slots.ensures
