use Rattle.trace_text.proofs.EndFacts.{headed-ask}
use Rattle.trace_text.proofs.plain_ask.plain_ask.Goals as goal

pub returns : goal.returns
returns c =
    headed-ask c.args.text.now c.in_ok-head.head.bytes.now c.in_ok-head.rest.now c.in_ok-src.rest.now c.in_ok-dst.rest.now c.in_ok-slots.rest.now _ c.in_ok-head.head.says c.in_ok-head.ensures c.in_ok-src.ensures
    c.in_ok-dst.ensures c.in_ok-slots.ensures
