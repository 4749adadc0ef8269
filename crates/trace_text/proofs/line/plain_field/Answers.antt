use Rattle.std.proofs.Common.{get_or}
use Rattle.trace_text.proofs.EndFacts.{ends-by, split-byte}
use Rattle.trace_text.proofs.line.plain_field.Goals as goal

pub returns : goal.returns
returns c =
    let text = c.args.text.now in
    let at = c.in_ok-at.at in
    (get_or text at 0, c.in_ok-at.ensures.plain, ends-by (get_or text at 0) c.in_ok-at.ensures.end, split-byte text at c.in_ok-at.ensures.within)
