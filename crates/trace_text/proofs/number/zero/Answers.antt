use Rattle.trace_text.proofs.Digits.{one-at}
use Rattle.trace_text.proofs.number.zero.Goals as goal

pub returns : goal.returns
returns c = one-at c.args.text.now c.args.at c.in_ok-number.number c.requires c.in_ok-number.ensures
