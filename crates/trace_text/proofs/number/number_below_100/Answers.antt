use Rattle.std.proofs.Common.{arith}
use Rattle.trace_text.proofs.Digits.{longer-one}
use Rattle.trace_text.proofs.number.number_below_100.Goals as goal

pub returns : goal.returns
returns c =
    let (digit, is, few, some) = c.in_ok-first.ensures in
    longer-one c.args.text.now c.args.at c.in_ok-first.first c.longer.result.0 c.longer.result.1 (omega arith) (digit, is, few) (omega (arith, some)) c.longer.ensures
