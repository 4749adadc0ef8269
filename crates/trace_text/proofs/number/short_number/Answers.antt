use Rattle.std.proofs.Common.{arith}
use Rattle.trace_text.proofs.Digits.{longer-at, one-at}
use Rattle.trace_text.proofs.number.short_number.Goals as goal

pub returns-in_default-digit : goal.returns-in_default-digit
returns-in_default-digit c =
    let (digit, is, few, some) = c.in-Some.ensures in
    one-at c.args.text.now c.args.at c.in-Some.first (omega arith) (digit, is, few)

pub returns : goal.returns
returns c =
    let (digit, is, few, some) = c.in-Some.ensures in
    longer-at c.args.text.now c.args.at c.in-Some.first c.in-Some-digit.second c.longer.result.0 c.longer.result.1 (omega arith) (digit, is, few) c.in-Some-digit.ensures (omega (arith, some)) c.longer.ensures
