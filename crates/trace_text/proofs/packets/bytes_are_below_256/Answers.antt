use Rattle.std.proofs.Common.{arith}
use Rattle.std.proofs.lemmas.List.{get_or_default}
use Rattle.trace_text.proofs.packets.bytes_are_below_256.Goals as goal

pub returns : goal.returns
returns c = λ i d below. omega (arith, get_or_default c.args.bytes.now i d 0 below, c.type_inv.bytes i)
