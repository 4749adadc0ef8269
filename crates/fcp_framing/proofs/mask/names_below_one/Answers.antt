use Rattle.std.proofs.Common.{sym}
use Rattle.fcp_framing.proofs.BelowOne.{highest_tells, zero_tells}
use Rattle.fcp_framing.proofs.mask.names_below_one.Goals as goal

pub returns-then-mask-ne0 : goal.returns-then-mask-ne0
returns-then-mask-ne0 c = highest_tells c.args.high c.args.mask c.ilog2.result c.ilog2.ensures.bound c.ilog2.ensures.power_le c.ilog2.ensures.next_power_gt

pub returns-else-mask-ne0 : goal.returns-else-mask-ne0
returns-else-mask-ne0 c = rw c.if-mask-ne0.false (sym (zero_tells c.args.high))
