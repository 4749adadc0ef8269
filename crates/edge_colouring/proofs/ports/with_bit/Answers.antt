use Rattle.edge_colouring.proofs.MaskLemmas.{bit_set, bit_cleared}
use Rattle.edge_colouring.proofs.ports.with_bit.Goals as goal

pub returns-then-bit : goal.returns-then-bit
returns-then-bit c = λ i below. bit_set c.args.mask c.args.at i c.args.bit c.requires c.if-bit.true

pub returns-else-bit : goal.returns-else-bit
returns-else-bit c = λ i below. bit_cleared c.args.mask c.args.at i c.args.bit c.requires below c.if-bit.false
