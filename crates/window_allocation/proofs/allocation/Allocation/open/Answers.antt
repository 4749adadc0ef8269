use Rattle.std.proofs.Common.{arith}
use Rattle.std.proofs.lemmas.Nat.{mul-le}
use Rattle.window_allocation.proofs.allocation.Allocation.open.Goals as goal

pub open-requires-3-clause-slots : goal.open-requires-3-clause-slots
open-requires-3-clause-slots c = omega (arith, mul-le c.from-2.result c.from-3.result 16 64 (omega (arith, c.from-2.ensures, c.requires.g)) (omega (arith, c.from-3.ensures, c.requires.b)))
