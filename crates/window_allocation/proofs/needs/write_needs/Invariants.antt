use Rattle.std.proofs.Common.{take}
use Rattle.window_allocation.specs.Needs.{Needs}
use Rattle.window_allocation.proofs.needs.write_needs.Given as goal

abbrev pub invariant-loop-at : goal.invariant-loop-at
invariant-loop-at l = Needs l.endpoints (take l.at l.list.items) l.needs
