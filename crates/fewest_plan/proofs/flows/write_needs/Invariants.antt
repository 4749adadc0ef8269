use Rattle.std.proofs.Common.{take}
use Rattle.window_allocation.specs.Needs.{Needs}
use Rattle.fewest_plan.proofs.flows.write_needs.Given as goal

abbrev pub invariant-loop-item : goal.invariant-loop-item
invariant-loop-item l = Needs l.endpoints (take l.item-index l.items) l.needs
