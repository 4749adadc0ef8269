use Rattle.std.proofs.Common.{◌*◌, take, All}
use Rattle.window_allocation.specs.Reach.{IsNamed}
use Rattle.window_allocation.proofs.reach.all_out.Given as goal

abbrev pub invariant-loop-item : goal.invariant-loop-item
invariant-loop-item l = All (IsNamed l.words (l.count * l.b)) (take l.item-index l.items)
