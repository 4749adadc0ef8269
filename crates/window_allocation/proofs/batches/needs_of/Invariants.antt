use Rattle.std.proofs.Common.{◌≡◌, take, All}
use Rattle.window_allocation.proofs.batches.needs_of.Given as goal

abbrev pub invariant-loop-item : goal.invariant-loop-item
invariant-loop-item l = l.needs ≡ 0 → All (λ item. item.need ≡ 0) (take l.item-index l.items)
