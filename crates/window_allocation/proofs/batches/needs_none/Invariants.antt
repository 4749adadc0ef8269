use Rattle.std.proofs.Common.{◌≡◌, All}
use Rattle.window_allocation.proofs.batches.needs_none.Given as goal

abbrev pub invariant-loop-few : goal.invariant-loop-few
invariant-loop-few l = All (λ item. item.need ≡ 0) l.few-iterator.rest.now → All (λ item. item.need ≡ 0) l.items
