use Rattle.std.proofs.Common.{◌≡◌, [], take, All}
use Rattle.window_allocation.proofs.batches.count_empty.Given as goal

abbrev pub invariant-loop-count : goal.invariant-loop-count
invariant-loop-count l = All (λ batch. batch.entries ≡ []) (take l.count l.batches)
