use Rattle.std.proofs.Common.{◌≡◌, false, take, All}
use Rattle.slot_batches.specs.Marks.{has_mark}
use Rattle.window_allocation.proofs.guess.count_beyond.Given as goal

abbrev pub invariant-loop-at : goal.invariant-loop-at
invariant-loop-at l = All (λ item. has_mark l.marks item.flow ≡ false) (take l.at l.items)
