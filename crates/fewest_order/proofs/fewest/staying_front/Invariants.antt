use Rattle.std.proofs.Common.{◌≡◌, All, take}
use Rattle.greedy_rules.specs.Demands.{with_batch}
use Rattle.fewest_order.proofs.fewest.staying_front.Given as goal

abbrev pub invariant-loop-at : goal.invariant-loop-at
invariant-loop-at l = All (λ item. with_batch l.batch.entries item ≡ item) (take l.at l.items)
