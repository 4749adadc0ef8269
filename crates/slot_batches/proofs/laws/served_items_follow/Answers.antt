use Rattle.slot_batches.proofs.SortedRuns.{two_runs, item_after_cases}
use Rattle.slot_batches.proofs.laws.served_items_follow.Goals as goal

pub returns-clause-order : goal.returns-clause-order
returns-clause-order c = two_runs

pub returns-clause-items : goal.returns-clause-items
returns-clause-items c = item_after_cases
