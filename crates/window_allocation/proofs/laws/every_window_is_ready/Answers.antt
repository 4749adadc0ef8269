use Rattle.window_allocation.proofs.WindowLemmas.{every_window}
use Rattle.window_allocation.proofs.laws.every_window_is_ready.Goals as goal

pub returns : goal.returns
returns c =
    every_window c.recorded_batches_may_be_applied.ensures.all c.recorded_batches_may_be_applied.ensures.later c.every_recorded_slot.ensures c.schedules_go_on.ensures.front c.schedules_go_on.ensures.count c.flows_fit_pairs.ensures c.every_batch_balances.ensures
