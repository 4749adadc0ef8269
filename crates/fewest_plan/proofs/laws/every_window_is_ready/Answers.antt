use Rattle.greedy_rules.specs.Examples.{remaining}
use Rattle.fewest_plan.proofs.WindowLemmas.{every_window}
use Rattle.fewest_plan.proofs.laws.every_window_is_ready.Goals as goal

pub returns : goal.returns
returns c =
    every_window c.every_plan_is_recorded.ensures c.every_plan_may_be_served.ensures (c.recorded_batches_by_key.ensures.slots remaining) (c.schedules_by_key_go_on.ensures.more remaining)
    (c.schedules_by_key_go_on.ensures.front remaining) (c.schedules_by_key_go_on.ensures.count remaining)
