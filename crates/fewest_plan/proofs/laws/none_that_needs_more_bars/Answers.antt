use Rattle.greedy_rules.specs.Examples.{remaining}
use Rattle.fewest_plan.proofs.BarLemmas.{none_bars}
use Rattle.fewest_plan.proofs.laws.none_that_needs_more_bars.Goals as goal

pub returns : goal.returns
returns c = none_bars c.every_plan_is_recorded.ensures (c.recorded_batches_by_key.ensures.later remaining) (c.schedules_by_key_go_on.ensures.each remaining) c.none_that_needs_more_bars.ensures
