use Rattle.greedy_rules.specs.Examples.{remaining}
use Rattle.fewest_plan.proofs.ServedLemmas.{may_be_served}
use Rattle.fewest_plan.proofs.laws.every_plan_may_be_served.Goals as goal

pub returns : goal.returns
returns c = may_be_served c.every_plan_is_recorded.ensures (c.recorded_batches_by_key.ensures.later remaining)
