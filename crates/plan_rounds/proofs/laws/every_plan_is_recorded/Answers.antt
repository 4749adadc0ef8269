use Rattle.plan_rounds.proofs.PlanRecord.{every_plan}
use Rattle.plan_rounds.proofs.laws.every_plan_is_recorded.Goals as goal

pub returns : goal.returns
returns c = every_plan
