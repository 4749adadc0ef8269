use Rattle.plan_rounds.proofs.PlanRecord.{adds_what_is_asked}
use Rattle.plan_rounds.proofs.laws.every_plan_adds_what_is_asked.Goals as goal

pub returns : goal.returns
returns c = adds_what_is_asked
