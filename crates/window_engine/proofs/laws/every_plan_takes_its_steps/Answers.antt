use Rattle.window_engine.proofs.StepCounts.{done_after}
use Rattle.window_engine.proofs.laws.every_plan_takes_its_steps.Goals as goal

pub returns : goal.returns
returns c = done_after
