-- Step after step.
use Rattle.trace_run.proofs.Windows.{steps_go_on, every_step_is_in_windows, what_is_told_is_published}
use Rattle.trace_run.proofs.laws.steps_go_on.Goals as goal

pub returns : goal.returns
returns c = record { step = steps_go_on; each = every_step_is_in_windows; published = what_is_told_is_published }
