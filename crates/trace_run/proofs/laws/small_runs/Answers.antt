-- Worked runs.
use Rattle.trace_run.proofs.Examples.{worked_runs}
use Rattle.trace_run.proofs.laws.small_runs.Goals as goal

pub returns : goal.returns
returns c = worked_runs
