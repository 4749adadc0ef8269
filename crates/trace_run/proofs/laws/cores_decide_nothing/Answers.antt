-- The batches.
use Rattle.trace_run.proofs.CoresOfRun.{cores_decide_nothing}
use Rattle.trace_run.proofs.laws.cores_decide_nothing.Goals as goal

pub returns : goal.returns
returns c = cores_decide_nothing
