use Rattle.path_workers.proofs.QueueLemmas.{begins}
use Rattle.path_workers.proofs.jobs.open.Goals as goal

pub ruled-requires-clause-rule : goal.ruled-requires-clause-rule
ruled-requires-clause-rule c = begins
