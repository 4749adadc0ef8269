use Rattle.path_workers.proofs.QueueLemmas.{puts}
use Rattle.path_workers.proofs.jobs.put.Goals as goal

pub try_push_as-requires-clause-rule : goal.try_push_as-requires-clause-rule
try_push_as-requires-clause-rule g c = puts _ _ _ _ c.requires.parts
