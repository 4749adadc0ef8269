use Rattle.path_workers.proofs.QueueLemmas.{forks}
use Rattle.path_workers.proofs.jobs.split.Goals as goal

pub another-requires-clause-rule : goal.another-requires-clause-rule
another-requires-clause-rule c = forks _ _ c.requires.parts
