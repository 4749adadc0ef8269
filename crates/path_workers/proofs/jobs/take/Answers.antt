use Rattle.path_workers.proofs.QueueLemmas.{takes}
use Rattle.path_workers.proofs.jobs.take.Goals as goal

pub try_pop_as-requires-clause-rule : goal.try_pop_as-requires-clause-rule
try_pop_as-requires-clause-rule c = takes _ _ c.requires.parts
