use Rattle.path_workers.proofs.QueueLemmas.{merges}
use Rattle.path_workers.proofs.jobs.join.Goals as goal

pub absorb-requires-clause-rule : goal.absorb-requires-clause-rule
absorb-requires-clause-rule c = merges _ _ _ _ c.requires.parts
