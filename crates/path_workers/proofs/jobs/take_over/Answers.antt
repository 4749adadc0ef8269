use Rattle.path_workers.proofs.QueueLemmas.{hands_over}
use Rattle.path_workers.proofs.jobs.take_over.Goals as goal

pub another-requires-clause-rule : goal.another-requires-clause-rule
another-requires-clause-rule c = hands_over _ _ c.requires.parts
