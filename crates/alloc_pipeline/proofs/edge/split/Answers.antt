use Rattle.alloc_pipeline.proofs.Keeps.{opens}
use Rattle.alloc_pipeline.proofs.edge.split.Goals as goal

pub another-requires-clause-rule : goal.another-requires-clause-rule
another-requires-clause-rule c = opens _ _ c.requires.whole.0 c.requires.whole.1
