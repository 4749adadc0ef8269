use Rattle.alloc_pipeline.proofs.Keeps.{merges}
use Rattle.alloc_pipeline.proofs.edge.join.Goals as goal

pub absorb-requires-clause-rule : goal.absorb-requires-clause-rule
absorb-requires-clause-rule c = merges _ _ _ _ c.requires.giving c.requires.taking c.requires.even
