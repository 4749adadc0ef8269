use Rattle.alloc_pipeline.proofs.Keeps.{takes, learns_left}
use Rattle.alloc_pipeline.proofs.edge.take.Goals as goal

pub pop_as-requires-clause-rule : goal.pop_as-requires-clause-rule
pop_as-requires-clause-rule g c = (takes _ _ c.requires.taking, learns_left _ _ c.requires.taking)
