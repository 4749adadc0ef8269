use Rattle.std.proofs.Common.{refl}
use Rattle.alloc_pipeline.proofs.Keeps.{gives, learns_held}
use Rattle.alloc_pipeline.proofs.edge.give.Goals as goal

pub push_as-requires-clause-rule : goal.push_as-requires-clause-rule
push_as-requires-clause-rule g c = (gives _ _ _ _ _ c.requires.giving refl c.requires.next, learns_held _ _ c.requires.giving)
