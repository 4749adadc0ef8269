use Rattle.std.proofs.Common.{rules, refl}
use Rattle.alloc_pipeline.proofs.Keeps.{marks, unmarks, learns_bare, learns_marked}
use Rattle.alloc_pipeline.proofs.edge.begin.Goals as goal

pub push_as-requires-clause-rule : goal.push_as-requires-clause-rule
push_as-requires-clause-rule g c = (marks _ _ _ _ _ c.requires.whole.0 c.requires.whole.1 refl, learns_bare _ _ c.requires.whole.0 c.requires.whole.1)

pub pop_as-requires-clause-rule : goal.pop_as-requires-clause-rule
pop_as-requires-clause-rule g c = (unmarks _ _ (search rules) (search rules), learns_marked _ _ (search rules) (search rules))
