use Rattle.alloc_pipeline.proofs.Keeps.{begins}
use Rattle.alloc_pipeline.proofs.edge.open.Goals as goal

pub ruled-requires-clause-rule : goal.ruled-requires-clause-rule
ruled-requires-clause-rule c = begins
