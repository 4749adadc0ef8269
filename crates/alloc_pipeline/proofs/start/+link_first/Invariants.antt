use Rattle.std.proofs.Common.{vec_len}
use Rattle.alloc_pipeline.proofs.start.+link_first.Given as goal

abbrev pub decreases-link_first : goal.decreases-link_first
decreases-link_first g l = vec_len l.resting.now.workers
