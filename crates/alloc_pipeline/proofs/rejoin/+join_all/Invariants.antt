use Rattle.std.proofs.Common.{vec_len}
use Rattle.alloc_pipeline.proofs.rejoin.+join_all.Given as goal

abbrev pub decreases-join_all : goal.decreases-join_all
decreases-join_all l = vec_len l.players.now
