use Rattle.std.proofs.Common.{vec_len}
use Rattle.alloc_pipeline.proofs.play.+play_round.Given as goal

abbrev pub decreases-play_round : goal.decreases-play_round
decreases-play_round g l = vec_len l.players.now
