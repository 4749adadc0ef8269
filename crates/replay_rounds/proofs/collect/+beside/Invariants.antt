use Rattle.std.proofs.Common.{◌+◌, ◌*◌, ◌-◌}
use Rattle.replay_rounds.proofs.collect.+beside.Given as goal

abbrev pub decreases-play_beside : goal.decreases-play_beside
decreases-play_beside g l = 4 * l.threads

abbrev pub decreases-play_halves : goal.decreases-play_halves
decreases-play_halves g l = 4 * l.threads - 1

abbrev pub decreases-play_halves-first : goal.decreases-play_halves-first
decreases-play_halves-first g l = 4 * l.half + 1

abbrev pub decreases-play_halves-second : goal.decreases-play_halves-second
decreases-play_halves-second g l = 4 * l.rest + 1
