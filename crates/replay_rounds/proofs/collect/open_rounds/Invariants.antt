use Rattle.std.proofs.Common.{◌≡◌, map}
use Rattle.std.specs.List.{range_with_len}
use Rattle.replay_rounds.specs.Collecting.{blank_round}
use Rattle.replay_rounds.proofs.collect.open_rounds.Given as goal

abbrev pub invariant-loop-at : goal.invariant-loop-at
invariant-loop-at l = l.rounds.items ≡ map (blank_round l.window.trace.now) (range_with_len l.window.first l.at)
