use Rattle.std.proofs.Common.{◌≡◌, map}
use Rattle.std.specs.List.{range_with_len}
use Rattle.replay_rounds.specs.Collecting.{raw_part}
use Rattle.replay_rounds.proofs.collect.read_raws.Given as goal

abbrev pub invariant-loop-at : goal.invariant-loop-at
invariant-loop-at l = l.raws.items ≡ map (raw_part l.window.trace.now) (range_with_len l.window.first l.at)
