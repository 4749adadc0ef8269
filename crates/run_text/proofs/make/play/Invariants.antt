use Rattle.std.proofs.Common.{◌≡◌, ◌+◌, ◌-◌}
use Rattle.run_text.proofs.PlayLemmas.{StandsForSome}
use Rattle.run_text.proofs.make.play.Given as goal

abbrev pub invariant-loop-replay : goal.invariant-loop-replay
invariant-loop-replay g l = record {
  b : l.replay.b ≡ l.initial.replay.b;
  g : l.replay.g ≡ l.initial.replay.g;
  stands : StandsForSome l.trace l.replay;
}

abbrev pub decreases-loop-replay : goal.decreases-loop-replay
decreases-loop-replay g l = (l.trace.rounds - l.replay.collected) + (l.trace.rounds - l.replay.allocated)
