use Rattle.std.proofs.Common.{◌≡◌, ◌<◌, ◌≤◌, ℕ, length}
use Rattle.std.specs.List.{slice_index_or}
use Rattle.replay_rounds.specs.Collecting.{with_behind, RoundPart}
use Rattle.replay_rounds.proofs.collect.append_rounds.Given as goal

abbrev pub invariant-loop-at : goal.invariant-loop-at
invariant-loop-at l = record {
  many : length l.rounds ≡ length l.initial.rounds;
  done : (k : ℕ) (d : RoundPart) → k < l.at → k < length l.initial.rounds → slice_index_or l.rounds k d ≡ with_behind (slice_index_or l.behind k d) (slice_index_or l.initial.rounds k d);
  left : (k : ℕ) (d : RoundPart) → l.at ≤ k → slice_index_or l.rounds k d ≡ slice_index_or l.initial.rounds k d;
}
