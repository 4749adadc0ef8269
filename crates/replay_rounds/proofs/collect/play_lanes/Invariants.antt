use Rattle.std.proofs.Common.{◌≡◌, ◌+◌, ◌<◌, ◌≤◌, ℕ, length, map}
use Rattle.std.specs.List.{range_with_len, slice_index_or}
use Rattle.clos_topology.specs.NetSlots.{SlotCores}
use Rattle.lane_rounds.specs.State.{RoundsState}
use Rattle.replay_rounds.specs.Standing.{LaneStands}
use Rattle.replay_rounds.specs.Collecting.{round_part, published_by, run_told, MayPlayLanes}
use Rattle.replay_rounds.proofs.collect.play_lanes.Given as goal

abbrev pub invariant-loop-at : goal.invariant-loop-at
invariant-loop-at l = record {
  many : length l.lanes ≡ length l.initial.lanes;
  wide : length l.rounds ≡ length l.initial.rounds;
  done : (cores : SlotCores) → MayPlayLanes l.window cores l.from l.raws l.initial.lanes → (k : ℕ) (d : RoundsState) → k < length l.initial.lanes → k < l.at
      → LaneStands (run_told l.window cores) (l.window.first + l.window.count) (published_by l.window.publisher.now) (l.from + k) (slice_index_or l.lanes k d);
  left : (k : ℕ) (d : RoundsState) → l.at ≤ k → slice_index_or l.lanes k d ≡ slice_index_or l.initial.lanes k d;
  played : (cores : SlotCores) → MayPlayLanes l.window cores l.from l.raws l.initial.lanes
      → l.rounds ≡ map (round_part (run_told l.window cores) l.window.trace.now l.from l.at) (range_with_len l.window.first l.window.count);
}
