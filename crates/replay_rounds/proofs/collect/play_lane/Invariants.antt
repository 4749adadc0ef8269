use Rattle.std.proofs.Common.{◌≡◌, ◌+◌, length, map, take, drop}
use Rattle.clos_topology.specs.NetSlots.{SlotCores}
use Rattle.replay_rounds.specs.Standing.{LaneStands}
use Rattle.replay_rounds.specs.Collecting.{published_by, run_told, with_endpoint, MayPlayLane}
use Rattle.replay_rounds.proofs.collect.play_lane.Given as goal

abbrev pub invariant-loop-at : goal.invariant-loop-at
invariant-loop-at l = record {
  many : length l.rounds ≡ length l.initial.rounds;
  left : drop l.at l.rounds ≡ drop l.at l.initial.rounds;
  stands : (cores : SlotCores) → MayPlayLane l.window cores l.endpoint l.raws l.fn.lane l.initial.rounds
      → LaneStands (run_told l.window cores) (l.window.first + l.at) (published_by l.window.publisher.now) l.endpoint l.lane;
  played : (cores : SlotCores) → MayPlayLane l.window cores l.endpoint l.raws l.fn.lane l.initial.rounds
      → take l.at l.rounds ≡ map (with_endpoint (run_told l.window cores) l.window.trace.now l.endpoint) (take l.at l.initial.rounds);
}
