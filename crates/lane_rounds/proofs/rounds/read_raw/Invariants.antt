use Rattle.std.proofs.Common.{List, drop}
use Rattle.endpoint_history.specs.Lane.{LaneHistory}
use Rattle.endpoint_history.specs.Counts.{Allocation}
use Rattle.arbiter_lane.specs.Standing as lanes
use Rattle.lane_rounds.proofs.Raw.{HasRead}
use Rattle.arbiter_lane.specs.State.{IsSameLane}
use Rattle.lane_rounds.proofs.rounds.read_raw.Given as goal

abbrev pub invariant-loop-packet : goal.invariant-loop-packet
invariant-loop-packet l = record {
  same : IsSameLane l.initial.lane l.lane;
  stands : (history : LaneHistory) (allocations : List Allocation) → lanes.LaneStandsFor l.initial.lane history allocations →
      HasRead l.initial.lane.endpoint l.initial.lane.endpoints l.round l.raw (drop l.packet-index l.raw) history allocations l.lane l.initial.refused l.refused;
}
