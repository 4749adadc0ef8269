use Rattle.std.proofs.Common.{◌≡◌, ◌+◌, List, map, length}
use Rattle.loss_world.specs.Arrivals.{Departure}
use Rattle.loss_world.specs.InTransit.{due_in}
use Rattle.endpoint_history.specs.Packets.{UpPacket}
use Rattle.endpoint_history.specs.Lane.{LaneHistory}
use Rattle.endpoint_history.specs.Counts.{Allocation}
use Rattle.arbiter_lane.specs.Standing as lanes
use Rattle.lane_rounds.specs.Standing.{HasCarried, spell_up}
use Rattle.lane_rounds.specs.Parts.{IsReadUp, Each, reading}
use Rattle.lane_rounds.proofs.Arriving.{HaveCome}
use Rattle.arbiter_lane.specs.State.{IsSameLane}
use Rattle.lane_rounds.proofs.rounds.read_all.Given as goal

abbrev pub invariant-loop-length : goal.invariant-loop-length
invariant-loop-length l = record {
  same : IsSameLane l.initial.lane l.lane;
  stands : (history : LaneHistory) (allocations : List Allocation) (packets : List UpPacket) → lanes.LaneStandsFor l.initial.lane history allocations → due_in l.initial.world.flights l.round ≡ map (spell_up l.initial.lane.endpoint) packets →
      Each (IsReadUp l.initial.lane.endpoint l.initial.lane.endpoints) packets →
      HaveCome (spell_up l.initial.lane.endpoint) (IsReadUp l.initial.lane.endpoint l.initial.lane.endpoints) (λ heard. lanes.LaneStandsFor l.lane (reading l.round heard history) allocations) (due_in l.world.flights l.round) packets;
  carried : (departures : List Departure) → HasCarried l.initial.world l.round departures → HasCarried l.world (l.round + 1) departures;
}

abbrev pub decreases-loop-length : goal.decreases-loop-length
decreases-loop-length l = length (due_in l.world.flights l.round)
