use Rattle.std.proofs.Common.{◌≡◌, ◌+◌, List, map, length}
use Rattle.loss_world.specs.Arrivals.{Departure}
use Rattle.loss_world.specs.InTransit.{due_in}
use Rattle.endpoint_history.specs.Packets.{DownPacket}
use Rattle.endpoint_history.specs.Agent.{AgentHistory}
use Rattle.endpoint_agent.specs.Standing as agents
use Rattle.lane_rounds.specs.Standing.{HasCarried, spell_down}
use Rattle.lane_rounds.specs.Parts.{IsSameAgent, IsReadDown, Each, MayHear, hearing}
use Rattle.lane_rounds.proofs.Arriving.{HaveCome}
use Rattle.lane_rounds.proofs.rounds.hear_all.Given as goal

abbrev pub invariant-loop-length : goal.invariant-loop-length
invariant-loop-length l = record {
  same : IsSameAgent l.initial.agent l.agent;
  may_hear : (calls : AgentHistory) × (packets : List DownPacket) × agents.AgentStandsFor l.agent calls
      × (due_in l.world.flights l.round ≡ map (spell_down l.initial.agent.me) packets)
      × Each (IsReadDown l.initial.agent.me l.initial.agent.endpoints l.initial.agent.b) packets
      × MayHear l.initial.agent.g l.round calls packets;
  stands : (calls : AgentHistory) (packets : List DownPacket) → agents.AgentStandsFor l.initial.agent calls → due_in l.initial.world.flights l.round ≡ map (spell_down l.initial.agent.me) packets →
      Each (IsReadDown l.initial.agent.me l.initial.agent.endpoints l.initial.agent.b) packets →
      HaveCome (spell_down l.initial.agent.me) (IsReadDown l.initial.agent.me l.initial.agent.endpoints l.initial.agent.b) (λ heard. agents.AgentStandsFor l.agent (hearing l.round heard calls)) (due_in l.world.flights l.round) packets;
  carried : (departures : List Departure) → HasCarried l.initial.world l.round departures → HasCarried l.world (l.round + 1) departures;
}

abbrev pub decreases-loop-length : goal.decreases-loop-length
decreases-loop-length l = length (due_in l.world.flights l.round)
