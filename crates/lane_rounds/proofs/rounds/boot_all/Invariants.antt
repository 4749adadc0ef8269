use Rattle.std.proofs.Common.{◌≡◌, ◌+◌, replicate}
use Rattle.endpoint_history.specs.Agent.{AgentHistory, Boots}
use Rattle.endpoint_agent.specs.Standing as agents
use Rattle.lane_rounds.specs.State.{with_each}
use Rattle.lane_rounds.specs.Parts.{IsSameAgent}
use Rattle.lane_rounds.proofs.rounds.boot_all.Given as goal

abbrev pub invariant-loop : goal.invariant-loop
invariant-loop l = record {
  same : IsSameAgent l.initial.agent l.agent;
  epoch : l.agent.epoch ≡ l.initial.agent.epoch + l.counter;
  stands : (calls : AgentHistory) → agents.AgentStandsFor l.initial.agent calls → agents.AgentStandsFor l.agent (with_each Boots (replicate l.counter l.version) calls);
}
