use Rattle.std.proofs.Common.{ℕ, take, drop}
use Rattle.endpoint_history.specs.Agent.{AgentHistory, Asks}
use Rattle.endpoint_agent.specs.Standing as agents
use Rattle.lane_rounds.specs.Parts.{IsSameAgent}
use Rattle.lane_rounds.specs.State.{MayAsk, with_each}
use Rattle.lane_rounds.proofs.rounds.ask_all.Given as goal

abbrev pub invariant-loop-dst : goal.invariant-loop-dst
invariant-loop-dst l = record {
  same : IsSameAgent l.initial.agent l.agent;
  may_ask : (calls : AgentHistory) × agents.AgentStandsFor l.agent calls × MayAsk l.initial.agent.me l.initial.agent.endpoints calls (drop l.dst-index l.asks);
  stands : (calls : AgentHistory) → agents.AgentStandsFor l.initial.agent calls → agents.AgentStandsFor l.agent (with_each (λ (a : ℕ × ℕ). Asks a.0 a.1) (take l.dst-index l.asks) calls);
}
