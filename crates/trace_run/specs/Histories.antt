-- The calls of each endpoint's agent and lane in the run of a trace. From this project's own profile.
use Rattle.std.specs.Prelude.{ℕ}
use Rattle.endpoint_history.specs.Agent.{AgentHistory}
use Rattle.endpoint_history.specs.Lane.{LaneHistory}
use Rattle.endpoint_history.specs.Rounds.{PlayedEnds, played}
use Rattle.endpoint_history.specs.Steps.{agent_of, lane_of}
use Rattle.trace_run.specs.Run.{Setting, replayed}

-- what an endpoint has played after so many rounds
abbrev pub played_after : Setting → ℕ → ℕ → PlayedEnds
played_after setting rounds endpoint = played setting.endpoints setting.g ((replayed setting rounds).rounds endpoint)

-- the calls of its agent, and of its lane
abbrev pub agent_after : Setting → ℕ → ℕ → AgentHistory
agent_after setting rounds endpoint = agent_of (played_after setting rounds endpoint).steps

abbrev pub lane_after : Setting → ℕ → ℕ → LaneHistory
lane_after setting rounds endpoint = lane_of (played_after setting rounds endpoint).steps
