-- When an agent stands for the calls that were made of it (this project's own profile).
use Rattle.std.specs.Prelude.{◌≡◌, ◌<◌, ◌≤◌, ℕ, ◌+◌, ◌*◌, not, [], unwrap_or}
use Rattle.ack_window.specs.Sends.{newest_content}
use Rattle.ack_window.specs.Versions.{reorder_of, span_of}
use Rattle.ack_window.specs.Windows.{HasHeard, HasDone}
use Rattle.endpoint_history.specs.Agent.{AgentHistory, epoch_of, version_of, arrived, taken, is_none_taken, asked, missed, numbers}
use Rattle.endpoint_history.specs.Sending.{slots_of_telling, due, sends, rounds_sent}
use Rattle.endpoint_agent.specs.declared.lines.FlowLine.{FlowLine}
use Rattle.endpoint_agent.specs.Carrying.{bare_numbers, greatest_acknowledged, carried_from}
use Rattle.endpoint_agent.specs.Timely.{AreTold}
use Rattle.endpoint_agent.specs.State.{AgentState, line_at, first_waiting, waits_of}

abbrev pub line_of : ℕ → ℕ → ℕ → AgentHistory → ℕ → FlowLine
line_of endpoints b g history dst = record {
  asked = asked history dst;
  sent = sends b g history dst;
  missed = missed g history dst;
  carried_from = carried_from endpoints g history dst;
}

pub record AgentStandsFor (agent : AgentState) (history : AgentHistory) : Type 0 where
  pub epoch : agent.epoch ≡ epoch_of history
  pub version : agent.version ≡ version_of history
  pub arrived : HasHeard agent.arrived (arrived history)
  pub sent : HasDone agent.sent (bare_numbers agent.endpoints agent.g history)
  pub has_begun : agent.has_begun ≡ not (is_none_taken (taken history))
  pub acknowledged : agent.acknowledged ≡ greatest_acknowledged (reorder_of agent.version) (span_of agent.version) (bare_numbers agent.endpoints agent.g history)
  pub named : agent.named ≡ unwrap_or (newest_content (numbers agent.endpoints agent.g history)) []
  pub lines : (dst : ℕ) → dst < agent.endpoints → line_at agent.lines dst ≡ line_of agent.endpoints agent.b agent.g history dst
  -- what waits of a batch is what is due when it is used
  pub waiting : (batch : ℕ) → first_waiting agent.g agent.round ≤ batch →
      slots_of_telling agent.b (record { batch = batch; told = waits_of agent.g agent.round agent.waiting batch }) ≡ due agent.b agent.g history (batch + 2 * agent.g + 2)
  pub round : agent.round ≡ rounds_sent history
  pub told : AreTold agent.round (taken history)

-- there are calls for which it stands
abbrev pub HasHistory : AgentState → Type 0
HasHistory agent = (history : AgentHistory) × AgentStandsFor agent history
