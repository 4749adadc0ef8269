pub mod Raw
pub mod Outside
pub mod Refused
pub mod State
pub mod Standing
pub mod Rounds
pub mod Parts
pub use Rattle.flow_ledger.specs.FlowCount
pub use Rattle.flow_ledger.specs.declared.FlowCount as Count
pub use Rattle.endpoint_agent.specs.Standing as AgentStanding
pub use Rattle.endpoint_agent.specs.Lines as AgentLines
pub use Rattle.endpoint_agent.specs.declared.lines.Sent
