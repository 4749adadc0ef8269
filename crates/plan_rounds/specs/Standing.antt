-- What a collection stands for: a trace, of which some rounds are collected (this project's own profile).
use Rattle.std.specs.Prelude.{◌≡◌, ◌≤◌, ℕ, List, take}
use Rattle.clos_topology.specs.Network.{endpoints_of}
use Rattle.trace_text.specs.Trace.{TraceContent}
use Rattle.plan_rounds.specs.Tallies.{Tallies}

-- what contracts see of it: the rounds that it has done, and the slots that were asked for of each flow
pub record Collected : Type 0 where
  pub endpoints : ℕ
  pub rounds : ℕ
  pub asked : List ℕ

-- so many rounds of the trace were collected
pub record HasCollected (trace : TraceContent) (half : Collected) : Type 0 where
  pub within : half.rounds ≤ trace.rounds
  pub endpoints : half.endpoints ≡ endpoints_of trace.net
  pub asked : Tallies (endpoints_of trace.net) (take half.rounds trace.asked) half.asked
