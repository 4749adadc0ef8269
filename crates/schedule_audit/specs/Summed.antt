-- What the lines that sum a text up are held against (this project's own profile).
use Rattle.std.specs.Prelude.{◌≡◌, ℕ, ◌+◌}
use Rattle.greedy_rules.specs.declared.flows.Flow.{Flow}
use Rattle.schedule_audit.specs.FlowNumbers.{Numbers, flow_number_of}
use Rattle.schedule_audit.specs.Wrong.{Expected, added_in_all, allocated_in_all, allocated_since, left_of}

-- of each flow: what its entries added, its slots, those before its last clear, and its need at the end
pub record AreFigures (b : ℕ) (expected : Expected) (added slots cleared left : Numbers) : Type 0 where
  pub all : (flow : Flow) → flow_number_of added flow ≡ added_in_all flow expected.all
  pub allocated : (flow : Flow) → flow_number_of slots flow ≡ allocated_in_all expected flow
  pub since : (flow : Flow) → flow_number_of slots flow ≡ flow_number_of cleared flow + allocated_since b expected flow
  pub rest : (flow : Flow) → flow_number_of left flow ≡ left_of expected flow
