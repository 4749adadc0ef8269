-- What contracts see of a table with a number for each flow between so many endpoints (this project's own profile).
use Rattle.std.specs.Prelude.{ℕ, ◌+◌, ◌*◌, Bool, ◌&&◌, nat_lt, List, slice_index, if◌then◌else◌}
use Rattle.greedy_rules.specs.declared.flows.Flow.{Flow}

pub record Numbers : Type 0 where
  pub endpoints : ℕ
  pub cells : List ℕ

abbrev pub is_numbered : ℕ → Flow → Bool
is_numbered endpoints flow = nat_lt flow.src endpoints && nat_lt flow.dst endpoints

-- 0 for any other flow
abbrev pub flow_number_of : Numbers → Flow → ℕ
flow_number_of numbers flow = if is_numbered numbers.endpoints flow then slice_index numbers.cells (flow.src * numbers.endpoints + flow.dst) else 0
