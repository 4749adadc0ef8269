-- What keeps a flow out of a slot (the SIGCOMM 2014 Fastpass paper; a rack with more hosts than cores is this project's own
-- profile): its source or its destination is taken, or it is between racks and one of the two has no core left.
use Rattle.std.specs.Prelude.{◌≤◌, ℕ, ◌/◌, List, Bool, ◌==◌, ◌&&◌, ◌||◌, not, nat_lt, count_by}
use Rattle.greedy_rules.specs.declared.flows.Flow.{Flow}
use Rattle.greedy_rules.specs.declared.limits.Limits.{Limits}
use Rattle.greedy_rules.specs.Slot.{Bar, is_taken}

-- each limit is 1 to 64
pub record AreLimits (limits : Limits) : Type 0 where
  pub some_host : 1 ≤ limits.hosts
  pub most_hosts : limits.hosts ≤ 64
  pub some_core : 1 ≤ limits.cores
  pub most_cores : limits.cores ≤ 64

-- the rack of an endpoint, where each rack has so many hosts
abbrev pub rack_of : ℕ → ℕ → ℕ
rack_of hosts endpoint = endpoint / hosts

-- from one rack into another
abbrev pub is_outward : ℕ → Flow → Bool
is_outward hosts flow = not (rack_of hosts flow.src == rack_of hosts flow.dst)

abbrev pub leaves : ℕ → ℕ → Flow → Bool
leaves hosts rack flow = is_outward hosts flow && (rack_of hosts flow.src == rack)

abbrev pub enters : ℕ → ℕ → Flow → Bool
enters hosts rack flow = is_outward hosts flow && (rack_of hosts flow.dst == rack)

-- how many flows of a slot leave a rack for others, and how many come into it from others
abbrev pub leaving : ℕ → ℕ → List Flow → ℕ
leaving hosts rack slot = count_by (leaves hosts rack) slot

abbrev pub entering : ℕ → ℕ → List Flow → ℕ
entering hosts rack slot = count_by (enters hosts rack) slot

-- no core is left for one flow more
abbrev pub lacks_core : Limits → Bar
lacks_core limits slot flow =
    not (nat_lt (leaving limits.hosts (rack_of limits.hosts flow.src) slot) limits.cores)
    || not (nat_lt (entering limits.hosts (rack_of limits.hosts flow.dst) slot) limits.cores)

abbrev pub is_barred : Limits → Bar
is_barred limits slot flow = is_taken slot flow || (is_outward limits.hosts flow && lacks_core limits slot flow)

-- no rack sends or receives more packets between racks than there are cores
abbrev pub KeepsLimits : Limits → List Flow → Type 0
KeepsLimits limits slot = (rack : ℕ) → (leaving limits.hosts rack slot ≤ limits.cores) × (entering limits.hosts rack slot ≤ limits.cores)
