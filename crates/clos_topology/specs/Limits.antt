-- Which networks there are (this project's own profile).
use Rattle.std.specs.Prelude.{◌≤◌, ℕ, ◌*◌, Bool, ◌&&◌, nat_le, Result, Ok, Err, if◌then◌else◌}
use Rattle.clos_topology.specs.declared.net.NetRefused.{NetRefused}
use Rattle.clos_topology.specs.declared.net.NetRefused.TheVariants.{Range}
use Rattle.clos_topology.specs.Network.{Network, endpoints_of}

abbrev pub is_size : ℕ → Bool
is_size number = nat_le 1 number && nat_le number 64

-- each number is 1 to 64, and there are at most 256 endpoints
abbrev pub are_sizes_in_range : ℕ → ℕ → ℕ → Bool
are_sizes_in_range racks hosts cores = is_size racks && is_size hosts && is_size cores && nat_le (racks * hosts) 256

-- the network of three numbers, or why there is none
abbrev pub network_of : ℕ → ℕ → ℕ → Result Network NetRefused
network_of racks hosts cores =
    if are_sizes_in_range racks hosts cores then Ok (record { racks = racks; hosts = hosts; cores = cores }) else Err Range

-- what holds of every network
pub record IsNetwork (net : Network) : Type 0 where
  pub some_rack : 1 ≤ net.racks
  pub some_host : 1 ≤ net.hosts
  pub some_core : 1 ≤ net.cores
  pub most_racks : net.racks ≤ 64
  pub most_hosts : net.hosts ≤ 64
  pub most_cores : net.cores ≤ 64
  pub most_endpoints : endpoints_of net ≤ 256
