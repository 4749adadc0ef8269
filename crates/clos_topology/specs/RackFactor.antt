-- A factor that finds racks (this project's own profile): the product with an endpoint's number, divided by 65,536, is its rack.
use Rattle.std.specs.Prelude.{◌<◌, ◌≤◌, ℕ, ◌+◌, ◌*◌}

-- for racks of so many hosts: the least that comes to more than 65,536 a rack
pub record IsRackFactor (hosts factor : ℕ) : Type 0 where
  pub above : 65536 < factor * hosts
  pub near : factor * hosts ≤ 65536 + hosts
