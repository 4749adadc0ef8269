-- Batches of a net, with the limits that it sets to a slot (this project's own profile).
use Rattle.std.specs.Prelude.{List}
use Rattle.greedy_rules.specs.Batches.{DemandBatch}
use Rattle.greedy_rules.specs.Recorded.{AreRecorded}
use Rattle.clos_topology.specs.Network.{Network, endpoints_of}
use Rattle.clos_topology.specs.NetSlots.{limits_of}

-- batches of a net as they are recorded
abbrev pub AreOfNet : Network → List DemandBatch → Type 0
AreOfNet net batches = AreRecorded (endpoints_of net) (limits_of net) batches
