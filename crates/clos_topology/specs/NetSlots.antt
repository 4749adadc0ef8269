-- What a network sets to a slot, and the cores that are named for its packets. From this project's own profile.
use Rattle.std.specs.Prelude.{◌<◌, ℕ, IfSome}
use Rattle.greedy_rules.specs.declared.limits.Limits.{Limits}
use Rattle.clos_topology.specs.Network.{Network}
use Rattle.clos_topology.specs.Links.{CoreOf}

-- the limits that a net sets to a slot
abbrev pub limits_of : Network → Limits
limits_of net = record { hosts = net.hosts; cores = net.cores }

-- for each slot, by its number, the core that each source's packet takes where it leaves its rack
abbrev pub SlotCores : Type 0
SlotCores = ℕ → CoreOf

-- a core is below 64
abbrev pub AreSlotCores : SlotCores → Type 0
AreSlotCores cores = (number source : ℕ) → IfSome (cores number source) (λ core. core < 64)
