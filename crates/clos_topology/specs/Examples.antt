-- Small networks in full.
use Rattle.std.specs.Prelude.{◌≡◌, ℕ, [], ◌∷◌, Ok, Err}
use Rattle.greedy_rules.specs.declared.flows.Flow.{Flow}
use Rattle.clos_topology.specs.declared.net.NetRefused.TheVariants.{Range}
use Rattle.clos_topology.specs.declared.graph.Edge.{Edge}
use Rattle.clos_topology.specs.Limits.{network_of}
use Rattle.clos_topology.specs.Links.{links, up, rise, fall, down}
use Rattle.clos_topology.specs.RackGraph.{rack_edges}

abbrev pub flow_between : ℕ → ℕ → Flow
flow_between src dst = record { src = src; dst = dst }

abbrev pub edge : ℕ → ℕ → ℕ → Edge
edge source left right = record { source = source; left = left; right = right }

-- There may be more hosts in a rack than cores; and each number has its limits.
abbrev pub NetworksAndRefusals : Type 0
NetworksAndRefusals =
    (network_of 1 64 1 ≡ Ok (record { racks = 1; hosts = 64; cores = 1 }))
    × (network_of 2 3 2 ≡ Ok (record { racks = 2; hosts = 3; cores = 2 }))
    × (network_of 64 4 4 ≡ Ok (record { racks = 64; hosts = 4; cores = 4 }))
    × (network_of 64 5 64 ≡ Err Range)
    × (network_of 65 1 64 ≡ Err Range)
    × (network_of 1 1 0 ≡ Err Range)

-- With two hosts in a rack, 3 and 4 stand in racks 1 and 2, and 4 and 5 in one.
abbrev pub LinksBetweenRacksAndWithinOne : Type 0
LinksBetweenRacksAndWithinOne =
    (links 2 3 4 7 ≡ up 3 ∷ rise 1 7 ∷ fall 7 2 ∷ down 4 ∷ [])
    × (links 2 4 5 7 ≡ up 4 ∷ down 5 ∷ [])

-- The packet from 4 to 5 stays in rack 2.
abbrev pub EdgesOfASlot : Type 0
EdgesOfASlot =
    rack_edges 2 (flow_between 0 2 ∷ flow_between 1 4 ∷ flow_between 4 5 ∷ flow_between 5 0 ∷ [])
    ≡ edge 0 0 1 ∷ edge 1 0 2 ∷ edge 5 2 0 ∷ []
