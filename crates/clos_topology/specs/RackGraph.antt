-- The bipartite multigraph of a slot: an edge for each packet between racks, from the sending rack, at the left, to the
-- receiving one, at the right (after König's theorem on edge colouring).
use Rattle.std.specs.Prelude.{◌≡◌, ◌≢◌, ◌<◌, ℕ, List, [], ◌∷◌, ◌==◌, All, AllPairs, if◌then◌else◌}
use Rattle.greedy_rules.specs.declared.flows.Flow.{Flow}
use Rattle.clos_topology.specs.declared.graph.Edge.{Edge}
use Rattle.greedy_rules.specs.Limits.{rack_of}
use Rattle.clos_topology.specs.Network.{Network, endpoints_of}

-- the edges of a slot, in the slot's order, which is by source
abbrev pub rack_edges : ℕ → List Flow → List Edge
rack_edges hosts [] = []
rack_edges hosts (flow ∷ slot) =
    if rack_of hosts flow.src == rack_of hosts flow.dst then rack_edges hosts slot
    else record { source = flow.src; left = rack_of hosts flow.src; right = rack_of hosts flow.dst } ∷ rack_edges hosts slot

-- an edge of a network: its source stands in its left rack, and goes to another
pub record IsEdgeOf (net : Network) (edge : Edge) : Type 0 where
  pub source : edge.source < endpoints_of net
  pub left_is : edge.left ≡ rack_of net.hosts edge.source
  pub left : edge.left < net.racks
  pub right : edge.right < net.racks
  pub apart : edge.left ≢ edge.right

-- edges of a network, one for a source, rising by source
pub record IsGraphOf (net : Network) (edges : List Edge) : Type 0 where
  pub rising : AllPairs (λ e f. e.source < f.source) edges
  pub each : All (IsEdgeOf net) edges

-- what contracts see of a rack graph: its edges, and how many endpoints it has room for
pub record Graph : Type 0 where
  pub edges : List Edge
  pub room : ℕ
