-- A slot whose packets have their cores (the SIGCOMM 2014 Fastpass paper): no link is shared, and a core is named for the
-- sources of its packets between racks alone. Before that, what a slot must be for this.
use Rattle.std.specs.Prelude.{◌≡◌, ◌≢◌, ◌<◌, ◌≤◌, ℕ, List, length, None, IfSome, All}
use Rattle.greedy_rules.specs.declared.flows.Flow.{Flow}
use Rattle.greedy_rules.specs.Limits.{KeepsLimits}
use Rattle.greedy_rules.specs.Schedule.{slot_in}
use Rattle.clos_topology.specs.Network.{Network, endpoints_of}
use Rattle.clos_topology.specs.Links.{CoreOf, IsClean}
use Rattle.clos_topology.specs.RackGraph.{rack_edges}
use Rattle.path_workers.specs.CoreTable.{CoreSlots, core_of, NamesNone}

-- a flow of a network
abbrev pub IsFlowOf : Network → Flow → Type 0
IsFlowOf net flow = (flow.src < endpoints_of net) × (flow.dst < endpoints_of net)

-- no rack sends or receives more packets between racks than there are cores
abbrev pub IsWithinCores : Network → List Flow → Type 0
IsWithinCores net slot = KeepsLimits (record { hosts = net.hosts; cores = net.cores }) slot

-- a source that sends nothing to another rack has no core
abbrev pub NamesNoOther : ℕ → List Flow → CoreOf → Type 0
NamesNoOther hosts slot core_of =
    (source : ℕ) → All (λ edge. edge.source ≢ source) (rack_edges hosts slot) → core_of source ≡ None

-- every core that is named is one of so many
abbrev pub NamesBelow : ℕ → CoreOf → Type 0
NamesBelow cores core_of = (source : ℕ) → IfSome (core_of source) (λ core. core < cores)

-- which follows from both: for any slot, and any cores named for it
abbrev pub EveryNamedCoreIsBelow : Type 0
EveryNamedCoreIsBelow = (hosts cores : ℕ) (slot : List Flow) (core_of : CoreOf) → IsClean hosts cores slot core_of → NamesNoOther hosts slot core_of → NamesBelow cores core_of

pub record HasItsCores (net : Network) (slot : List Flow) (core_of : CoreOf) : Type 0 where
  pub clean : IsClean net.hosts net.cores slot core_of
  pub others : NamesNoOther net.hosts slot core_of

-- each slot of a list has its cores in a table
pub record HaveTheirCores (net : Network) (slots : List (List Flow)) (table : CoreSlots) : Type 0 where
  -- no two packets of a slot use one link
  pub clean : (at : ℕ) → at < length slots → IsClean net.hosts net.cores (slot_in slots at) (core_of table at)
  -- a source that sends nothing to another rack has no core
  pub others : (at : ℕ) → at < length slots → NamesNoOther net.hosts (slot_in slots at) (core_of table at)
  -- each core that is named is one of the net's
  pub below : (at : ℕ) → at < length slots → NamesBelow net.cores (core_of table at)
  -- no core is named past the slots
  pub past : (at : ℕ) → length slots ≤ at → NamesNone (core_of table at)
