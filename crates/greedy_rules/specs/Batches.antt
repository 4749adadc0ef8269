-- A demand batch: what one round records, an entry for each flow that changed, and the limits of the racks
-- (this project's own profile).
use Rattle.std.specs.Prelude.{List, [], ◌∷◌, Option, IsTrue, AllPairs, find}
use Rattle.greedy_rules.specs.declared.flows.Flow.{Flow}
use Rattle.greedy_rules.specs.declared.flows.Entry.{Entry}
use Rattle.greedy_rules.specs.declared.limits.Limits.{Limits}
use Rattle.greedy_rules.specs.Flows.{same_flow, flow_below}

-- what contracts see of a batch
pub record DemandBatch : Type 0 where
  pub entries : List Entry
  pub limits : Limits

-- strictly rising by flow
abbrev pub IsBatch : List Entry → Type 0
IsBatch entries = AllPairs (λ e f. IsTrue (flow_below e.flow f.flow)) entries

-- the flow is above that of the last entry, if there is one
abbrev pub IsAboveLast : List Entry → Flow → Type 0
IsAboveLast [] flow = Unit {0}
IsAboveLast (entry ∷ []) flow = IsTrue (flow_below entry.flow flow)
IsAboveLast (_ ∷ (next ∷ entries)) flow = IsAboveLast (next ∷ entries) flow

-- the entry of a flow
abbrev pub entry_of : List Entry → Flow → Option Entry
entry_of entries flow = find (λ entry. same_flow entry.flow flow) entries
