-- The demand list, and what applying a batch makes of it: the flow served least recently comes first
-- (after the SIGCOMM 2014 Fastpass paper; the steps and ties are this project's own profile).
use Rattle.std.specs.Prelude.{◌≡◌, ◌≢◌, ◌<◌, ℕ, ◌+◌, List, ◌++◌, map, filter, Bool, not, Option, Some, None, All, AllPairs, find, if◌then◌else◌}
use Rattle.std.specs.List.{list_any}
use Rattle.greedy_rules.specs.declared.flows.Flow.{Flow}
use Rattle.greedy_rules.specs.declared.flows.Item.{Item}
use Rattle.greedy_rules.specs.declared.flows.Entry.{Entry}
use Rattle.greedy_rules.specs.Flows.{same_flow}
use Rattle.greedy_rules.specs.Batches.{entry_of}
use Rattle.list_facts.specs.Order.{sort_by}

-- what contracts see of a demand list: its items in order, and for how many more there is room
pub record Demands : Type 0 where
  pub items : List Item
  pub spare : ℕ

-- the list's item of a flow
abbrev pub item_of : List Item → Flow → Option Item
item_of list flow = find (λ item. same_flow item.flow flow) list

-- a flow's need in a list: 0 where it has no item
abbrev pub need_in : Option Item → ℕ
need_in None = 0
need_in (Some item) = item.need

-- the list has an item of the flow
abbrev pub is_listed : List Item → Flow → Bool
is_listed list flow = list_any (λ item. same_flow item.flow flow) list

-- each flow stands once
abbrev pub HasEachFlowOnce : List Item → Type 0
HasEachFlowOnce list = AllPairs (λ i j. i.flow ≢ j.flow) list

-- what a list is sorted by: a number that comes of an item's need and the slot in which it was last served
abbrev pub Key : Type 0
Key = ℕ → ℕ → ℕ

abbrev pub by_key : Key → List Item → List Item
by_key key list = sort_by (λ item. key item.need item.last) list

-- the order of the list: by the slot in which a flow was last served
abbrev pub last_served : Key
last_served need last = last

abbrev pub by_last : List Item → List Item
by_last list = by_key last_served list

-- an item's need once the batch's entry of its flow is applied, if there is one
abbrev pub need_with : Option Entry → ℕ → ℕ
need_with None need = need
need_with (Some entry) need = (if entry.clear then 0 else need) + entry.add

abbrev pub with_batch : List Entry → Item → Item
with_batch batch item = record item { need = need_with (entry_of batch item.flow) item.need }

-- the flows that open, in flow order
abbrev pub opened : List Entry → List Item
opened batch = map (λ (entry : Entry). record { flow = entry.flow; need = entry.add; last = 0 }) (filter (λ entry. entry.opens) batch)

-- the list once the batch is applied, sorted by a key, and so by the slot in which a flow was last served
abbrev pub after_batch_by : Key → List Entry → List Item → List Item
after_batch_by key batch list = by_key key (map (with_batch batch) list ++ opened batch)

abbrev pub after_batch : List Entry → List Item → List Item
after_batch batch list = after_batch_by last_served batch list

-- an entry opens exactly where its flow is not in the list
abbrev pub OpensNewFlows : List Entry → List Item → Type 0
OpensNewFlows batch list = All (λ entry. entry.opens ≡ not (is_listed list entry.flow)) batch

-- every flow of the list has its endpoints below this number
abbrev pub AreBelow : ℕ → List Item → Type 0
AreBelow endpoints list = All (λ item. (item.flow.src < endpoints) × (item.flow.dst < endpoints)) list

-- no flow of the list is from an endpoint to itself
abbrev pub HaveTwoEnds : List Item → Type 0
HaveTwoEnds list = All (λ item. item.flow.src ≢ item.flow.dst) list
