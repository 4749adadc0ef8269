-- A pair stands for a list of events, the latest first: what it keeps is what their log counts. From this project's own profile.
use Rattle.std.specs.Prelude.{◌≡◌, ◌<◌, ◌≤◌, ℕ, ◌+◌, ◌*◌, All, Bool, List, [], ◌∷◌, length, Option, Some, None, option_map, slice_index, if◌then◌else◌, replicate}
use Rattle.std.specs.List.{slice_index_or}
use Rattle.greedy_rules.specs.declared.flows.Flow.{Flow}
use Rattle.greedy_rules.specs.declared.flows.Item.{Item}
use Rattle.greedy_rules.specs.Schedule.{first_slot}
use Rattle.greedy_rules.specs.Cells.{flow_of}
use Rattle.takeover_history.specs.declared.event.Event.{Event}
use Rattle.takeover_history.specs.declared.lease.Holder.{Holder}
use Rattle.takeover_history.specs.declared.lease.Lease.{Lease}
use Rattle.takeover_history.specs.Events.{PairSetting, BatchIssue, Log}
use Rattle.takeover_history.specs.Leases.{boot_of, sent_messages, request_at, grant_at, leases, changes, lease_of, used_of}
use Rattle.takeover_history.specs.Endpoints.{asked_of_flow, generation_of, issues, issue_at, has_heard, base_of, recorded_of_flow, sent, Send}
use Rattle.takeover_history.specs.Batches.{published, list_of, one_rack_limits}
use Rattle.takeover_history.specs.Steps.{log_of}
use Rattle.takeover_core.specs.Cells.{CellsContent, cell}
use Rattle.takeover_core.specs.Messages.{message_at, request_in, grant_in, is_holder}
use Rattle.takeover_core.specs.Sending.{sends_in, SendsAreCounted}
use Rattle.takeover_core.specs.Published.{issue_in, is_heard}
use Rattle.takeover_core.specs.declared.keeper.Keeper.{Keeper}
use Rattle.takeover_core.specs.declared.node.Node.{Node}
use Rattle.takeover_core.specs.declared.endpoints.Endpoints.{Endpoints}
use Rattle.takeover_core.specs.declared.published.Issued.{Issued}
use Rattle.takeover_core.specs.declared.published.Published.{Published}
use Rattle.takeover_core.specs.declared.pair.Pair.{Pair}

-- 2 to 64 endpoints, 1 to 64 slots in a batch, and 1 to 100 batches in a lease
pub record IsPairSetting (setting : PairSetting) : Type 0 where
  pub some : 2 ≤ setting.endpoints
  pub most : setting.endpoints ≤ 64
  pub slot : 1 ≤ setting.b
  pub slots : setting.b ≤ 64
  pub batch : 1 ≤ setting.span
  pub batches : setting.span ≤ 100

-- the numbers of a table are these
abbrev pub HasCells : ℕ → CellsContent → (Flow → ℕ) → Type 0
HasCells endpoints table number = (table.endpoints ≡ endpoints) × ((src dst : ℕ) → src < endpoints → dst < endpoints → cell table src dst ≡ number (flow_of src dst))

-- the keeper: the messages so far, and what it would grant next
pub record IsKeeper (span : ℕ) (keeper : Keeper) (messages : ℕ) (requests : ℕ → Option Holder) (grants : ℕ → Option Lease) (before : List Lease) : Type 0 where
  pub span_is : keeper.span ≡ span
  pub next : keeper.next ≡ span * length before
  pub generation : (holder : Holder) → changes holder before ≡ (if is_holder keeper.holder holder then 0 else 1) + keeper.generation
  pub bounded : keeper.generation ≤ length before
  pub count : length keeper.messages.items ≡ messages
  pub asks : (m : ℕ) → requests m ≡ request_in (message_at keeper.messages.items m)
  pub answers : (m : ℕ) → grants m ≡ grant_in (message_at keeper.messages.items m)

-- what a node keeps of the generation of its lease
pub record KeepsGeneration (endpoints generation : ℕ) (node : Node) (totals done : ℕ → Flow → ℕ) (list : ℕ → List Item) : Type 0 where
  pub told : (src dst : ℕ) → src < endpoints → dst < endpoints → cell node.told src dst ≡ totals generation (flow_of src dst)
  pub published_is : (src dst : ℕ) → src < endpoints → dst < endpoints → cell node.published src dst ≡ done generation (flow_of src dst)
  pub list_is : node.list.items ≡ list generation

-- a node: its boot, its lease and how many batches of it are published, and what it keeps of the lease's generation; its list was
-- last served before the batch that it publishes next
pub record IsNode (endpoints b : ℕ) (node : Node) (boot : ℕ) (lease : Option Lease) (used : ℕ) (totals done : ℕ → Flow → ℕ) (list : ℕ → List Item) : Type 0 where
  pub boot_is : node.boot ≡ boot
  pub lease_is : node.lease ≡ lease
  pub used_is : node.used ≡ used
  pub told : node.told.endpoints ≡ endpoints
  pub published : node.published.endpoints ≡ endpoints
  pub room : endpoints * endpoints ≤ length node.list.items + node.list.spare
  pub keeps : (held : Lease) → lease ≡ Some held → KeepsGeneration endpoints held.generation node totals done list
  pub before : (held : Lease) → lease ≡ Some held → All (λ item. item.last < first_slot b (held.first + used)) node.list.items

-- the endpoints: their generations, asks, bases and sends
pub record AreEndpoints (endpoints : ℕ) (ends : Endpoints) (generations : ℕ → ℕ) (asks bases : Flow → ℕ) (all : List Send) : Type 0 where
  pub count : length ends.generations.items ≡ endpoints
  pub generations_are : (src : ℕ) → src < endpoints → slice_index ends.generations.items src ≡ generations src
  pub asked_is : HasCells endpoints ends.asked asks
  pub base_is : HasCells endpoints ends.base bases
  pub sent_is : sends_in ends.sent.items ≡ all
  pub counts_are : ends.counts.endpoints ≡ endpoints
  pub counted : SendsAreCounted ends.counts ends.sent.items

-- what is kept of a published batch
abbrev pub kept_of : ℕ → BatchIssue → Issued
kept_of endpoints issue = record { generation = issue.lease.generation; batch = issue.batch; slots = record { slots = issue.slots; endpoints = endpoints } }

-- the number of the last batch published, if there is one
abbrev pub last_number : List BatchIssue → Option ℕ
last_number [] = None
last_number (issue ∷ before) = Some issue.number

pub record ArePublished (endpoints : ℕ) (kept : Published) (at : ℕ → Option BatchIssue) (hears : ℕ → ℕ → Bool) : Type 0 where
  pub batches_are : (number : ℕ) → issue_in kept number ≡ option_map (kept_of endpoints) (at number)
  pub heard_are : (src number : ℕ) → is_heard kept src number ≡ hears src number

-- before the first batch: empty slots, and no entry
abbrev pub no_issued_batch : PairSetting → Issued
no_issued_batch setting = record { generation = 0; batch = record { entries = []; limits = one_rack_limits setting }; slots = record { slots = replicate setting.b []; endpoints = setting.endpoints } }

-- the last batch published
abbrev pub last_batch : PairSetting → List BatchIssue → Issued
last_batch setting [] = no_issued_batch setting
last_batch setting (issue ∷ before) = kept_of setting.endpoints issue

abbrev pub IsNodeOf : PairSetting → Log → ℕ → Node → Type 0
IsNodeOf setting log number node =
    IsNode setting.endpoints setting.b node (boot_of log number) (lease_of log number) (used_of log number) (λ k. recorded_of_flow setting k log) (λ k. published setting k log) (λ k. list_of setting k log)

pub record StandsForLog (setting : PairSetting) (pair : Pair) (log : Log) : Type 0 where
  pub fits : IsPairSetting setting
  pub asks_fit : (flow : Flow) → asked_of_flow log flow ≤ 100000000
  pub endpoints_are : pair.endpoints ≡ setting.endpoints
  pub b_is : pair.b ≡ setting.b
  pub keeper_is : IsKeeper setting.span pair.keeper (sent_messages log) (request_at log) (grant_at log) (leases log)
  pub two : length pair.nodes ≡ 2
  pub turns_are : (pair.turns.endpoints ≡ setting.endpoints) × (pair.turns.b ≡ setting.b)
  pub nodes_are : (number : ℕ) (d : Node) → number < 2 → IsNodeOf setting log number (slice_index_or pair.nodes number d)
  pub ends_are : AreEndpoints setting.endpoints pair.ends (generation_of log) (asked_of_flow log) (base_of setting log) (sent setting log)
  pub published_are : ArePublished setting.endpoints pair.published (issue_at log) (has_heard log)
  pub last_is : pair.last ≡ last_number (issues log)
  pub none_is : pair.none ≡ no_issued_batch setting

abbrev pub PairStandsFor : PairSetting → Pair → List Event → Type 0
PairStandsFor setting pair events = StandsForLog setting pair (log_of setting events)
