-- What holds of every list of events. From this project's own profile.
use Rattle.std.specs.Prelude.{◌≡◌, ◌≢◌, ◌<◌, ◌≤◌, ℕ, ◌+◌, Bool, true, ◌==◌, List, [], ◌∷◌, ◌++◌, map, filter, Contains, All, AllPairs, Option, Some, None, if◌then◌else◌}
use Rattle.greedy_rules.specs.declared.flows.Flow.{Flow}
use Rattle.greedy_rules.specs.declared.flows.Item.{Item}
use Rattle.greedy_rules.specs.Flows.{same_flow}
use Rattle.greedy_rules.specs.Batches.{DemandBatch}
use Rattle.greedy_rules.specs.Slot.{has_flow}
use Rattle.greedy_rules.specs.Matching.{IsMatching}
use Rattle.greedy_rules.specs.Schedule.{first_slot, slot_in, schedule_from, rest_from}
use Rattle.greedy_rules.specs.Cells.{flow_of}
use Rattle.takeover_history.specs.Events.{PairSetting, Event, Ask, Take, Publish, Hear, Took, Published, Heard, Lease, BatchIssue, Log}
use Rattle.takeover_history.specs.Endpoints.{generation_of, issues, issue_at, Send, sends_at, sent, sends_of_flow, asked_of_flow, recorded_of_flow}
use Rattle.takeover_history.specs.Leases.{lease_of}
use Rattle.takeover_history.specs.Batches.{published_batches, slots_by, list_by, published}
use Rattle.takeover_history.specs.Steps.{done, log_of}

-- no batch is published twice, by either node
abbrev pub NoBatchIsPublishedTwice : Type 0
NoBatchIsPublishedTwice = (setting : PairSetting) (events : List Event) → AllPairs (λ (i j : BatchIssue). i.number ≢ j.number) (issues (log_of setting events))

-- a node publishes under its own lease
abbrev pub EachBatchIsItsNodes : Type 0
EachBatchIsItsNodes = (setting : PairSetting) (log : Log) (node : ℕ) (issue : BatchIssue) → done setting log (Publish node) ≡ Published issue → issue.lease.holder.node ≡ node

-- what an event asks for of a flow
abbrev pub asked_in_event : Event → Flow → ℕ
asked_in_event (Ask src dst slots) flow = if same_flow (flow_of src dst) flow then slots else 0
asked_in_event event flow = 0

-- it comes to what was asked_of_flow for before
abbrev pub AsksAreCounted : Type 0
AsksAreCounted = (setting : PairSetting) (log : Log) (event : Event) (flow : Flow) → asked_of_flow (done setting log event ∷ log) flow ≡ asked_in_event event flow + asked_of_flow log flow

-- no more is sent than was asked_of_flow for
abbrev pub EverySendIsAsked : Type 0
EverySendIsAsked = (setting : PairSetting) (events : List Event) (flow : Flow) → sends_of_flow setting (log_of setting events) flow ≤ asked_of_flow (log_of setting events) flow

-- the flows that are sent in a slot, by whichever endpoints
abbrev pub flows_sent_in : PairSetting → Log → ℕ → List Flow
flows_sent_in setting log number = map (λ (s : Send). s.flow) (filter (λ (s : Send). s.slot == number) (sent setting log))

abbrev pub SlotsAreMatchings : Type 0
SlotsAreMatchings = (setting : PairSetting) (events : List Event) (number : ℕ) → IsMatching (flows_sent_in setting (log_of setting events) number)

-- an endpoint sends_of_flow in a slot at most once
abbrev pub NoEndpointSendsTwiceInASlot : Type 0
NoEndpointSendsTwiceInASlot = (setting : PairSetting) (events : List Event) → AllPairs (λ (s t : Send). s.slot ≡ t.slot → s.flow.src ≢ t.flow.src) (sent setting (log_of setting events))

-- the send stands in the batch that was published with the slot's batch number
abbrev pub IsPublished : PairSetting → Log → Send → Type 0
IsPublished setting log send =
    (issue : BatchIssue) × (offset : ℕ) × (issue_at log issue.number ≡ Some issue) × (offset < setting.b) × (send.slot ≡ first_slot setting.b issue.number + offset) × (has_flow (slot_in issue.slots offset) send.flow ≡ true)

abbrev pub EachSendIsPublished : Type 0
EachSendIsPublished = (setting : PairSetting) (events : List Event) → All (IsPublished setting (log_of setting events)) (sent setting (log_of setting events))

-- an endpoint that hears a batch of its own generation sends_of_flow in each of its slots
abbrev pub NoSlotIsPassedOver : Type 0
NoSlotIsPassedOver =
    (setting : PairSetting) (events : List Event) (batch : ℕ) (issue : BatchIssue) (flow : Flow) (offset : ℕ)
    → done setting (log_of setting events) (Hear flow.src batch) ≡ Heard flow.src issue → generation_of (log_of setting events) flow.src ≡ issue.lease.generation
    → offset < setting.b → has_flow (slot_in issue.slots offset) flow ≡ true
    → Contains (sends_at setting (log_of setting events) flow.src issue) (record { slot = first_slot setting.b issue.number + offset; flow = flow })

-- and one of a later generation has no slot of it
abbrev pub ALaterGenerationHasNoSlots : Type 0
ALaterGenerationHasNoSlots =
    (setting : PairSetting) (events : List Event) (batch : ℕ) (issue : BatchIssue) (flow : Flow) (offset : ℕ)
    → done setting (log_of setting events) (Hear flow.src batch) ≡ Heard flow.src issue → generation_of (log_of setting events) flow.src < issue.lease.generation
    → offset < setting.b → has_flow (slot_in issue.slots offset) flow ≢ true

-- ---- generations

-- the slots that are published in a generation, in the order of publishing
abbrev pub slots_published : ℕ → Log → List (List Flow)
slots_published generation [] = []
slots_published generation (Published issue ∷ earlier) = slots_published generation earlier ++ (if issue.lease.generation == generation then issue.slots else [])
slots_published generation (_ ∷ earlier) = slots_published generation earlier

-- they are the schedule of the generation's batches, in the numbers in which these are published
abbrev pub EachGenerationIsScheduled : Type 0
EachGenerationIsScheduled = (setting : PairSetting) (events : List Event) (generation : ℕ) → slots_published generation (log_of setting events) ≡ slots_by setting.b [] (published_batches generation (log_of setting events))

-- which rise
abbrev pub NumbersRise : Type 0
NumbersRise = (setting : PairSetting) (events : List Event) (generation : ℕ) → AllPairs (λ (x y : ℕ × DemandBatch). x.0 < y.0) (published_batches generation (log_of setting events))

-- all by one node in one of its boots
abbrev pub EachGenerationIsOneNodes : Type 0
EachGenerationIsOneNodes =
    (setting : PairSetting) (events : List Event) → AllPairs (λ (i j : BatchIssue). i.lease.generation ≡ j.lease.generation → i.lease.holder ≡ j.lease.holder) (issues (log_of setting events))

-- where the numbers follow one another, this is the schedule of the batches
abbrev pub numbered_batches : ℕ → List DemandBatch → List (ℕ × DemandBatch)
numbered_batches k [] = []
numbered_batches k (batch ∷ batches) = (k, batch) ∷ numbered_batches (k + 1) batches

abbrev pub NumbersInARowAreASchedule : Type 0
NumbersInARowAreASchedule =
    (b k : ℕ) (list : List Item) (batches : List DemandBatch)
    → (slots_by b list (numbered_batches k batches) ≡ schedule_from b k list batches) × (list_by b list (numbered_batches k batches) ≡ rest_from b k list batches)

-- ---- a generation that is new to its node

-- where a node takes a lease of another generation than that of its last one, nothing was told or published in that generation
abbrev pub AGenerationBeginsAnew : Type 0
AGenerationBeginsAnew =
    (setting : PairSetting) (events : List Event) (node message : ℕ) (lease : Lease)
    → 0 < setting.span → done setting (log_of setting events) (Take node message) ≡ Took lease
    → ((last : Lease) → lease_of (log_of setting events) lease.holder.node ≡ Some last → last.generation ≢ lease.generation)
    → (published_batches lease.generation (log_of setting events) ≡ [])
    × ((flow : Flow) → recorded_of_flow setting lease.generation (log_of setting events) flow ≡ 0)
    × ((flow : Flow) → published setting lease.generation (log_of setting events) flow ≡ 0)
