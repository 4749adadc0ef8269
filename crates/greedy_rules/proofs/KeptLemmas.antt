-- What each flow that is let in keeps true holds of every slot of a batch, and of a schedule.
use Rattle.std.proofs.Common.{ℕ, zero, suc, ◌+◌, List, [], ◌∷◌, IsTrue, All}
use Rattle.std.proofs.lemmas.List.Elements.{All-nil, All-cons, All-head, All-tail, All-append, All-weaker}
use Rattle.greedy_rules.specs.declared.flows.Flow.{Flow}
use Rattle.greedy_rules.specs.declared.flows.Item.{Item}
use Rattle.greedy_rules.specs.declared.flows.Entry.{Entry}
use Rattle.greedy_rules.specs.Batches.{DemandBatch}
use Rattle.greedy_rules.specs.Demands.{Key, opened, after_batch_by}
use Rattle.greedy_rules.specs.Slot.{Bar, greedy_slot}
use Rattle.greedy_rules.specs.Limits.{is_barred}
use Rattle.greedy_rules.specs.Allocation.{after_slot, batch_slots}
use Rattle.greedy_rules.specs.Schedule.{first_slot, slots_then_by, list_then_by, schedule_from_by, rest_from_by}
use Rattle.greedy_rules.proofs.OnceLemmas.{FlowsAre, All-opened, flows-after_batch_by, flows-after_slot, flows-after_slots_by}
use Rattle.greedy_rules.proofs.SlotLemmas.{Keeps, holds-chosen_after}

pub All-batch_slots : (bar : Bar) (Q : Flow → Type 0) (P : List Flow → Type 0) → Keeps bar Q P → P [] → (number count : ℕ) (list : List Item) → FlowsAre Q list → All P (batch_slots bar number count list)
All-batch_slots bar Q P keeps none number zero list are = All-nil P
All-batch_slots bar Q P keeps none number (suc count) list are =
    All-cons P (greedy_slot bar list) (batch_slots bar (number + 1) count (after_slot bar number list)) (holds-chosen_after bar Q P keeps [] list are none)
    (All-batch_slots bar Q P keeps none (number + 1) count (after_slot bar number list) (flows-after_slot Q bar number list are))

-- the flows of a batch, once it is applied
pub flows-applied_by : (key : Key) → (Q : Flow → Type 0) (entries : List Entry) (list : List Item) → All (λ entry. Q entry.flow) entries → FlowsAre Q list → FlowsAre Q (after_batch_by key entries list)
flows-applied_by key Q entries list hold are =
    flows-after_batch_by key Q entries list (All-append (λ (item : Item). Q item.flow) list (opened entries) are
    (All-opened Q entries (All-weaker (λ (entry : Entry). Q entry.flow) (λ entry. IsTrue entry.opens → Q entry.flow) (λ entry holds yes. holds) entries hold)))

record Carries (Q : Flow → Type 0) (P : List Flow → Type 0) (batch : DemandBatch) : Type 0 where
  hold : All (λ entry. Q entry.flow) batch.entries
  keeps : Keeps (is_barred batch.limits) Q P

All-schedule_fromBy : (key : Key) → (Q : Flow → Type 0) (P : List Flow → Type 0) → P [] → (b k : ℕ) (list : List Item) (batches : List DemandBatch) → All (Carries Q P) batches → FlowsAre Q list → All P (schedule_from_by key b k list batches)
All-schedule_fromBy key Q P none b k list [] carry are = All-nil P
All-schedule_fromBy key Q P none b k list (batch ∷ batches) carry are =
    let this = All-head (Carries Q P) batch batches carry in
    let applied = flows-applied_by key Q batch.entries list this.hold are in
    All-append P (slots_then_by key b k batch list) (schedule_from_by key b (k + 1) (list_then_by key b k batch list) batches)
    (All-batch_slots (is_barred batch.limits) Q P this.keeps none (first_slot b k) b (after_batch_by key batch.entries list) applied)
    (All-schedule_fromBy key Q P none b (k + 1) (list_then_by key b k batch list) batches (All-tail (Carries Q P) batch batches carry)
    (flows-after_slots_by key Q (is_barred batch.limits) (first_slot b k) b (after_batch_by key batch.entries list) applied))

-- every slot, where all batches' flows are such, and such flows keep it true
pub All-scheduleBy : (key : Key) → (Q : Flow → Type 0) (P : List Flow → Type 0) → P [] → (b : ℕ) (batches : List DemandBatch)
    → All (λ batch. All (λ entry. Q entry.flow) batch.entries × Keeps (is_barred batch.limits) Q P) batches → All P (schedule_from_by key b 0 [] batches)
All-scheduleBy key Q P none b batches carry =
    All-schedule_fromBy key Q P none b 0 [] batches
    (All-weaker (λ batch. All (λ entry. Q entry.flow) batch.entries × Keeps (is_barred batch.limits) Q P) (Carries Q P) (λ batch both. record { hold = both.0; keeps = both.1 }) batches carry)
    (All-nil (λ (item : Item). Q item.flow))

-- and the flows that are left
pub flows-rest_from_by : (key : Key) → (Q : Flow → Type 0) (b k : ℕ) (list : List Item) (batches : List DemandBatch) → All (λ batch. All (λ entry. Q entry.flow) batch.entries) batches → FlowsAre Q list → FlowsAre Q (rest_from_by key b k list batches)
flows-rest_from_by key Q b k list [] hold are = are
flows-rest_from_by key Q b k list (batch ∷ batches) hold are =
    let P : DemandBatch → Type 0 = λ x. All (λ entry. Q entry.flow) x.entries in
    flows-rest_from_by key Q b (k + 1) (list_then_by key b k batch list) batches (All-tail P batch batches hold)
    (flows-after_slots_by key Q (is_barred batch.limits) (first_slot b k) b (after_batch_by key batch.entries list) (flows-applied_by key Q batch.entries list (All-head P batch batches hold) are))
