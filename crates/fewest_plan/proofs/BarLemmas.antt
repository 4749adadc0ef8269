-- The slots of a plan by need, and the lists before them, batch by batch; and what keeps a waiting flow out of one.
use Rattle.std.proofs.Common.{◌≡◌, ◌<◌, ◌+◌, ◌-◌, ◌*◌, ℕ, zero, suc, List, [], ◌∷◌, ◌++◌, length, get_or, take, drop, sym, ap, ◌∙◌, subst, arith}
use Rattle.std.proofs.lemmas.List.{get_or-take, get_or-drop, get_or_append_left, get_or-append_right, drop_more, take-append-drop}
use Rattle.greedy_rules.specs.declared.flows.Flow.{Flow}
use Rattle.greedy_rules.specs.declared.flows.Item.{Item}
use Rattle.greedy_rules.specs.Batches.{DemandBatch}
use Rattle.greedy_rules.specs.Slot.{has_flow}
use Rattle.greedy_rules.specs.Demands.{HasEachFlowOnce, item_of, need_in, after_batch_by}
use Rattle.greedy_rules.specs.Limits.{is_barred}
use Rattle.greedy_rules.specs.Schedule.{first_slot, slots_then_by, lists_then_by, list_then_by, lists_from_by, schedule_by, rest_by, rest_from_by, slot_in, slot_at, list_before_by}
use Rattle.greedy_rules.specs.Fronts.{SlotsOfABatchBy}
use Rattle.greedy_rules.specs.Recorded.{MayBeAppliedBy, LaterBatchesMayBeAppliedBy}
use Rattle.greedy_rules.specs.Examples.{remaining}
use Rattle.greedy_rules.proofs.Facts.{once-after_batch_by}
use Rattle.greedy_rules.proofs.ScheduleLemmas.{length-batch_lists}
use Rattle.clos_topology.specs.Network.{endpoints_of}
use Rattle.clos_topology.specs.NetSlots.{limits_of}
use Rattle.fewest_order.specs.KeptOut.{IsLeftOut, AreBarring, NoneThatNeedsMoreBars}
use Rattle.trace_text.specs.Trace.{TraceContent}
use Rattle.trace_text.specs.Valid.{IsTrace}
use Rattle.window_allocation.specs.Nets.{AreOfNet}
use Rattle.plan_rounds.specs.Batches.{plan_batches, EveryPlanIsRecorded}
use Rattle.run_lines.specs.Text.{no_batch}
use Rattle.fewest_plan.specs.Barred.{batch_of_round, start_of, NoneThatNeedsMoreBarsInPlans}

length-lists_then : (b k : ℕ) (batch : DemandBatch) (list : List Item) → length (lists_then_by remaining b k batch list) ≡ b
length-lists_then b k batch list = length-batch_lists (is_barred batch.limits) (first_slot b k) b (after_batch_by remaining batch.entries list)

place_more : (k b at : ℕ) → suc k * b + at ≡ b + (k * b + at)
place_more k b at = grind arith

-- the list before a slot of a batch
lists_at : (b j : ℕ) (list : List Item) (batches : List DemandBatch) (k at : ℕ) → k < length batches → at < b
    → get_or (lists_from_by remaining b j list batches) (k * b + at) [] ≡ get_or (lists_then_by remaining b (j + k) (batch_of_round batches k) (rest_from_by remaining b j list (take k batches))) at []
lists_at b j list [] k at below slot = absurd (omega arith)
lists_at b j list (batch ∷ batches) zero at below slot =
    let own : List (List Item) = lists_then_by remaining b j batch list in
    let later : List (List Item) = lists_from_by remaining b (j + 1) (list_then_by remaining b j batch list) batches in
    let here : 0 * b + at ≡ at = omega arith in
    let same : j ≡ j + 0 = omega arith in
    ap (λ (n : ℕ). get_or (own ++ later) n []) here
    ∙ (get_or_append_left own later [] at (omega (arith, length-lists_then b j batch list, slot)) ∙ ap (λ (n : ℕ). get_or (lists_then_by remaining b n batch list) at []) same)
lists_at b j list (batch ∷ batches) (suc k) at below slot =
    let own : List (List Item) = lists_then_by remaining b j batch list in
    let then : List Item = list_then_by remaining b j batch list in
    let later : List (List Item) = lists_from_by remaining b (j + 1) then batches in
    let place : suc k * b + at - b ≡ k * b + at = omega (arith, place_more k b at) in
    let on : j + 1 + k ≡ j + suc k = omega arith in
    get_or-append_right own later b (suc k * b + at) [] (length-lists_then b j batch list) (omega (arith, place_more k b at))
    ∙ (ap (λ (n : ℕ). get_or later n []) place
    ∙ (lists_at b (j + 1) then batches k at (omega (arith, below)) slot
    ∙ ap (λ (n : ℕ). get_or (lists_then_by remaining b n (batch_of_round batches k) (rest_from_by remaining b (j + 1) then (take k batches))) at []) on))

list_before_is : (b : ℕ) (batches : List DemandBatch) (k at : ℕ) → k < length batches → at < b
    → list_before_by remaining b batches (first_slot b k + at) ≡ get_or (lists_then_by remaining b k (batch_of_round batches k) (rest_by remaining b (take k batches))) at []
list_before_is b batches k at below slot =
    let place : first_slot b k + at - 1 ≡ k * b + at = omega arith in
    let start : 0 + k ≡ k = omega arith in
    ap (λ (n : ℕ). get_or (lists_from_by remaining b 0 [] batches) n []) place
    ∙ (lists_at b 0 [] batches k at below slot ∙ ap (λ (n : ℕ). get_or (lists_then_by remaining b n (batch_of_round batches k) (rest_by remaining b (take k batches))) at []) start)

slot_is : (b : ℕ) (batches : List DemandBatch) (k at : ℕ) → SlotsOfABatchBy remaining → k < length batches → at < b
    → slot_at (schedule_by remaining b batches) (first_slot b k + at) ≡ slot_in (slots_then_by remaining b k (batch_of_round batches k) (rest_by remaining b (take k batches))) at
slot_is b batches k at slots below slot =
    let all : List (List Flow) = schedule_by remaining b batches in
    let place : first_slot b k + at - 1 ≡ k * b + at = omega arith in
    ap (λ (n : ℕ). get_or all n []) place
    ∙ (sym (get_or-drop (k * b) all at []) ∙ (sym (get_or-take b (drop (k * b) all) at [] slot) ∙ ap (λ (xs : List (List Flow)). get_or xs at []) (slots b k batches no_batch below).0))

-- each flow stands once in the start list of a plan's batch
start_once : (b k : ℕ) (trace : TraceContent) → IsTrace trace → k < length (plan_batches trace) → EveryPlanIsRecorded → LaterBatchesMayBeAppliedBy remaining → HasEachFlowOnce (start_of b (plan_batches trace) k)
start_once b k trace sound below recorded later =
    let n : ℕ = endpoints_of trace.net in
    let plan : List DemandBatch = plan_batches trace in
    let front : List DemandBatch = take k plan in
    let list : List Item = rest_by remaining b front in
    let may : MayBeAppliedBy remaining n b (length front) list (drop k plan) =
    later n b (limits_of trace.net) front (drop k plan) (subst (AreOfNet trace.net) (sym (take-append-drop k plan)) (recorded trace sound).0) in
    let this = (subst (MayBeAppliedBy remaining n b (length front) list) (drop_more plan k no_batch below) may).0 in
    once-after_batch_by remaining (batch_of_round plan k).entries list this.rises this.opens this.once

pub none_bars : EveryPlanIsRecorded → LaterBatchesMayBeAppliedBy remaining → SlotsOfABatchBy remaining → NoneThatNeedsMoreBars → NoneThatNeedsMoreBarsInPlans
none_bars recorded later slots bars b trace sound k at front item behind out =
    let plan : List DemandBatch = plan_batches trace in
    let batch : DemandBatch = batch_of_round plan k in
    let list : List Item = rest_by remaining b (take k plan) in
    let slot : List Flow = slot_in (slots_then_by remaining b k batch list) at in
    let same : slot_at (schedule_by remaining b plan) (first_slot b k + at) ≡ slot = slot_is b plan k at slots out.batch out.slot in
    let before = list_before_is b plan k at out.batch out.slot in
    let left : IsLeftOut batch.limits (first_slot b k) b at (after_batch_by remaining batch.entries list) front item behind = record {
      once = start_once b k trace sound out.batch recorded later;
      place = out.place;
      within = out.slot;
      waits = subst (λ (xs : List Item). 0 < need_in (item_of xs item.flow)) before out.waits;
      left_out = ap (λ (xs : List Flow). has_flow xs item.flow) (sym same) ∙ out.left_out;
    } in
    let is = bars batch.limits (first_slot b k) b at batch.entries list front item behind left in (
      is.0,
      subst (λ (xs : List Flow). AreBarring batch.limits front xs item.flow is.0) (sym same) is.1,
      is.2,
    )
