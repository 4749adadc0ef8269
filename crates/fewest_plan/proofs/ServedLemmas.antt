-- What the batches of a plan leave, by need, is a list on which the next may be served.
use Rattle.std.proofs.Common.{◌≡◌, ◌<◌, ◌+◌, ◌-◌, ℕ, suc, List, [], ◌∷◌, ◌++◌, length, take, drop, map, All, sym, subst, arith}
use Rattle.std.specs.List.Sorted.{IsNonDecreasingBy}
use Rattle.std.proofs.lemmas.Nat.{mul-le}
use Rattle.std.proofs.lemmas.List.{drop_more, length-take, take-append-drop}
use Rattle.std.proofs.lemmas.List.Elements.{All-nil, All-append, All-map, All-weaker}
use Rattle.list_facts.proofs.StableSort.{All-sort_by}
use Rattle.greedy_rules.specs.declared.flows.Item.{Item}
use Rattle.greedy_rules.specs.declared.flows.Entry.{Entry}
use Rattle.greedy_rules.specs.Batches.{DemandBatch}
use Rattle.greedy_rules.specs.Demands.{with_batch, opened, after_batch_by}
use Rattle.greedy_rules.specs.Allocation.{served, list_through}
use Rattle.greedy_rules.specs.Limits.{is_barred}
use Rattle.greedy_rules.specs.Schedule.{first_slot, list_then_by, rest_by, rest_from_by}
use Rattle.greedy_rules.specs.Recorded.{MayBeAppliedBy, LaterBatchesMayBeAppliedBy}
use Rattle.greedy_rules.specs.Examples.{remaining}
use Rattle.fewest_order.proofs.ListOrder.{in_order-sort_by}
use Rattle.fewest_order.proofs.NextList.{lasts-opened, LastBelow, lasts-through}
use Rattle.clos_topology.specs.Network.{endpoints_of}
use Rattle.clos_topology.specs.NetSlots.{limits_of}
use Rattle.window_allocation.specs.Nets.{AreOfNet}
use Rattle.plan_rounds.specs.Batches.{plan_batches, EveryPlanIsRecorded}
use Rattle.run_lines.specs.Text.{no_batch}
use Rattle.fewest_order.proofs.PlaceLemmas.{need_of}
use Rattle.run_text.proofs.CoreLemmas.{next_first}
use Rattle.fewest_plan.specs.Standing.{EveryPlanMayBeServed}

-- ---- the slots in which flows were last served

lasts-after_batch : (n : ℕ) (batch : List Entry) (list : List Item) → 0 < n → All (LastBelow n) list → All (LastBelow n) (after_batch_by remaining batch list)
lasts-after_batch n batch list positive below =
    All-sort_by (LastBelow n) need_of (map (with_batch batch) list ++ opened batch)
    (All-append (LastBelow n) (map (with_batch batch) list) (opened batch) (All-map (LastBelow n) (with_batch batch) list below) (lasts-opened n batch positive))

lasts-then : (b k : ℕ) (batch : DemandBatch) (list : List Item) → All (LastBelow (first_slot b k)) list → All (LastBelow (first_slot b (k + 1))) (list_then_by remaining b k batch list)
lasts-then b k batch list below =
    let n : ℕ = first_slot b (k + 1) in
    let applied : List Item = after_batch_by remaining batch.entries list in
    let here : All (LastBelow n) applied =
    lasts-after_batch n batch.entries list (omega arith) (All-weaker (LastBelow (first_slot b k)) (LastBelow n) (λ x less. omega (arith, next_first b k, less)) list below) in
    All-sort_by (LastBelow n) need_of (list_through (is_barred batch.limits) (first_slot b k) b applied)
    (lasts-through (is_barred batch.limits) (first_slot b k) b n applied (omega (arith, next_first b k)) here)

lasts-rest : (b k : ℕ) (list : List Item) (batches : List DemandBatch) → All (LastBelow (first_slot b k)) list → All (LastBelow (first_slot b (k + length batches))) (rest_from_by remaining b k list batches)
lasts-rest b k list [] below =
    let same : k + 0 ≡ k = omega arith in
    subst (λ (n : ℕ). All (LastBelow (first_slot b n)) list) (sym same) below
lasts-rest b k list (batch ∷ batches) below =
    let on : k + 1 + length batches ≡ k + suc (length batches) = omega arith in
    let then : List Item = list_then_by remaining b k batch list in
    subst (λ (n : ℕ). All (LastBelow (first_slot b n)) (rest_from_by remaining b (k + 1) then batches)) on (lasts-rest b (k + 1) then batches (lasts-then b k batch list below))

-- ---- the order of the list

in_order-rest : (b k : ℕ) (list : List Item) (batches : List DemandBatch) → IsNonDecreasingBy need_of list → IsNonDecreasingBy need_of (rest_from_by remaining b k list batches)
in_order-rest b k list [] up = up
in_order-rest b k list (batch ∷ batches) up =
    in_order-rest b (k + 1) (list_then_by remaining b k batch list) batches
    (in_order-sort_by need_of (list_through (is_barred batch.limits) (first_slot b k) b (after_batch_by remaining batch.entries list)))

none_in_order : IsNonDecreasingBy need_of []
none_in_order = in_order-sort_by need_of []

-- ---- a batch of a plan

pub may_be_served : EveryPlanIsRecorded → LaterBatchesMayBeAppliedBy remaining → EveryPlanMayBeServed
may_be_served recorded later b k trace sound positive most within =
    let n : ℕ = endpoints_of trace.net in
    let plan : List DemandBatch = plan_batches trace in
    let front : List DemandBatch = take k plan in
    let list : List Item = rest_by remaining b front in
    let all = recorded trace sound in
    let below : k < length plan = omega (arith, all.1) in
    let count : length front ≡ k = omega (arith, length-take k plan, below) in
    let start : 0 + length front ≡ k = omega (arith, count) in
    let split : plan ≡ front ++ drop k plan = sym (take-append-drop k plan) in
    let may : MayBeAppliedBy remaining n b (length front) list (drop k plan) = later n b (limits_of trace.net) front (drop k plan) (subst (AreOfNet trace.net) split all.0) in
    let this = (subst (MayBeAppliedBy remaining n b (length front) list) (drop_more plan k no_batch below) may).0 in
    record {
      by_need = in_order-rest b 0 [] front none_in_order;
      once = this.once;
      opens = this.opens;
      needs = this.needs;
      in_range = this.below;
      below = subst (λ (m : ℕ). All (LastBelow (first_slot b m)) list) start (lasts-rest b 0 [] front (All-nil (LastBelow (first_slot b 0))));
      positive = omega arith;
      numbers = omega (arith, mul-le k b 100000 64 (omega (arith, sound.few_rounds)) most);
    }
