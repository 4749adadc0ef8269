-- What a batch leaves is a list that the next batch can be fed.
use Rattle.std.proofs.Common.{◌≡◌, ◌<◌, ◌≤◌, ◌+◌, ◌-◌, ℕ, zero, suc, List, ◌++◌, length, map, filter, All, ◌∙◌, arith, length-append}
use Rattle.std.proofs.lemmas.Bool.{cond_both}
use Rattle.std.proofs.lemmas.List.{length-map}
use Rattle.std.proofs.lemmas.List.Elements.{All-append, All-map, All-weaker}
use Rattle.greedy_rules.specs.declared.flows.Flow.{Flow}
use Rattle.greedy_rules.specs.declared.flows.Item.{Item}
use Rattle.greedy_rules.specs.declared.flows.Entry.{Entry}
use Rattle.greedy_rules.specs.Slot.{Bar, has_flow, greedy_slot}
use Rattle.greedy_rules.specs.Demands.{with_batch, opened, after_batch}
use Rattle.greedy_rules.specs.Allocation.{served, after_slot, list_through, list_after_slots}
use Rattle.list_facts.proofs.StableSort.{All-sort_by, length-sort_by}
use Rattle.greedy_rules.proofs.Facts.{once-after_batch, once-after_slots}
use Rattle.greedy_rules.proofs.ScheduleLemmas.{length-through}
use Rattle.slot_batches.specs.NextList.{EveryBatchLeavesAList, EveryBatchKeepsItsFlows}
use Rattle.slot_batches.proofs.ListOrder.{in_order-sort_by}

abbrev pub LastBelow : ℕ → Item → Type 0
LastBelow n item = item.last < n

abbrev pub last_of : Item → ℕ
last_of item = item.last

pub lasts-opened : (n : ℕ) (batch : List Entry) → 0 < n → All (LastBelow n) (opened batch)
lasts-opened n batch positive =
    All-map (LastBelow n) (λ (entry : Entry). record { flow = entry.flow; need = entry.add; last = 0 }) (filter (λ entry. entry.opens) batch) (λ k d below. positive)

pub lasts-after_batch : (n : ℕ) (batch : List Entry) (list : List Item) → 0 < n → All (LastBelow n) list → All (LastBelow n) (after_batch batch list)
lasts-after_batch n batch list positive below =
    All-sort_by (LastBelow n) last_of (map (with_batch batch) list ++ opened batch)
    (All-append (LastBelow n) (map (with_batch batch) list) (opened batch) (All-map (LastBelow n) (with_batch batch) list below) (lasts-opened n batch positive))

pub lasts-after_slot : (bar : Bar) (number n : ℕ) (list : List Item) → number < n → All (LastBelow n) list → All (LastBelow n) (after_slot bar number list)
lasts-after_slot bar number n list more below =
    let slot : List Flow = greedy_slot bar list in
    All-map (LastBelow n) (served number slot) list
    (All-weaker (LastBelow n) (λ x. LastBelow n (served number slot x))
    (λ x less. cond_both (has_flow slot x.flow) (record x { need = x.need - 1; last = number }) x (LastBelow n) (λ _. more) (λ _. less)) list below)

pub lasts-through : (bar : Bar) (number count n : ℕ) (list : List Item) → number + count ≤ n → All (LastBelow n) list → All (LastBelow n) (list_through bar number count list)
lasts-through bar number zero n list within below = below
lasts-through bar number (suc count) n list within below =
    lasts-through bar (number + 1) count n (after_slot bar number list) (omega arith) (lasts-after_slot bar number n list (omega arith) below)

-- every last is below the slot that follows the batch
pub lasts-after_slots : (bar : Bar) (number count : ℕ) (list : List Item) → All (LastBelow number) list → All (LastBelow (number + count)) (list_after_slots bar number count list)
lasts-after_slots bar number count list below =
    All-sort_by (LastBelow (number + count)) last_of (list_through bar number count list)
    (lasts-through bar number count (number + count) list (omega arith)
    (All-weaker (LastBelow number) (LastBelow (number + count)) (λ x less. omega arith) list below))

pub length-after_slots : (bar : Bar) (number count : ℕ) (list : List Item) → length (list_after_slots bar number count list) ≡ length list
length-after_slots bar number count list = length-sort_by last_of (list_through bar number count list) ∙ length-through bar number count list

pub length-after_batch : (batch : List Entry) (list : List Item) → length (after_batch batch list) ≡ length list + length (opened batch)
length-after_batch batch list =
    omega (arith, length-sort_by last_of (map (with_batch batch) list ++ opened batch), length-append (map (with_batch batch) list) (opened batch), length-map list (with_batch batch))

pub every_batch_leaves_a_list : EveryBatchLeavesAList
every_batch_leaves_a_list bar number count batch list positive rising opens before =
    let applied : List Item = after_batch batch list in
    record {
      in_order = in_order-sort_by last_of (list_through bar number count applied);
      below = lasts-after_slots bar number count applied (lasts-after_batch number batch list positive before.below);
      once = once-after_slots bar number count applied (once-after_batch batch list rising opens before.once);
    }

pub every_batch_keeps_its_flows : EveryBatchKeepsItsFlows
every_batch_keeps_its_flows bar number count batch list = length-after_slots bar number count (after_batch batch list) ∙ length-after_batch batch list
