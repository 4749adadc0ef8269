-- What batches leave of a list.
use Rattle.std.proofs.Common.{◌≡◌, ◌+◌, ℕ, List, [], ◌∷◌, length, subst, arith}
use Rattle.list_facts.proofs.Numbers.{slots_on}
use Rattle.greedy_rules.specs.declared.flows.Item.{Item}
use Rattle.greedy_rules.specs.Batches.{DemandBatch}
use Rattle.greedy_rules.specs.Limits.{is_barred}
use Rattle.greedy_rules.specs.Schedule.{first_slot, list_then, rest_from}
use Rattle.greedy_rules.specs.Recorded.{MayBeApplied}
use Rattle.slot_batches.specs.NextList.{IsListBefore, EveryBatchLeavesAList}

-- batches leave a list before the slot that follows them
pub left_before : (endpoints b k : ℕ) (list : List Item) (batches : List DemandBatch) → EveryBatchLeavesAList → MayBeApplied endpoints b k list batches → IsListBefore (first_slot b k) list
    → IsListBefore (first_slot b (k + length batches)) (rest_from b k list batches)
left_before endpoints b k list [] leaves may before = let here : k ≡ k + 0 = omega arith in subst (λ (n : ℕ). IsListBefore (first_slot b n) list) here before
left_before endpoints b k list (batch ∷ batches) leaves may before =
    let then : List Item = list_then b k batch list in
    let after = leaves (is_barred batch.limits) (first_slot b k) b batch.entries list (omega arith) may.0.rises may.0.opens before in
    let number : k + 1 + length batches ≡ k + length (batch ∷ batches) = omega arith in
    subst (λ (n : ℕ). IsListBefore (first_slot b n) (rest_from b (k + 1) then batches)) number (left_before endpoints b (k + 1) then batches leaves may.1 (subst (λ (n : ℕ). IsListBefore n then) (slots_on k b) after))
