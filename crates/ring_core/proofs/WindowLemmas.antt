-- The lists of a window, stage after stage.
use Rattle.std.proofs.Common.{◌≡◌, ◌<◌, ◌≤◌, ◌+◌, ◌-◌, ◌*◌, ℕ, zero, suc, List, [], ◌∷◌, length, refl, sym, ap, ◌∙◌, subst, arith}
use Rattle.std.proofs.lemmas.Nat.{mul-le}
use Rattle.list_facts.proofs.Numbers.{slots_on, fewer_pairs}
use Rattle.greedy_rules.specs.declared.flows.Item.{Item}
use Rattle.greedy_rules.specs.Batches.{DemandBatch}
use Rattle.greedy_rules.specs.Demands.{opened}
use Rattle.greedy_rules.specs.Limits.{is_barred}
use Rattle.greedy_rules.specs.Room.{FlowsFitPairs}
use Rattle.greedy_rules.specs.Schedule.{first_slot, list_then}
use Rattle.slot_batches.specs.NextList.{IsListBefore, EveryBatchLeavesAList, EveryBatchKeepsItsFlows}
use Rattle.ring_core.specs.Windows.{Window, list_after, list_before_stage, batch_of_stage, batch_of, first_slot_in, pieces_before, MayBePlayed}
use Rattle.std.proofs.Common.{get_or}
use Rattle.std.proofs.lemmas.List.{get_or_default}

after_one : (b k : ℕ) (list : List Item) (batches : List DemandBatch) (count : ℕ) → count < length batches
    → list_after b k list batches (suc count) ≡ list_then b (k + count) (batch_of_stage batches count) (list_after b k list batches count)
after_one b k list [] count below = absurd (omega arith)
after_one b k list (batch ∷ batches) zero below = ap (λ (n : ℕ). list_then b n batch list) (omega arith)
after_one b k list (batch ∷ batches) (suc count) below =
    let on : k + 1 + count ≡ k + suc count = omega arith in
    after_one b (k + 1) (list_then b k batch list) batches count (omega arith)
    ∙ ap (λ (n : ℕ). list_then b n (batch_of_stage batches count) (list_after b (k + 1) (list_then b k batch list) batches count)) on

-- each stage's batch leaves the list before the next stage
pub one_list_on : (window : Window) (stage : ℕ) → stage < length window.batches
    → list_before_stage window (stage + 1) ≡ list_then window.b (window.first_batch + stage) (batch_of window stage) (list_before_stage window stage)
unfolding list_before_stage
one_list_on window stage below =
    let next : stage + 1 ≡ suc stage = omega arith in
    ap (list_after window.b window.first_batch window.list window.batches) next ∙ after_one window.b window.first_batch window.list window.batches stage below

pub first_list : (window : Window) → list_before_stage window 0 ≡ window.list
unfolding list_before_stage
first_list window = refl

module _ (endpoints : ℕ) (window : Window) (may : MayBePlayed endpoints window) where
  pub list_before : EveryBatchLeavesAList → (stage : ℕ) → stage ≤ length window.batches → IsListBefore (first_slot_in window stage) (list_before_stage window stage)
  list_before leaves zero within = subst (IsListBefore (first_slot_in window 0)) (sym (first_list window)) may.before
  list_before leaves (suc stage) within =
      let here = list_before leaves stage (omega arith) in
      let applies = may.applies stage (omega arith) in
      let k : ℕ = window.first_batch + stage in
      let after : IsListBefore (first_slot_in window stage + window.b) (list_then window.b k (batch_of window stage) (list_before_stage window stage)) =
      leaves (is_barred (batch_of window stage).limits) (first_slot_in window stage) window.b (batch_of window stage).entries (list_before_stage window stage) (omega arith) applies.rises applies.opens here in
      let on : k + 1 ≡ window.first_batch + suc stage = omega arith in
      let number : first_slot_in window stage + window.b ≡ first_slot_in window (suc stage) = slots_on k window.b ∙ ap (first_slot window.b) on in
      let next : stage + 1 ≡ suc stage = omega arith in
      subst (λ (list : List Item). IsListBefore (first_slot_in window (suc stage)) list) (sym (one_list_on window stage (omega arith)) ∙ ap (list_before_stage window) next)
      (subst (λ (n : ℕ). IsListBefore n (list_then window.b k (batch_of window stage) (list_before_stage window stage))) number after)

  pub few_items : EveryBatchKeepsItsFlows → FlowsFitPairs → (stage : ℕ) → stage ≤ length window.batches → length (list_before_stage window stage) ≤ 65536
  few_items keeps pairs zero within = omega (arith, ap length (first_list window), may.few_items)
  few_items keeps pairs (suc stage) within =
      let applies = may.applies stage (omega arith) in
      let k : ℕ = window.first_batch + stage in
      let batch : DemandBatch = batch_of window stage in
      let list : List Item = list_before_stage window stage in
      let next : stage + 1 ≡ suc stage = omega arith in
      let long : length (list_before_stage window (suc stage)) ≡ length (list_then window.b k batch list) = ap length (sym (ap (list_before_stage window) next) ∙ one_list_on window stage (omega arith)) in
      let all : length list + length (opened batch.entries) ≤ endpoints * (endpoints - 1) = pairs endpoints batch.entries list applies.rises applies.opens applies.once applies.below applies.apart in
      let most : endpoints * (endpoints - 1) ≤ 256 * 256 = mul-le endpoints (endpoints - 1) 256 256 may.few_endpoints (omega (arith, may.few_endpoints)) in
      omega (arith, long, keeps (is_barred batch.limits) (first_slot_in window stage) window.b batch.entries list, all, most)

  -- no more than there are pairs of endpoints
  pub few_before : FlowsFitPairs → (stage : ℕ) → stage < length window.batches → length (list_before_stage window stage) ≤ endpoints * endpoints
  few_before pairs stage below =
      let applies = may.applies stage below in
      let all = pairs endpoints (batch_of window stage).entries (list_before_stage window stage) applies.rises applies.opens applies.once applies.below applies.apart in
      omega (arith, all, fewer_pairs endpoints)

  pub few_after : EveryBatchKeepsItsFlows → FlowsFitPairs → (stage : ℕ) → stage < length window.batches → length (list_before_stage window (stage + 1)) ≤ endpoints * endpoints
  few_after keeps pairs stage below =
      let applies = may.applies stage below in
      let batch : DemandBatch = batch_of window stage in
      let list : List Item = list_before_stage window stage in
      let all = pairs endpoints batch.entries list applies.rises applies.opens applies.once applies.below applies.apart in
      omega (arith, ap length (one_list_on window stage below), keeps (is_barred batch.limits) (first_slot_in window stage) window.b batch.entries list, all, fewer_pairs endpoints)

  pub few_pieces : EveryBatchKeepsItsFlows → FlowsFitPairs → (stage : ℕ) → stage ≤ length window.batches → pieces_before window stage ≤ 1024
  few_pieces keeps pairs stage within = let few = few_items keeps pairs stage within in omega (arith, few)

pub batch_is : (batches all : List DemandBatch) (stage : ℕ) (batch : DemandBatch) → all ≡ batches → stage < length batches → batch ≡ get_or batches stage batch → batch ≡ batch_of_stage all stage
batch_is batches all stage batch same below is = is ∙ (get_or_default batches stage batch _ below ∙ ap (λ (bs : List DemandBatch). batch_of_stage bs stage) (sym same))
