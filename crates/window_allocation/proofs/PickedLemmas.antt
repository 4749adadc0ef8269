-- A window, and what was picked of its list.
use Rattle.std.proofs.Common.{◌≡◌, ◌<◌, ◌≤◌, ◌+◌, ◌*◌, ℕ, List, [], ◌∷◌, length, Bool, All, true, sym, ap, ◌∙◌, subst, arith}
use Rattle.std.proofs.lemmas.List.Elements.{All-weaker}
use Rattle.list_facts.proofs.Lists.{All-front}
use Rattle.list_facts.proofs.Numbers.{fewer_pairs}
use Rattle.greedy_rules.specs.declared.flows.Flow.{Flow}
use Rattle.greedy_rules.specs.declared.flows.Item.{Item}
use Rattle.greedy_rules.specs.Batches.{DemandBatch}
use Rattle.greedy_rules.specs.Demands.{AreBelow, opened}
use Rattle.greedy_rules.specs.Limits.{is_barred}
use Rattle.greedy_rules.specs.Schedule.{first_slot, list_then, schedule_from, rest_from}
use Rattle.greedy_rules.specs.Recorded.{MayBeApplied}
use Rattle.greedy_rules.specs.Allocation.{slots_of}
use Rattle.greedy_rules.specs.Balance.{EveryBatchBalances}
use Rattle.greedy_rules.specs.Room.{FlowsFitPairs}
use Rattle.slot_batches.specs.Woven.{picked, woven, HaveNoEntry, NeedNothing, IsWovenFrom, ItemsMayBeSetAside}
use Rattle.window_allocation.specs.Logged.{MayBeLogged}
use Rattle.slot_batches.specs.NextList.{IsListBefore, EveryBatchLeavesAList, EveryBatchKeepsItsFlows}
use Rattle.alloc_pipeline.proofs.RingLemmas.{left_before}
use Rattle.window_allocation.proofs.HandedLemmas.{none_named}

-- a list that a batch may be applied to has no more items than there are pairs of endpoints, and so has what batches leave of it
module _ (endpoints b : ℕ) (fit : FlowsFitPairs) (flows : EveryBatchKeepsItsFlows) where
  few_left : (k : ℕ) (list : List Item) (batches : List DemandBatch) → length list ≤ endpoints * endpoints → MayBeApplied endpoints b k list batches
      → length (rest_from b k list batches) ≤ endpoints * endpoints
  few_left k list [] few may = few
  few_left k list (batch ∷ batches) few may =
      let now = fit endpoints batch.entries list may.0.rises may.0.opens may.0.once may.0.below may.0.apart in
      let more = flows (is_barred batch.limits) (first_slot b k) b batch.entries list in
      few_left (k + 1) (list_then b k batch list) batches (omega (arith, now, more, fewer_pairs endpoints)) may.1

  pub few_found : (k : ℕ) (list : List Item) (batches : List DemandBatch) → 0 < length batches → MayBeApplied endpoints b k list batches → length list ≤ endpoints * endpoints
  few_found k list [] some may = absurd (omega arith)
  few_found k list (batch ∷ batches) some may = let now = fit endpoints batch.entries list may.0.rises may.0.opens may.0.once may.0.below may.0.apart in omega (arith, now, fewer_pairs endpoints)

  pub few_rest : (k : ℕ) (list : List Item) (batches : List DemandBatch) → 0 < length batches → MayBeApplied endpoints b k list batches
      → length (rest_from b k list batches) ≤ endpoints * endpoints
  few_rest k list batches some may = few_left k list batches (few_found k list batches some may) may

-- what was picked of a window's list, for its batches
pub record IsPicked (endpoints b first : ℕ) (aside : Item → Bool) (list found : List Item) (batches : List DemandBatch) : Type 0 where
  pub may : MayBeApplied endpoints b first found batches
  pub before : IsListBefore (first_slot b first) found
  pub few : length (rest_from b first found batches) ≤ endpoints * endpoints
  pub slots : schedule_from b first found batches ≡ schedule_from b first list batches
  pub rest : woven aside list (rest_from b first found batches) ≡ rest_from b first list batches
  pub few_whole : length (rest_from b first list batches) ≤ endpoints * endpoints
  pub is : found ≡ picked aside list
  pub named : EveryBatchBalances → All (λ item. aside item ≡ true → slots_of item.flow (schedule_from b first list batches) ≡ 0) list

-- where the law sets them aside
pub picked_by : (endpoints b first : ℕ) (aside : Item → Bool) (list found : List Item) (batches : List DemandBatch) → FlowsFitPairs → EveryBatchKeepsItsFlows
    → 0 < length batches → MayBeApplied endpoints b first list batches → IsListBefore (first_slot b first) list → All (λ item. aside item ≡ true → HaveNoEntry batches item.flow) list
    → IsWovenFrom endpoints b first aside list batches → found ≡ picked aside list → IsPicked endpoints b first aside list found batches
picked_by endpoints b first aside list found batches fit flows some may before no_entries law is =
    let may_found : MayBeApplied endpoints b first found batches = subst (λ (xs : List Item). MayBeApplied endpoints b first xs batches) (sym is) law.may in
    record {
      may = may_found;
      before = subst (IsListBefore (first_slot b first)) (sym is) law.before;
      few = few_rest endpoints b fit flows first found batches some may_found;
      slots = ap (λ (xs : List Item). schedule_from b first xs batches) is ∙ law.slots;
      rest = ap (λ (xs : List Item). woven aside list (rest_from b first xs batches)) is ∙ law.rest;
      few_whole = few_rest endpoints b fit flows first list batches some may;
      is = is;
      named = λ balances.
          subst (λ (slots : List (List Flow)). All (λ item. aside item ≡ true → slots_of item.flow slots ≡ 0) list) law.slots
          (none_named aside endpoints b first list batches balances before.once law.may no_entries);
    }

-- items that need nothing may be set aside
pub idle_window : (endpoints b first : ℕ) (aside : Item → Bool) (list found : List Item) (batches : List DemandBatch) → FlowsFitPairs → EveryBatchKeepsItsFlows → ItemsMayBeSetAside → 0 < length batches
    → MayBeApplied endpoints b first list batches → IsListBefore (first_slot b first) list → NeedNothing aside batches list → found ≡ picked aside list → IsPicked endpoints b first aside list found batches
idle_window endpoints b first aside list found batches fit flows set_aside some may before nothing found_is =
    picked_by endpoints b first aside list found batches fit flows some may before
    (All-weaker (λ item. aside item ≡ true → (item.need ≡ 0) × HaveNoEntry batches item.flow) (λ item. aside item ≡ true → HaveNoEntry batches item.flow) (λ item needs out. (needs out).1) list nothing)
    (set_aside endpoints b first aside list batches before may nothing) found_is

-- a list before batches may be kept in logs, and so may what they leave
abbrev InRange : ℕ → Item → Type 0
InRange endpoints item = (item.flow.src < endpoints) × (item.flow.dst < endpoints)

below_left : (endpoints b k : ℕ) (list : List Item) (batches : List DemandBatch) → EveryBatchBalances → MayBeApplied endpoints b k list batches → AreBelow endpoints list → AreBelow endpoints (rest_from b k list batches)
below_left endpoints b k list [] balances may below = below
below_left endpoints b k list (batch ∷ batches) balances may below =
    let applies = may.0 in
    let left = balances batch.limits endpoints (first_slot b k) b batch.entries list applies.rises applies.opens applies.once applies.below in
    below_left endpoints b (k + 1) (list_then b k batch list) batches balances may.1 left.in_range

below_found : (endpoints b k : ℕ) (list : List Item) (batches : List DemandBatch) → 0 < length batches → MayBeApplied endpoints b k list batches → AreBelow endpoints list
below_found endpoints b k list [] some may = absurd (omega arith)
below_found endpoints b k list (batch ∷ batches) some may = All-front (InRange endpoints) list (opened batch.entries) may.0.below

pub logged_found : (endpoints b k : ℕ) (list : List Item) (batches : List DemandBatch) → FlowsFitPairs → EveryBatchKeepsItsFlows → 0 < length batches → MayBeApplied endpoints b k list batches → IsListBefore (first_slot b k) list
    → MayBeLogged endpoints list
logged_found endpoints b k list batches fit flows some may before = record {
  once = before.once;
  below = below_found endpoints b k list batches some may;
  order = before.in_order;
  few = few_found endpoints b fit flows k list batches some may;
}

pub logged_rest : (endpoints b k : ℕ) (list : List Item) (batches : List DemandBatch) → FlowsFitPairs → EveryBatchKeepsItsFlows → EveryBatchLeavesAList → EveryBatchBalances → 0 < length batches → MayBeApplied endpoints b k list batches
    → IsListBefore (first_slot b k) list → MayBeLogged endpoints (rest_from b k list batches)
logged_rest endpoints b k list batches fit flows leaves balances some may before =
    let left = left_before endpoints b k list batches leaves may before in
    record {
      once = left.once;
      below = below_left endpoints b k list batches balances may (below_found endpoints b k list batches some may);
      order = left.in_order;
      few = few_rest endpoints b fit flows k list batches some may;
    }
