-- The list that a batch leaves whose items took their slots by turns.
use Rattle.std.proofs.Common.{◌≡◌, ◌<◌, ◌≤◌, ◌+◌, ◌++◌, nat_lt, true, ℕ, List, [], length, map, replicate, All, sym, ap, ◌∙◌, subst, arith}
use Rattle.std.proofs.lemmas.Bool.{ltb-true}
use Rattle.std.proofs.lemmas.List.Elements.{All-append, All-map, All-weaker, filter_passes}
use Rattle.list_facts.proofs.StableSort.{All-sort_by}
use Rattle.greedy_rules.specs.declared.flows.Flow.{Flow}
use Rattle.greedy_rules.specs.declared.flows.Item.{Item}
use Rattle.greedy_rules.specs.declared.flows.Entry.{Entry}
use Rattle.greedy_rules.specs.declared.limits.Limits.{Limits}
use Rattle.greedy_rules.specs.Batches.{IsBatch}
use Rattle.greedy_rules.specs.Limits.{is_barred}
use Rattle.greedy_rules.specs.Demands.{HasEachFlowOnce, AreBelow, OpensNewFlows, by_last, last_served, with_batch, after_batch, opened}
use Rattle.greedy_rules.specs.Allocation.{batch_slots, list_after_slots}
use Rattle.greedy_rules.proofs.Facts.{once-after_batch_by, flows-after_batch_by}
use Rattle.slot_batches.specs.Filled.{Fill, HasTakenUp, MayBeTakenUp}
use Rattle.slot_batches.specs.FlowByFlow.{items_after}
use Rattle.slot_batches.specs.Feeding.{IsServedWithin, unserved}
use Rattle.slot_batches.specs.Progress.{StandsAfter}
use Rattle.slot_batches.proofs.FilledLemmas.{lengths_after}
use Rattle.slot_batches.proofs.ListOrder.{in_order-sort_by}
use Rattle.slot_batches.proofs.NextList.{lasts-opened, last_of}
use Rattle.slot_batches.proofs.ServedSlots.{all_within}
use Rattle.slot_batches.proofs.SlotExchange.{slot_by_slot}
use Rattle.slot_batches.proofs.SortedRuns.{two_runs}
use Rattle.fewest_order.proofs.ServeLemmas.{length-applied}

-- the batch may be applied to a list of items that were last served before its first slot
pub may_take : (endpoints first : ℕ) (entries : List Entry) (list : List Item) → IsBatch entries → HasEachFlowOnce list → OpensNewFlows entries list → AreBelow endpoints (list ++ opened entries)
    → All (λ item. item.last < first) list → 1 ≤ first → MayBeTakenUp endpoints first (after_batch entries list)
may_take endpoints first entries list rising once opens within before some =
    let Before : Item → Type 0 = λ item. item.last < first in
    record {
      once = once-after_batch_by last_served entries list rising opens once;
      in_range = flows-after_batch_by last_served (λ flow. (flow.src < endpoints) × (flow.dst < endpoints)) entries list within;
      below = All-sort_by Before last_of (map (with_batch entries) list ++ opened entries)
          (All-append Before (map (with_batch entries) list) (opened entries) (All-map Before (with_batch entries) list before) (lasts-opened first entries some));
    }

module _ (limits : Limits) (first b : ℕ) (entries : List Entry) (list : List Item) (fill : Fill) where
  abbrev pub start : List Item
  start = after_batch entries list

  -- the items of the batch's start list took their turns
  pub record TookTurns : Type 0 where
    pub taken : HasTakenUp start fill
    pub limits_are : fill.maps.limits ≡ limits
    pub first_is : fill.first_slot ≡ first
    pub b_is : fill.b ≡ b

  stands : TookTurns → StandsAfter (is_barred limits) first b start fill.slots fill.waiting fill.served
  stands turns =
      subst (λ (n : ℕ). StandsAfter (is_barred limits) first n start fill.slots fill.waiting fill.served) turns.b_is
      (subst (λ (n : ℕ). StandsAfter (is_barred limits) n fill.b start fill.slots fill.waiting fill.served) turns.first_is
      (subst (λ (l : Limits). StandsAfter (is_barred l) fill.first_slot fill.b start fill.slots fill.waiting fill.served) turns.limits_are turns.taken.stands))

  pub turns_count : TookTurns → length fill.waiting + length fill.served ≡ length list + length (opened entries)
  turns_count turns = lengths_after (is_barred limits) first b start fill.slots fill.waiting fill.served (stands turns) ∙ length-applied last_served entries list

  pub turns_slots : TookTurns → fill.slots ≡ batch_slots (is_barred limits) first b start
  turns_slots turns = (stands turns).slots_are ∙ (slot_by_slot (is_barred limits) first b start turns.taken.may.once).slots

  pub turns_list : TookTurns → fill.waiting ++ by_last fill.served ≡ list_after_slots (is_barred limits) first b start
  turns_list turns =
      let none_yet : List (List Flow) = replicate b [] in
      let items : List Item = items_after (is_barred limits) first start none_yet in
      let s = stands turns in
      ap (λ (xs : List Item). xs ++ by_last fill.served) s.waiting_are
      ∙ (ap (λ (xs : List Item). unserved first items ++ by_last xs) s.served_are
      ∙ (sym (two_runs (is_barred limits) first start none_yet (in_order-sort_by last_of (map (with_batch entries) list ++ opened entries)))
      ∙ ap by_last (slot_by_slot (is_barred limits) first b start turns.taken.may.once).items))

  pub turns_before : TookTurns → All (λ item. item.last < first + b) (fill.waiting ++ by_last fill.served)
  turns_before turns =
      let Before : Item → Type 0 = λ item. item.last < first + b in
      let s = stands turns in
      let items : List Item = items_after (is_barred limits) first start (replicate b []) in
      let below : All (λ (item : Item). item.last < first) start = subst (λ (n : ℕ). All (λ (item : Item). item.last < n) start) turns.first_is turns.taken.may.below in
      let waits : All Before fill.waiting =
      subst (All Before) (sym s.waiting_are)
      (All-weaker (λ (item : Item). nat_lt item.last first ≡ true) Before (λ item is. let less : item.last < first = ltb-true item.last first is in omega (arith, less)) (unserved first items) (filter_passes (λ (item : Item). nat_lt item.last first) items)) in
      let serves : All Before fill.served =
      All-weaker (IsServedWithin first b) Before (λ item within. within.1) fill.served (all_within (is_barred limits) first b start fill.slots fill.waiting fill.served s below) in
      All-append Before fill.waiting (by_last fill.served) waits (All-sort_by Before last_of fill.served serves)
