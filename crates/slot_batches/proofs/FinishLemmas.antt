-- A list is fed to its end: the slots of the batch, and the list that it leaves.
use Rattle.std.proofs.Common.{◌≡◌, ◌≤◌, ℕ, List, [], ◌∷◌, ◌++◌, length, take, true, false, cond, sym, ap, ◌∙◌, subst, arith}
use Rattle.std.proofs.lemmas.Nat.{mul-le}
use Rattle.std.proofs.lemmas.List.{length-append}
use Rattle.greedy_rules.specs.declared.flows.Item.{Item}
use Rattle.greedy_rules.specs.declared.flows.Entry.{Entry}
use Rattle.greedy_rules.specs.Slot.{Bar}
use Rattle.greedy_rules.specs.declared.limits.Limits.{Limits}
use Rattle.greedy_rules.specs.Limits.{is_barred}
use Rattle.greedy_rules.specs.Batches.{DemandBatch}
use Rattle.greedy_rules.specs.Demands.{HasEachFlowOnce, AreBelow, by_last, after_batch, with_batch, opened}
use Rattle.greedy_rules.specs.Allocation.{batch_slots, list_after_slots}
use Rattle.greedy_rules.proofs.Facts.{few}
use Rattle.slot_batches.specs.Feeding.{IsInOrder, was_served, taken_up}
use Rattle.slot_batches.specs.Filled.{Fill, HasTakenUp, MayBeTakenUp}
use Rattle.slot_batches.specs.ArrayStands.{MayBeFed, HasBeenFed}
use Rattle.slot_batches.proofs.FilledLemmas.{lengths_after}
use Rattle.slot_batches.proofs.OpenedFlows.{taken_up_all}
use Rattle.slot_batches.proofs.ProgressLemmas.{stands_at_end}
use Rattle.slot_batches.proofs.SlotExchange.{slot_by_slot}
use Rattle.slot_batches.proofs.StageLemmas.{may_all, may_so_far, open_now, feed_one, unopened_then}
use Rattle.list_facts.proofs.StableSort.{length-sort_by}

-- what is there once all was taken up
pub record IsComplete (bar : Bar) (first_slot b : ℕ) (list : List Item) (fill : Fill) : Type 0 where
  pub slots : fill.slots ≡ batch_slots bar first_slot b list
  pub left : fill.waiting ++ by_last fill.served ≡ list_after_slots bar first_slot b list
  pub few : length (list_after_slots bar first_slot b list) ≤ 65536

complete_here : (batch : List Entry) (fed : List Item) (fill : Fill) → fill.endpoints ≤ 256 → IsInOrder fed → HasTakenUp (taken_up batch fed true) fill
    → IsComplete (is_barred fill.maps.limits) fill.first_slot fill.b (after_batch batch fed) fill
complete_here batch fed fill small up is =
    let bar : Bar = is_barred fill.maps.limits in
    let whole = taken_up_all batch fed up in
    let once : HasEachFlowOnce (after_batch batch fed) = subst HasEachFlowOnce whole is.may.once in
    let served : List Item = fill.served in
    let ends = stands_at_end bar fill.first_slot fill.b batch fed fill.slots fill.waiting served up is.stands in
    let same = slot_by_slot bar fill.first_slot fill.b (after_batch batch fed) once in
    let left : fill.waiting ++ by_last served ≡ list_after_slots bar fill.first_slot fill.b (after_batch batch fed) = ends.1 ∙ ap by_last same.items in
    record {
      slots = ends.0 ∙ same.slots;
      left = left;
      few = omega (
        arith,
        ap (λ (xs : List Item). length xs) left,
        length-append fill.waiting (by_last served),
        length-sort_by (λ (item : Item). item.last) served,
        lengths_after bar fill.first_slot fill.b (taken_up batch fed true) fill.slots fill.waiting served is.stands,
        few fill.endpoints (taken_up batch fed true) is.may.once is.may.in_range,
        mul-le fill.endpoints fill.endpoints 256 256 small small,
      );
    }

pub complete : (limits : Limits) (first_slot b : ℕ) (batch : List Entry) (fed : List Item) (fill : Fill) → fill.maps.limits ≡ limits → fill.first_slot ≡ first_slot → fill.b ≡ b → fill.endpoints ≤ 256 → IsInOrder fed
    → HasTakenUp (taken_up batch fed true) fill → IsComplete (is_barred limits) first_slot b (after_batch batch fed) fill
complete limits first_slot b batch fed fill limits_are first_is b_is small up is =
    subst (λ (l : Limits). IsComplete (is_barred l) first_slot b (after_batch batch fed) fill) limits_are
    (subst (λ (n : ℕ). IsComplete (is_barred fill.maps.limits) first_slot n (after_batch batch fed) fill) b_is
    (subst (λ (n : ℕ). IsComplete (is_barred fill.maps.limits) n fill.b (after_batch batch fed) fill) first_is (complete_here batch fed fill small up is)))

-- the flows that are due may be taken up
pub may_open_now : (batch : DemandBatch) (fed : List Item) (fill : Fill) (unopened : ℕ) → HasBeenFed batch fed fill unopened
    → MayBeTakenUp fill.endpoints fill.first_slot (taken_up batch.entries fed false ++ opened (take unopened batch.entries))
may_open_now batch fed fill unopened so_far =
    subst (MayBeTakenUp fill.endpoints fill.first_slot) (sym (open_now batch.entries fed unopened so_far.unopened_is))
    (may_all batch.entries fill.endpoints fill.first_slot fed so_far.positive so_far.rising so_far.opening so_far.may)

-- the next item may be taken up
pub may_feed : (batch : DemandBatch) (fed : List Item) (item applied : Item) (old : Fill) (unopened endpoints first_slot : ℕ) → HasBeenFed batch fed old unopened
    → MayBeFed batch.entries old.endpoints old.first_slot (fed ++ item ∷ []) → applied ≡ with_batch batch.entries item → endpoints ≡ old.endpoints → first_slot ≡ old.first_slot
    → MayBeTakenUp endpoints first_slot (taken_up batch.entries fed (was_served item) ++ applied ∷ [])
may_feed batch fed item applied old unopened endpoints first_slot so_far may is endpoints_are first_is =
    let there = may_so_far batch.entries old.endpoints old.first_slot (fed ++ item ∷ []) so_far.positive so_far.rising so_far.opening may in
    let list : List Item = taken_up batch.entries fed (was_served item) ++ applied ∷ [] in
    let same : taken_up batch.entries (fed ++ item ∷ []) false ≡ list =
    sym (feed_one batch.entries fed item) ∙ ap (λ (x : Item). taken_up batch.entries fed (was_served item) ++ x ∷ []) (sym is) in
    subst (λ (n : ℕ). MayBeTakenUp n first_slot list) (sym endpoints_are)
    (subst (λ (n : ℕ). MayBeTakenUp old.endpoints n list) (sym first_is) (subst (MayBeTakenUp old.endpoints old.first_slot) same there))

-- and then one item more has been fed
pub fed_one_more : (batch : DemandBatch) (fed : List Item) (item applied : Item) (old new : Fill) (before after : ℕ) → HasBeenFed batch fed old before
    → MayBeFed batch.entries old.endpoints old.first_slot (fed ++ item ∷ []) → applied ≡ with_batch batch.entries item → new.endpoints ≡ old.endpoints → new.first_slot ≡ old.first_slot
    → new.maps.limits ≡ old.maps.limits → HasTakenUp (taken_up batch.entries fed (was_served item) ++ applied ∷ []) new → after ≡ cond (was_served item) 0 before
    → HasBeenFed batch (fed ++ item ∷ []) new after
fed_one_more batch fed item applied old new before after so_far may is endpoints_are first_is limits_are taken left = record {
  positive = omega (arith, so_far.positive, first_is);
  small = omega (arith, so_far.small, endpoints_are);
  rising = so_far.rising;
  limits = limits_are ∙ so_far.limits;
  opening = subst (λ (n : ℕ). AreBelow n (opened batch.entries)) (sym endpoints_are) so_far.opening;
  may = subst (λ (n : ℕ). MayBeFed batch.entries n new.first_slot (fed ++ item ∷ [])) (sym endpoints_are)
      (subst (λ (n : ℕ). MayBeFed batch.entries old.endpoints n (fed ++ item ∷ [])) (sym first_is) may);
  taken = subst (λ (xs : List Item). HasTakenUp xs new)
      (ap (λ (x : Item). taken_up batch.entries fed (was_served item) ++ x ∷ []) is ∙ feed_one batch.entries fed item) taken;
  unopened_is = unopened_then fed item before after (length batch.entries) so_far.unopened_is left;
}
