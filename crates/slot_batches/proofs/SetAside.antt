-- Items that need nothing, or are kept out of every slot, set aside for a window of batches.
use Rattle.std.proofs.Common.{◌≡◌, ◌≢◌, ◌<◌, ◌≤◌, ◌+◌, ◌^◌, ℕ, List, [], ◌∷◌, ◌++◌, map, filter, replicate, Bool, true, false, not, ◌&&◌, ◌||◌, nat_lt, cond, Some, None, All, refl, sym, ap, ◌∙◌, subst, arith, inl, inr}
use Rattle.std.specs.Option.{is_some}
use Rattle.std.proofs.lemmas.Bool.{cases_Bool, cond-true, cond-false, cond_both, and_left, and_right, or_left, or_right, not-true, not_from_true, not_from_false, lt-ltb, ltb-true, ltb-false, ne_eqb, false_from_ne_true, both_ways}
use Rattle.std.proofs.lemmas.List.{append-nil, append_assoc}
use Rattle.std.proofs.lemmas.List.Elements.{All-nil, All-cons, All-head, All-tail, All-append, All-map, All-weaker, All-filter, filter-append, filter_passes}
use Rattle.std.proofs.lemmas.List.Folds.{list_any-append}
use Rattle.std.proofs.Math.Bool.{and_comm}
use Rattle.greedy_rules.specs.declared.flows.Flow.{Flow}
use Rattle.greedy_rules.specs.declared.flows.Item.{Item}
use Rattle.greedy_rules.specs.declared.flows.Entry.{Entry}
use Rattle.greedy_rules.specs.Flows.{same_flow}
use Rattle.greedy_rules.specs.Batches.{DemandBatch, IsBatch, entry_of}
use Rattle.greedy_rules.specs.Slot.{Bar}
use Rattle.greedy_rules.specs.Limits.{is_barred}
use Rattle.greedy_rules.specs.Demands.{HasEachFlowOnce, OpensNewFlows, is_listed, need_with, with_batch, opened, after_batch, by_last}
use Rattle.greedy_rules.specs.Allocation.{batch_slots, list_after_slots}
use Rattle.greedy_rules.specs.Schedule.{first_slot, slots_then, list_then, schedule_from, rest_from}
use Rattle.greedy_rules.specs.Recorded.{Applies, MayBeApplied}
use Rattle.greedy_rules.proofs.Facts.{same_flow-true, same_flow-refl, InRange, All-opened, once-after_batch, listed-after_batch, listed-after_slots}
use Rattle.greedy_rules.proofs.OnceLemmas.{Other}
use Rattle.list_facts.proofs.Pairs.{AllPairs-cons, AllPairs-head, AllPairs-tail}
use Rattle.list_facts.proofs.StableSort.{Floor, Rises, rises_from, All-sort_by}
use Rattle.list_facts.proofs.Lists.{filter_none, filter_all, All-front}
use Rattle.list_facts.proofs.Numbers.{slots_on}
use Rattle.slot_batches.specs.FlowByFlow.{slots_after, items_after}
use Rattle.slot_batches.specs.Feeding.{was_served, unserved, newly_served}
use Rattle.slot_batches.specs.NextList.{IsListBefore}
use Rattle.slot_batches.specs.Woven.{picked, stays, weave, never_served, once_served, woven, HaveNoEntry, OnlyOpen, ItemsMayBeSetAside, ListedFlowsAreOpen}
use Rattle.slot_batches.specs.Beyond.{first_part, second_part, StayOut, AreBeyondReach, ItemsBeyondReachMayBeSetAside}
use Rattle.slot_batches.proofs.ListOrder.{in_order_from}
use Rattle.slot_batches.proofs.OpenedFlows.{all_served, after_batch_parts, in_order-after_batch}
use Rattle.slot_batches.proofs.SortedRuns.{two_runs}
use Rattle.slot_batches.proofs.ServedSlots.{filter_twice}
use Rattle.slot_batches.proofs.SlotExchange.{slot_by_slot}
use Rattle.slot_batches.proofs.TurnSteps.{slots_after-append, items_after-append}
use Rattle.slot_batches.proofs.NextList.{every_batch_leaves_a_list, last_of}
use Rattle.slot_batches.proofs.WeaveLemmas.{IsGoneFrom, Weaves, Asides, Others, All-unserved, no_entry_is, weave_is, All-rest, listed_in_rest, weaves_picked, applied_to_both, more_behind_both, idle_are_kept_out, same_slots, same_served, unserved_of_both}

pub All-back : (P : Item → Type 0) (xs ys : List Item) → All P (xs ++ ys) → All P ys
All-back P [] ys all = all
All-back P (x ∷ xs) ys all = All-back P xs ys (All-tail P x (xs ++ ys) all)

-- what a filter keeps of an order
floor-filter : (p : Item → Bool) (n : ℕ) (xs : List Item) → Floor last_of n xs → Floor last_of n (filter p xs)
floor-filter p n [] floor = tt
floor-filter p n (x ∷ xs) floor =
    cond_both (p x) (x ∷ filter p xs) (filter p xs) (Floor last_of n) (λ _. (floor.0, floor-filter p n xs floor.1)) (λ _. floor-filter p n xs floor.1)

rises-filter : (p : Item → Bool) (xs : List Item) → Rises last_of xs → Rises last_of (filter p xs)
rises-filter p [] rises = tt
rises-filter p (x ∷ xs) rises =
    cond_both (p x) (x ∷ filter p xs) (filter p xs) (Rises last_of) (λ _. (floor-filter p x.last xs rises.0, rises-filter p xs rises.1)) (λ _. rises-filter p xs rises.1)

pub once-filter : (p : Item → Bool) (xs : List Item) → HasEachFlowOnce xs → HasEachFlowOnce (filter p xs)
once-filter p [] once = once
once-filter p (x ∷ xs) once =
    let rest = once-filter p xs (AllPairs-tail Other x xs once) in
    cond_both (p x) (x ∷ filter p xs) (filter p xs) HasEachFlowOnce
    (λ _. AllPairs-cons Other x (filter p xs) (All-filter p (Other x) xs (AllPairs-head Other x xs once)) rest) (λ _. rest)

pub filter_swap : (p q : Item → Bool) (xs : List Item) → filter p (filter q xs) ≡ filter q (filter p xs)
filter_swap p q xs =
    filter_twice p q (λ x. q x && p x) (λ x. refl) xs
    ∙ sym (filter_twice q p (λ x. q x && p x) (λ x. and_comm (p x) (q x)) xs)

pub still_before : (number : ℕ) (p : Item → Bool) (list : List Item) → IsListBefore number list → IsListBefore number (filter p list)
still_before number p list before = record {
  in_order = in_order_from last_of (filter p list) (rises-filter p list (rises_from last_of list before.in_order));
  below = All-filter p (λ item. item.last < number) list before.below;
  once = once-filter p list before.once;
}

-- the two parts of a list
abbrev IsNew : Item → Type 0
IsNew item = was_served item ≡ false

abbrev IsOld : Item → Type 0
IsOld item = was_served item ≡ true

pub new_ones : (list : List Item) → All IsNew (never_served list)
new_ones list = All-weaker (λ x. not (was_served x) ≡ true) IsNew (λ x is. not-true _ is) (never_served list) (filter_passes (λ x. not (was_served x)) list)

never_part : (xs ys : List Item) → All IsNew xs → All IsOld ys → never_served (xs ++ ys) ≡ xs
never_part xs ys new old =
    filter-append (λ x. not (was_served x)) xs ys
    ∙ (ap (λ (zs : List Item). zs ++ never_served ys) (filter_all (λ x. not (was_served x)) xs (All-weaker IsNew (λ x. not (was_served x) ≡ true) (λ x is. not_from_false _ is) xs new))
    ∙ (ap (λ (zs : List Item). xs ++ zs) (filter_none (λ x. not (was_served x)) ys (All-weaker IsOld (λ x. not (was_served x) ≡ false) (λ x is. not_from_true _ is) ys old))
    ∙ append-nil xs))

once_part : (xs ys : List Item) → All IsNew xs → All IsOld ys → once_served (xs ++ ys) ≡ ys
once_part xs ys new old =
    filter-append was_served xs ys
    ∙ (ap (λ (zs : List Item). zs ++ once_served ys) (filter_none was_served xs new) ∙ filter_all was_served ys old)

parts_in_order : (list : List Item) → Rises last_of list → list ≡ never_served list ++ once_served list
parts_in_order [] rises = refl
parts_in_order (item ∷ list) rises =
    elim (cases_Bool (was_served item)) [
      | inl served ↦
          let all = all_served item.last (item ∷ list) (ltb-true 0 item.last served) (omega arith, rises.0) in
          sym (ap (λ (zs : List Item). zs ++ once_served (item ∷ list)) all.1 ∙ all.0)
      | inr not_served ↦
          ap (λ (zs : List Item). item ∷ zs) (parts_in_order list rises.1)
          ∙ ap (λ b. cond (not b) (item ∷ never_served list) (never_served list) ++ cond b (item ∷ once_served list) (once_served list)) (sym not_served)
    ]

pub parts_are : (number : ℕ) (list : List Item) → IsListBefore number list → list ≡ never_served list ++ once_served list
parts_are number list before = parts_in_order list (rises_from last_of list before.in_order)

-- the two parts of a list with a batch applied, and of what the batch leaves
abbrev pub front : List Entry → List Item → List Item
front entries list = first_part entries list

abbrev pub back : List Entry → List Item → List Item
back entries list = second_part entries list

module _ (bar : Bar) (number count : ℕ) (entries : List Entry) where
  abbrev pub empty : List (List Flow)
  empty = replicate count []

  abbrev pub slots_between : List Item → List (List Flow)
  slots_between list = slots_after bar number (front entries list) empty

  abbrev left_front : List Item → List Item
  left_front list = unserved number (items_after bar number (front entries list) empty)

  abbrev served_now : List Item → List Item
  served_now list = newly_served number (items_after bar number (front entries list ++ back entries list) empty)

  abbrev left_back : List Item → List Item
  left_back list = unserved number (items_after bar number (back entries list) (slots_between list)) ++ by_last (served_now list)

  abbrev list_left : List Item → List Item
  list_left list = list_after_slots bar number count (after_batch entries list)

  pub record InParts (list : List Item) : Type 0 where
    pub slots : batch_slots bar number count (after_batch entries list) ≡ slots_after bar number (back entries list) (slots_between list)
    pub never : never_served (list_left list) ≡ left_front list
    pub once : once_served (list_left list) ≡ left_back list

  new_front : (list : List Item) → All IsNew (left_front list)
  new_front list =
      let put : Item → Item = with_batch entries in
      All-unserved bar IsNew number (front entries list) empty
      (All-append IsNew (map put (never_served list)) (opened entries) (All-map IsNew put (never_served list) (new_ones list))
      (All-map IsNew (λ (entry : Entry). record { flow = entry.flow; need = entry.add; last = 0 }) (filter (λ entry. entry.opens) entries) (λ k d below. refl)))

  old_back : (list : List Item) → 0 < number → All IsOld (left_back list)
  old_back list positive =
      let old : (x : Item) → not (nat_lt x.last number) ≡ true → IsOld x = λ x high. let above : number ≤ x.last = ltb-false _ _ (not-true _ high) in lt-ltb 0 x.last (omega arith) in
      All-append IsOld (unserved number (items_after bar number (back entries list) (slots_between list))) (by_last (served_now list))
      (All-unserved bar IsOld number (back entries list) (slots_between list) (All-map IsOld (with_batch entries) (once_served list) (filter_passes was_served list)))
      (All-sort_by IsOld last_of (served_now list)
      (All-weaker (λ x. not (nat_lt x.last number) ≡ true) IsOld old (served_now list) (filter_passes (λ x. not (nat_lt x.last number)) (items_after bar number (front entries list ++ back entries list) empty))))

  pub parts_of_batch : (list : List Item) → 0 < number → IsBatch entries → OpensNewFlows entries list → IsListBefore number list → InParts list
  parts_of_batch list positive rising opens before =
      let put : Item → Item = with_batch entries in
      let applied : List Item = after_batch entries list in
      let first : List Item = front entries list in
      let second : List Item = back entries list in
      let applied_is : applied ≡ first ++ second = after_batch_parts entries list before.in_order ∙ sym (append_assoc (map put (never_served list)) (opened entries) second) in
      let by_flow = slot_by_slot bar number count applied (once-after_batch entries list rising opens before.once) in
      let left : list_left list ≡ left_front list ++ left_back list =
      ap by_last (sym by_flow.items)
      ∙ (two_runs bar number applied empty (in_order-after_batch entries list)
      ∙ (ap (λ (xs : List Item). unserved number (items_after bar number xs empty) ++ by_last (newly_served number (items_after bar number xs empty))) applied_is
      ∙ (ap (λ (xs : List Item). xs ++ by_last (served_now list))
      (ap (unserved number) (items_after-append bar number first second empty)
      ∙ filter-append (λ x. nat_lt x.last number) (items_after bar number first empty) (items_after bar number second (slots_between list)))
      ∙ append_assoc (left_front list) (unserved number (items_after bar number second (slots_between list))) (by_last (served_now list))))) in
      record {
        slots = sym by_flow.slots ∙ (ap (λ (xs : List Item). slots_after bar number xs empty) applied_is ∙ slots_after-append bar number first second empty);
        never = ap never_served left ∙ never_part (left_front list) (left_back list) (new_front list) (old_back list positive);
        once = ap once_served left ∙ once_part (left_front list) (left_back list) (new_front list) (old_back list positive);
      }

module _ (aside : Item → Bool) (start : ℕ) (list : List Item) where
  -- the whole list and the rest of it, while the batches run
  pub record AreWoven (number : ℕ) (rest whole : List Item) : Type 0 where
    pub front_part : Weaves aside (never_served list) (never_served rest) (never_served whole)
    pub back_part : Weaves aside (once_served list) (once_served rest) (once_served whole)
    pub listed : Others aside (λ item. is_listed rest item.flow ≡ true) list
    pub before_rest : IsListBefore number rest
    pub before_whole : IsListBefore number whole

  rest_has : (P : Item → Type 0) (number : ℕ) (rest whole : List Item) → AreWoven number rest whole → All P whole → All P rest
  rest_has P number rest whole are all =
      subst (All P) (sym (parts_are number rest are.before_rest))
      (All-append P (never_served rest) (once_served rest)
      (All-rest aside P (never_served list) (never_served rest) (never_served whole) are.front_part (All-filter (λ x. not (was_served x)) P whole all))
      (All-rest aside P (once_served list) (once_served rest) (once_served whole) are.back_part (All-filter was_served P whole all)))

  same_listed : (flow : Flow) (number : ℕ) (rest whole : List Item) → AreWoven number rest whole → Asides aside (λ item. same_flow item.flow flow ≡ false) list → is_listed whole flow ≡ is_listed rest flow
  same_listed flow number rest whole are others =
      let Away : Item → Type 0 = λ item. aside item ≡ true → same_flow item.flow flow ≡ false in
      let of_flow : Item → Bool = λ item. same_flow item.flow flow in
      ap (λ (xs : List Item). is_listed xs flow) (parts_are number whole are.before_whole)
      ∙ (list_any-append of_flow (never_served whole) (once_served whole)
      ∙ (ap (λ b. b || is_listed (once_served whole) flow)
      (listed_in_rest aside flow (never_served list) (never_served rest) (never_served whole) are.front_part (All-filter (λ x. not (was_served x)) Away list others))
      ∙ (ap (λ b. is_listed (never_served rest) flow || b)
      (listed_in_rest aside flow (once_served list) (once_served rest) (once_served whole) are.back_part (All-filter was_served Away list others))
      ∙ (sym (list_any-append of_flow (never_served rest) (once_served rest)) ∙ ap (λ (xs : List Item). is_listed xs flow) (sym (parts_are number rest are.before_rest))))))

  pub record Step (endpoints : ℕ) (bar : Bar) (number count : ℕ) (batch : DemandBatch) (rest whole : List Item) : Type 0 where
    pub applies : Applies endpoints batch rest
    pub slots : batch_slots bar number count (after_batch batch.entries rest) ≡ batch_slots bar number count (after_batch batch.entries whole)
    pub next : AreWoven (number + count) (list_after_slots bar number count (after_batch batch.entries rest)) (list_after_slots bar number count (after_batch batch.entries whole))

  abbrev TwoEnds : Item → Type 0
  TwoEnds item = item.flow.src ≢ item.flow.dst

  abbrev pub NoEntry : List Entry → Item → Type 0
  NoEntry entries item = aside item ≡ true → entry_of entries item.flow ≡ None

  pub step_applies : (endpoints number : ℕ) (batch : DemandBatch) (rest whole : List Item) → AreWoven number rest whole → Applies endpoints batch whole → All (NoEntry batch.entries) list → Applies endpoints batch rest
  step_applies endpoints number batch rest whole are applies none = record {
    rises = applies.rises;
    opens = λ k d below.
        applies.opens k d below
        ∙ ap not (same_listed _ number rest whole are (λ j e within out. no_entry_is batch.entries _ (none j e within out) k d below));
    once = are.before_rest.once;
    below = All-append (InRange endpoints) rest (opened batch.entries)
        (rest_has (InRange endpoints) number rest whole are (All-front (InRange endpoints) whole (opened batch.entries) applies.below))
        (All-back (InRange endpoints) whole (opened batch.entries) applies.below);
    apart = All-append TwoEnds rest (opened batch.entries) (rest_has TwoEnds number rest whole are (All-front TwoEnds whole (opened batch.entries) applies.apart))
        (All-back TwoEnds whole (opened batch.entries) applies.apart);
    needs = rest_has (λ item. need_with (entry_of batch.entries item.flow) item.need < 2 ^ 32) number rest whole are applies.needs;
  }

  -- what opens is not of the list
  pub opened_apart : (entries : List Entry) (rest : List Item) → OpensNewFlows entries rest → Others aside (λ item. is_listed rest item.flow ≡ true) list → Others aside (IsGoneFrom (opened entries)) list
  opened_apart entries rest opens listed =
      All-weaker (λ item. aside item ≡ false → is_listed rest item.flow ≡ true) (λ item. aside item ≡ false → IsGoneFrom (opened entries) item)
      (λ item is in_it.
      let others : All (λ (x : Item). x.flow ≢ item.flow) (opened entries) =
      All-opened (λ flow. flow ≢ item.flow) entries
      (λ k d below opening same. both_ways (is_listed rest item.flow)
      (ap (is_listed rest) (sym same) ∙ not-true _ (sym (opens k d below) ∙ opening)) (is in_it)) in
      All-weaker (λ (x : Item). x.flow ≢ item.flow) (λ x. stays item x ≡ false)
      (λ x other. and_left _ _ (false_from_ne_true _ (λ same. other (sym (same_flow-true item.flow x.flow same))))) (opened entries) others)
      list listed

  pub step : (endpoints : ℕ) (bar : Bar) (number count : ℕ) (batch : DemandBatch) (rest whole : List Item) → 0 < number → start ≤ number → All (λ item. item.last < start) list
      → StayOut aside bar number count batch.entries list rest → All (NoEntry batch.entries) list → AreWoven number rest whole → Applies endpoints batch whole → Step endpoints bar number count batch rest whole
  step endpoints bar number count batch rest whole positive from low outside none are applies =
      let entries : List Entry = batch.entries in
      let A : List Item = never_served list in
      let B : List Item = once_served list in
      let put : Item → Item = with_batch entries in
      let applies_rest = step_applies endpoints number batch rest whole are applies none in
      let of_rest = parts_of_batch bar number count entries rest positive applies.rises applies_rest.opens are.before_rest in
      let of_whole = parts_of_batch bar number count entries whole positive applies.rises applies.opens are.before_whole in
      let Low : Item → Type 0 = λ item. aside item ≡ true → item.last < number in
      let low_list : All Low list = λ k d below out. omega (arith, low k d below) in
      let low_A = All-filter (λ x. not (was_served x)) Low list low_list in
      let low_B = All-filter was_served Low list low_list in
      let first = more_behind_both aside (opened entries) A (map put (never_served rest)) (map put (never_served whole))
      (applied_to_both aside entries A (never_served rest) (never_served whole) are.front_part (All-filter (λ x. not (was_served x)) (NoEntry entries) list none))
      (All-filter (λ x. not (was_served x)) (λ item. aside item ≡ false → IsGoneFrom (opened entries) item) list (opened_apart entries rest applies_rest.opens are.listed)) in
      let second = applied_to_both aside entries B (once_served rest) (once_served whole) are.back_part (All-filter was_served (NoEntry entries) list none) in
      let none_yet : List (List Flow) = replicate count [] in
      let between_rest : List (List Flow) = slots_between bar number count entries rest in
      let between_whole : List (List Flow) = slots_between bar number count entries whole in
      let between : between_whole ≡ between_rest = same_slots aside bar number A (front entries rest) (front entries whole) none_yet first outside.first in
      let items : List Item → List (List Flow) → List Item = items_after bar number in
      let parted : (xs ys : List Item) → newly_served number (items (xs ++ ys) none_yet) ≡ newly_served number (items xs none_yet) ++ newly_served number (items ys (slots_after bar number xs none_yet)) =
      λ xs ys. ap (newly_served number) (items_after-append bar number xs ys none_yet)
      ∙ filter-append (λ x. not (nat_lt x.last number)) (items xs none_yet) (items ys (slots_after bar number xs none_yet)) in
      let served_rest : List Item = served_now bar number count entries rest in
      let served_whole : List Item = served_now bar number count entries whole in
      let served_are : served_whole ≡ served_rest =
      parted (front entries whole) (back entries whole)
      ∙ (ap (λ (xs : List Item). xs ++ newly_served number (items (back entries whole) between_whole)) (same_served aside bar number A (front entries rest) (front entries whole) none_yet first low_A outside.first)
      ∙ (ap (λ (s : List (List Flow)). newly_served number (items (front entries rest) none_yet) ++ newly_served number (items (back entries whole) s)) between
      ∙ (ap (λ (xs : List Item). newly_served number (items (front entries rest) none_yet) ++ xs) (same_served aside bar number B (back entries rest) (back entries whole) between_rest second low_B outside.second)
      ∙ sym (parted (front entries rest) (back entries rest))))) in
      let later : (item : Item) → item.last < start → IsGoneFrom (by_last served_rest) item =
      λ item early.
      All-sort_by (λ x. stays item x ≡ false) last_of served_rest
      (All-weaker (λ x. not (nat_lt x.last number) ≡ true) (λ x. stays item x ≡ false)
      (λ x high. let above : number ≤ x.last = ltb-false _ _ (not-true _ high) in and_right _ _ (ne_eqb item.last x.last (λ e. omega arith))) served_rest
      (filter_passes (λ x. not (nat_lt x.last number)) (items (front entries rest ++ back entries rest) none_yet))) in
      let behind : Others aside (IsGoneFrom (by_last served_rest)) B =
      All-filter was_served (λ item. aside item ≡ false → IsGoneFrom (by_last served_rest) item) list
      (All-weaker (λ item. item.last < start) (λ item. aside item ≡ false → IsGoneFrom (by_last served_rest) item) (λ item early _. later item early) list low) in
      let stood_rest : List Item = unserved number (items (back entries rest) between_rest) in
      let stood_whole : List Item = unserved number (items (back entries whole) between_rest) in
      let back_left : Weaves aside B (stood_rest ++ by_last served_rest) (stood_whole ++ by_last served_rest) =
      more_behind_both aside (by_last served_rest) B stood_rest stood_whole (unserved_of_both aside bar number B (back entries rest) (back entries whole) between_rest second low_B outside.second) behind in
      let whole_back : stood_whole ++ by_last served_rest ≡ left_back bar number count entries whole =
      ap (λ (s : List (List Flow)). unserved number (items (back entries whole) s) ++ by_last served_rest) (sym between)
      ∙ ap (λ (xs : List Item). unserved number (items (back entries whole) between_whole) ++ by_last xs) (sym served_are) in
      record {
        applies = applies_rest;
        slots = of_rest.slots
            ∙ (sym (same_slots aside bar number B (back entries rest) (back entries whole) between_rest second outside.second)
            ∙ (ap (slots_after bar number (back entries whole)) (sym between) ∙ sym of_whole.slots));
        next = record {
          front_part = subst (λ (xs : List Item). Weaves aside A xs (never_served (list_left bar number count entries whole))) (sym of_rest.never)
              (subst (Weaves aside A (left_front bar number count entries rest)) (sym of_whole.never)
              (unserved_of_both aside bar number A (front entries rest) (front entries whole) none_yet first low_A outside.first));
          back_part = subst (λ (xs : List Item). Weaves aside B xs (once_served (list_left bar number count entries whole))) (sym of_rest.once)
              (subst (Weaves aside B (left_back bar number count entries rest)) (whole_back ∙ sym of_whole.once) back_left);
          listed = All-weaker (λ item. aside item ≡ false → is_listed rest item.flow ≡ true) (λ item. aside item ≡ false → is_listed (list_left bar number count entries rest) item.flow ≡ true)
              (λ item is in_it.
              listed-after_slots bar number count (after_batch entries rest) item.flow
              ∙ (listed-after_batch entries rest item.flow applies.rises applies_rest.opens ∙ or_left (is_listed rest item.flow) (is_some (entry_of entries item.flow)) (is in_it))) list are.listed;
          before_rest = every_batch_leaves_a_list bar number count entries rest positive applies.rises applies_rest.opens are.before_rest;
          before_whole = every_batch_leaves_a_list bar number count entries whole positive applies.rises applies.opens are.before_whole;
        };
      }

  record Window (endpoints b k : ℕ) (batches : List DemandBatch) (rest whole : List Item) : Type 0 where
    may : MayBeApplied endpoints b k rest batches
    slots : schedule_from b k rest batches ≡ schedule_from b k whole batches
    left : woven aside list (rest_from b k rest batches) ≡ rest_from b k whole batches

  window : (endpoints b k : ℕ) (batches : List DemandBatch) (rest whole : List Item) → start ≤ first_slot b k → All (λ item. item.last < start) list → AreBeyondReach b k aside list rest batches
      → Asides aside (λ item. All (λ batch. entry_of batch.entries item.flow ≡ None) batches) list → AreWoven (first_slot b k) rest whole → MayBeApplied endpoints b k whole batches → Window endpoints b k batches rest whole
  window endpoints b k [] rest whole from low outside none are may = record {
    may = tt;
    slots = refl;
    left = ap (λ (xs : List Item). xs ++ weave aside (once_served list) (once_served rest)) (weave_is aside (never_served list) (never_served rest) (never_served whole) are.front_part)
        ∙ (ap (λ (xs : List Item). never_served whole ++ xs) (weave_is aside (once_served list) (once_served rest) (once_served whole) are.back_part)
        ∙ sym (parts_are (first_slot b k) whole are.before_whole));
  }
  window endpoints b k (batch ∷ batches) rest whole from low outside none are may =
      let NoneOf : DemandBatch → Item → Type 0 = λ other item. entry_of other.entries item.flow ≡ None in
      let bar : Bar = is_barred batch.limits in
      let NoneIn : List DemandBatch → Item → Type 0 = λ some item. aside item ≡ true → All (λ other. NoneOf other item) some in
      let here : All (NoEntry batch.entries) list =
      All-weaker (NoneIn (batch ∷ batches)) (NoEntry batch.entries) (λ item has out. All-head (λ other. NoneOf other item) batch batches (has out)) list none in
      let there : All (NoneIn batches) list =
      All-weaker (NoneIn (batch ∷ batches)) (NoneIn batches) (λ item has out. All-tail (λ other. NoneOf other item) batch batches (has out)) list none in
      let one = step endpoints bar (first_slot b k) b batch rest whole (omega arith) from low outside.0 here are may.0 in
      let after = window endpoints b (k + 1) batches (list_then b k batch rest) (list_then b k batch whole) (omega (arith, slots_on k b)) low outside.1 there
      (subst (λ (n : ℕ). AreWoven n (list_then b k batch rest) (list_then b k batch whole)) (slots_on k b) one.next) may.1 in
      record {
        may = (one.applies, after.may);
        slots = ap (λ (s : List (List Flow)). s ++ schedule_from b (k + 1) (list_then b k batch rest) batches) one.slots ∙ ap (λ (s : List (List Flow)). slots_then b k batch whole ++ s) after.slots;
        left = after.left;
      }

pub picked_listed : (aside : Item → Bool) (list : List Item) → Others aside (λ item. is_listed (picked aside list) item.flow ≡ true) list
picked_listed aside [] = All-nil (λ item. aside item ≡ false → is_listed (picked aside []) item.flow ≡ true)
picked_listed aside (item ∷ list) =
    let rest : List Item = picked aside list in
    let Listed : Item → Type 0 = λ x. aside x ≡ false → is_listed (picked aside (item ∷ list)) x.flow ≡ true in
    All-cons Listed item list
    (λ in_it. ap (λ (xs : List Item). is_listed xs item.flow) (cond-true (not (aside item)) (item ∷ rest) rest (not_from_false _ in_it))
    ∙ or_left (same_flow item.flow item.flow) (is_listed rest item.flow) (same_flow-refl item.flow))
    (All-weaker (λ x. aside x ≡ false → is_listed rest x.flow ≡ true) Listed
    (λ x is in_it. cond_both (not (aside item)) (item ∷ rest) rest (λ (xs : List Item). is_listed xs x.flow ≡ true)
    (λ _. or_right (same_flow item.flow x.flow) (is_listed rest x.flow) (is in_it)) (λ _. is in_it)) list (picked_listed aside list))

-- before the first batch
pub woven_at_first : (aside : Item → Bool) (start : ℕ) (list : List Item) → IsListBefore start list → AreWoven aside start list start (picked aside list) list
woven_at_first aside start list before =
    let is_new : Item → Bool = λ item. not (was_served item) in
    record {
      front_part = subst (λ (xs : List Item). Weaves aside (never_served list) xs (never_served list)) (filter_swap (λ item. not (aside item)) is_new list)
          (weaves_picked aside (never_served list) (once-filter is_new list before.once));
      back_part = subst (λ (xs : List Item). Weaves aside (once_served list) xs (once_served list)) (filter_swap (λ item. not (aside item)) was_served list)
          (weaves_picked aside (once_served list) (once-filter was_served list before.once));
      listed = picked_listed aside list;
      before_rest = still_before start (λ item. not (aside item)) list before;
      before_whole = before;
    }

pub items_beyond_reach_may_be_set_aside : ItemsBeyondReachMayBeSetAside
items_beyond_reach_may_be_set_aside endpoints b first aside list batches before may no_entries outside =
    let start : ℕ = first_slot b first in
    let rest : List Item = picked aside list in
    let before_rest = still_before start (λ item. not (aside item)) list before in
    let are = woven_at_first aside start list before in
    let done = window aside start list endpoints b first batches rest list (omega arith) before.below outside no_entries are may in
    record {
      may = done.may;
      before = before_rest;
      slots = done.slots;
      rest = done.left;
    }

-- whoever needs nothing is beyond reach
idle_beyond_reach : (b k : ℕ) (aside : Item → Bool) (list rest : List Item) (batches : List DemandBatch) → Asides aside (λ item. item.need ≡ 0) list → AreBeyondReach b k aside list rest batches
idle_beyond_reach b k aside list rest [] idle = tt
idle_beyond_reach b k aside list rest (batch ∷ batches) idle =
    let Idle : Item → Type 0 = λ item. aside item ≡ true → item.need ≡ 0 in
    let bar : Bar = is_barred batch.limits in
    let number : ℕ = first_slot b k in
    let first : List Item = front batch.entries rest in
    let none_yet : List (List Flow) = replicate b [] in (
      record {
        first = idle_are_kept_out aside bar number (never_served list) first none_yet (All-filter (λ x. not (was_served x)) Idle list idle);
        second = idle_are_kept_out aside bar number (once_served list) (back batch.entries rest) (slots_after bar number first none_yet) (All-filter was_served Idle list idle);
      },
      idle_beyond_reach b (k + 1) aside list (list_then b k batch rest) batches idle,
    )

pub items_may_be_set_aside : ItemsMayBeSetAside
items_may_be_set_aside endpoints b first aside list batches before may nothing =
    items_beyond_reach_may_be_set_aside endpoints b first aside list batches before may (λ k d below out. (nothing k d below out).1)
    (idle_beyond_reach b first aside list (picked aside list) batches (λ k d below out. (nothing k d below out).0))

-- a listed flow has no entry that does not open it, so it has none where all of its entries open it
none_opens : (entries : List Entry) (list : List Item) (flow : Flow) → is_listed list flow ≡ true → OpensNewFlows entries list → All (λ entry. entry.flow ≡ flow → entry.opens ≡ true) entries
    → entry_of entries flow ≡ None
none_opens [] list flow listed opens only = refl
none_opens (entry ∷ entries) list flow listed opens only =
    let Opens : Entry → Type 0 = λ e. e.opens ≡ not (is_listed list e.flow) in
    let Only : Entry → Type 0 = λ e. e.flow ≡ flow → e.opens ≡ true in
    let differs : same_flow entry.flow flow ≡ false =
    false_from_ne_true _ (λ same.
    let is : entry.flow ≡ flow = same_flow-true entry.flow flow same in
    let fresh : not (is_listed list entry.flow) ≡ true = sym (All-head Opens entry entries opens) ∙ All-head Only entry entries only is in
    both_ways (is_listed list flow) (ap (is_listed list) (sym is) ∙ not-true _ fresh) listed) in
    cond-false (same_flow entry.flow flow) (Some entry) (entry_of entries flow) differs
    ∙ none_opens entries list flow listed (All-tail Opens entry entries opens) (All-tail Only entry entries only)

no_entries_of : (endpoints b k : ℕ) (list : List Item) (flow : Flow) (batches : List DemandBatch) → is_listed list flow ≡ true → MayBeApplied endpoints b k list batches → OnlyOpen batches flow
    → HaveNoEntry batches flow
no_entries_of endpoints b k list flow [] listed may only = All-nil (λ batch. entry_of batch.entries flow ≡ None)
no_entries_of endpoints b k list flow (batch ∷ batches) listed may only =
    let Only : DemandBatch → Type 0 = λ other. All (λ entry. entry.flow ≡ flow → entry.opens ≡ true) other.entries in
    let still : is_listed (list_then b k batch list) flow ≡ true =
    listed-after_slots (is_barred batch.limits) (first_slot b k) b (after_batch batch.entries list) flow
    ∙ (listed-after_batch batch.entries list flow may.0.rises may.0.opens ∙ or_left (is_listed list flow) (is_some (entry_of batch.entries flow)) listed) in
    All-cons (λ other. entry_of other.entries flow ≡ None) batch batches (none_opens batch.entries list flow listed may.0.opens (All-head Only batch batches only))
    (no_entries_of endpoints b (k + 1) (list_then b k batch list) flow batches still may.1 (All-tail Only batch batches only))

pub each_is_listed : (list : List Item) → All (λ item. is_listed list item.flow ≡ true) list
each_is_listed [] = All-nil (λ item. is_listed [] item.flow ≡ true)
each_is_listed (item ∷ list) =
    All-cons (λ x. is_listed (item ∷ list) x.flow ≡ true) item list (or_left (same_flow item.flow item.flow) (is_listed list item.flow) (same_flow-refl item.flow))
    (All-weaker (λ x. is_listed list x.flow ≡ true) (λ x. is_listed (item ∷ list) x.flow ≡ true) (λ x is. or_right (same_flow item.flow x.flow) (is_listed list x.flow) is) list (each_is_listed list))

pub listed_flows_are_open : ListedFlowsAreOpen
listed_flows_are_open endpoints b first list batches may =
    All-weaker (λ item. is_listed list item.flow ≡ true) (λ item. OnlyOpen batches item.flow → HaveNoEntry batches item.flow)
    (λ item listed only. no_entries_of endpoints b first list item.flow batches listed may only) list (each_is_listed list)
