-- A window in which each item that is set aside is barred by those ahead of it.
use Rattle.std.proofs.Common.{length, take, drop, ◌≡◌, ◌≢◌, ◌<◌, ◌≤◌, ◌+◌, ◌⊎◌, ℕ, List, [], ◌∷◌, ◌++◌, get_or, map, replicate, Bool, true, false, not, ◌&&◌, None, All, refl, sym, ap, ◌∙◌, subst, arith, inl, inr}
use Rattle.std.specs.Option.{is_some}
use Rattle.std.proofs.lemmas.Bool.{cases_Bool, or_left, or_right, or_cases, and_parts, ltb-true, false_from_ne_true, both_ways}
use Rattle.std.proofs.lemmas.List.{append-nil}
use Rattle.std.proofs.lemmas.List.Elements.{All-nil, All-head, All-tail, All-append, All-map, All-weaker, All-filter, filter_passes}
use Rattle.std.proofs.lemmas.List.Folds.{list_any-append}
use Rattle.greedy_rules.specs.declared.flows.Flow.{Flow}
use Rattle.greedy_rules.specs.declared.flows.Item.{Item}
use Rattle.greedy_rules.specs.declared.flows.Entry.{Entry}
use Rattle.greedy_rules.specs.Flows.{same_flow}
use Rattle.greedy_rules.specs.Batches.{DemandBatch, entry_of}
use Rattle.greedy_rules.specs.Slot.{Bar, has_flow}
use Rattle.greedy_rules.specs.Limits.{is_barred}
use Rattle.greedy_rules.specs.Demands.{is_listed, with_batch, opened, after_batch}
use Rattle.greedy_rules.specs.Allocation.{list_through}
use Rattle.greedy_rules.specs.Schedule.{first_slot, slots_then, list_then, schedule_from}
use Rattle.greedy_rules.specs.Recorded.{Applies, MayBeApplied}
use Rattle.greedy_rules.proofs.Facts.{same_flow-true, listed-after_batch, listed-after_slots}
use Rattle.greedy_rules.proofs.ScheduleLemmas.{length-batch_slots}
use Rattle.list_facts.proofs.StableSort.{All-sort_by}
use Rattle.list_facts.proofs.Numbers.{slots_on}
use Rattle.slot_batches.specs.FlowByFlow.{slots_after}
use Rattle.slot_batches.specs.Feeding.{was_served}
use Rattle.slot_batches.specs.NextList.{IsListBefore}
use Rattle.slot_batches.specs.Woven.{picked, stays, never_served, once_served, HaveNoEntry}
use Rattle.slot_batches.specs.Beyond.{StayOut, AreBeyondReach, is_in}
use Rattle.slot_batches.proofs.TurnSteps.{slots_after-append}
use Rattle.slot_batches.proofs.WeaveLemmas.{applied_to_both, more_behind_both, IsGoneFrom}
use Rattle.slot_batches.specs.Beyond.{seen_with, HaveRivals, AreBarredByThoseAhead, ItemsBarredByThoseAheadMayBeSetAside, AreBarredInSlots, ItemsBarredInSlotsMayBeSetAside}
use Rattle.slot_batches.proofs.FrontWindow.{stood_in, each_stood, none_stood, through_slots, Was, opened_was, never_one, apart_parts}
use Rattle.slot_batches.proofs.Ahead.{IsBehind, limits_bar_as_it_grows, kept_out_by_rivals}
use Rattle.slot_batches.proofs.SetAside.{new_ones, parts_are, front, back, each_is_listed, slots_between, parts_of_batch, AreWoven, NoEntry, step, step_applies, opened_apart, woven_at_first, items_beyond_reach_may_be_set_aside}
use Rattle.slot_batches.proofs.NextList.{last_of}

-- the flows seen once the list was walked
abbrev seen_after : (Item → Bool) → (Flow → Bool) → List Item → Flow → Bool
seen_after aside seen [] = seen
seen_after aside seen (item ∷ list) = seen_after aside (seen_with aside seen item) list

split_rivals : (bar : Bar) (aside : Item → Bool) (whole : List Item) (earlier full : List (List Flow)) (seen : Flow → Bool) (xs ys : List Item) → HaveRivals bar aside whole earlier full seen (xs ++ ys)
    → HaveRivals bar aside whole earlier full seen xs × HaveRivals bar aside whole earlier full (seen_after aside seen xs) ys
split_rivals bar aside whole earlier full seen [] ys rivals = (tt, rivals)
split_rivals bar aside whole earlier full seen (x ∷ xs) ys rivals =
    let later = split_rivals bar aside whole earlier full (seen_with aside seen x) xs ys rivals.1 in
    ((rivals.0, later.0), later.1)

seen_stood : (aside : Item → Bool) (stood : Flow → ℕ) (seen : Flow → Bool) (xs : List Item) (flow : Flow) → All (λ x. stood x.flow ≡ 0) xs → seen_after aside seen xs flow ≡ true
    → (seen flow ≡ true) ⊎ (stood flow ≡ 0)
seen_stood aside stood seen [] flow never is = inl is
seen_stood aside stood seen (x ∷ xs) flow never is =
    let Never : Item → Type 0 = λ y. stood y.flow ≡ 0 in
    elim (seen_stood aside stood (seen_with aside seen x) xs flow (All-tail Never x xs never) is) [
      | inl now ↦ elim (or_cases (seen flow) (not (aside x) && same_flow x.flow flow) now) [
        | inl before ↦ inl before
        | inr this ↦ inr (ap stood (sym (same_flow-true x.flow flow (and_parts (not (aside x)) (same_flow x.flow flow) this).1)) ∙ All-head Never x xs never)
      ]
      | inr none ↦ inr none
    ]

module _ (aside : Item → Bool) (start : ℕ) (list : List Item) where
  behind_served : (earlier full : List (List Flow)) (x : Item) → All (λ y. stood_in list y.flow ≡ 0) (never_served list) → 0 < x.last → Was aside start list earlier x
      → IsBehind aside list earlier full (stood_in list) (once_served list) (seen_after aside (λ flow. false) (never_served list)) x
  behind_served earlier full x never some_slot was =
      let seen : Flow → Bool = seen_after aside (λ flow. false) (never_served list) in
      elim was [
        | inr before ↦ inl before
        | inl same ↦
            let some : (stood_in list x.flow ≢ 0) = λ none. absurd (omega (arith, same, none, some_slot)) in
            let unseen : seen x.flow ≡ false =
            false_from_ne_true _ (λ is. elim (seen_stood aside (stood_in list) (λ flow. false) (never_served list) x.flow never is) [
              | inl hit ↦ both_ways _ refl hit
              | inr none ↦ some none
            ]) in
            let listed : is_listed list x.flow ≡ true = elim (cases_Bool (is_listed list x.flow)) [
              | inl yes_it ↦ yes_it
              | inr not_it ↦ absurd (some (none_stood list x.flow not_it))
            ] in
            inr (unseen, inr listed)
      ]

  ahead_stay_out : (endpoints b k : ℕ) (batch : DemandBatch) (earlier : List (List Flow)) (rest whole : List Item) → start ≤ first_slot b k → IsListBefore start list
      → All (NoEntry aside start list batch.entries) list → AreWoven aside start list (first_slot b k) rest whole → All (λ item. is_listed whole item.flow ≡ true) list → All (Was aside start list earlier) rest
      → Applies endpoints batch whole → HaveRivals (is_barred batch.limits) aside list earlier (slots_then b k batch rest) (λ flow. false) list
      → StayOut aside (is_barred batch.limits) (first_slot b k) b batch.entries list rest
  ahead_stay_out endpoints b k batch earlier rest whole from before none are listed was applies rivals =
      let bar : Bar = is_barred batch.limits in
      let number : ℕ = first_slot b k in
      let entries : List Entry = batch.entries in
      let full : List (List Flow) = slots_then b k batch rest in
      let A : List Item = never_served list in
      let B : List Item = once_served list in
      let is_new : Item → Bool = λ x. not (was_served x) in
      let put : Item → Item = with_batch entries in
      let none_yet : List (List Flow) = replicate b [] in
      let between : List (List Flow) = slots_between bar number b entries rest in
      let parts = parts_are start list before in
      let Stood : Item → Type 0 = λ x. stood_in list x.flow ≡ x.last in
      let Never : Item → Type 0 = λ x. stood_in list x.flow ≡ 0 in
      let stood : All Stood list = each_stood list before.once in
      let stood_A : All Stood A = All-filter is_new Stood list stood in
      let never_A : All Never A = λ d' d below. never_one list (get_or A d' d) (stood_A d' d below) (new_ones list d' d below) in
      let applies_rest = step_applies aside start list endpoints number batch rest whole are applies none in
      let of_rest = parts_of_batch bar number b entries rest (omega arith) applies.rises applies_rest.opens are.before_rest in
      let first = more_behind_both aside (opened entries) A (map put (never_served rest)) (map put (never_served whole))
      (applied_to_both aside entries A (never_served rest) (never_served whole) are.front_part (All-filter is_new (NoEntry aside start list entries) list none))
      (All-filter is_new (λ item. aside item ≡ false → IsGoneFrom (opened entries) item) list (opened_apart aside start list entries rest applies_rest.opens are.listed)) in
      let second = applied_to_both aside entries B (once_served rest) (once_served whole) are.back_part (All-filter was_served (NoEntry aside start list entries) list none) in
      let was_front : All (Was aside start list earlier) (front entries rest) =
      All-append (Was aside start list earlier) (map put (never_served rest)) (opened entries) (All-map (Was aside start list earlier) put (never_served rest) (All-filter is_new (Was aside start list earlier) rest was)) (opened_was aside start list endpoints earlier batch whole listed applies) in
      let was_back : All (Was aside start list earlier) (back entries rest) = All-map (Was aside start list earlier) put (once_served rest) (All-filter was_served (Was aside start list earlier) rest was) in
      let old_back : All (λ x. 0 < x.last) (back entries rest) =
      All-map (λ x. 0 < x.last) put (once_served rest) (All-weaker (λ x. was_served x ≡ true) (λ x. 0 < x.last) (λ x is. ltb-true 0 x.last is) (once_served rest) (filter_passes was_served rest)) in
      let none_seen : Flow → Bool = λ flow. false in
      let seen : Flow → Bool = seen_after aside none_seen A in
      let both = split_rivals bar aside list earlier full none_seen A B (subst (λ (xs : List Item). HaveRivals bar aside list earlier full none_seen xs) parts rivals) in
      let no_more : List Item = [] in
      record {
        first = kept_out_by_rivals aside list earlier full (stood_in list) bar number (limits_bar_as_it_grows batch.limits) (back entries rest) A (front entries rest) (front entries whole) none_seen none_yet first
            (of_rest.slots ∙ sym (slots_after-append bar number (front entries rest) (back entries rest) none_yet))
            both.0 stood_A was_front
            (λ k' d below. λ j e within. apart_parts (get_or A j e) (get_or (back entries rest) k' d) (new_ones list j e within) (old_back k' d below))
            was_back (λ j d below. inr (refl, inl (new_ones list))) (λ j d below. inr (refl, inl (new_ones list)));
        second = kept_out_by_rivals aside list earlier full (stood_in list) bar number (limits_bar_as_it_grows batch.limits) no_more B (back entries rest) (back entries whole) seen between second
            (of_rest.slots ∙ ap (λ (xs : List Item). slots_after bar number xs between) (sym (append-nil (back entries rest))))
            both.1 (All-filter was_served Stood list stood) was_back
            (All-nil (λ x. All (λ item. stays item x ≡ false) B)) (All-nil (Was aside start list earlier))
            (λ j d below. behind_served earlier full (get_or (back entries rest) j d) never_A (old_back j d below) (was_back j d below))
            (All-nil (IsBehind aside list earlier full (stood_in list) B seen));
      }

  ahead_window : (endpoints b k : ℕ) (batches : List DemandBatch) (earlier : List (List Flow)) (rest whole : List Item) → start ≤ first_slot b k → IsListBefore start list
      → All (λ item. aside item ≡ true → HaveNoEntry batches item.flow) list → AreWoven aside start list (first_slot b k) rest whole → All (λ item. is_listed whole item.flow ≡ true) list → All (Was aside start list earlier) rest
      → MayBeApplied endpoints b k whole batches → AreBarredByThoseAhead b k aside list earlier rest batches → AreBeyondReach b k aside list rest batches
  ahead_window endpoints b k [] earlier rest whole from before none are listed was may reach = tt
  ahead_window endpoints b k (batch ∷ batches) earlier rest whole from before none are listed was may reach =
      let NoneOf : DemandBatch → Item → Type 0 = λ other item. entry_of other.entries item.flow ≡ None in
      let NoneIn : List DemandBatch → Item → Type 0 = λ some item. aside item ≡ true → All (λ other. NoneOf other item) some in
      let entries : List Entry = batch.entries in
      let bar : Bar = is_barred batch.limits in
      let number : ℕ = first_slot b k in
      let full : List (List Flow) = slots_then b k batch rest in
      let here : All (NoEntry aside start list entries) list =
      All-weaker (NoneIn (batch ∷ batches)) (NoEntry aside start list entries) (λ item has out. All-head (λ other. NoneOf other item) batch batches (has out)) list none in
      let there : All (NoneIn batches) list =
      All-weaker (NoneIn (batch ∷ batches)) (NoneIn batches) (λ item has out. All-tail (λ other. NoneOf other item) batch batches (has out)) list none in
      let outside = ahead_stay_out endpoints b k batch earlier rest whole from before here are listed was may.0 reach.0 in
      let one = step aside start list endpoints bar number b batch rest whole (omega arith) from before.below outside here are may.0 in
      let still_listed : All (λ item. is_listed (list_then b k batch whole) item.flow ≡ true) list =
      All-weaker (λ item. is_listed whole item.flow ≡ true) (λ item. is_listed (list_then b k batch whole) item.flow ≡ true)
      (λ item is. listed-after_slots bar number b (after_batch entries whole) item.flow
      ∙ (listed-after_batch entries whole item.flow may.0.rises may.0.opens ∙ or_left (is_listed whole item.flow) (is_some (entry_of entries item.flow)) is)) list listed in
      let Then : Item → Type 0 = Was aside start list (earlier ++ full) in
      let has : List Flow → Flow → Bool = λ slot flow. has_flow slot flow in
      let before_too : (flow : Flow) → is_in earlier flow ≡ true → is_in (earlier ++ full) flow ≡ true =
      λ flow is. list_any-append (λ slot. has slot flow) earlier full ∙ or_left (is_in earlier flow) (is_in full flow) is in
      let now_too : (flow : Flow) → is_in full flow ≡ true → is_in (earlier ++ full) flow ≡ true =
      λ flow is. list_any-append (λ slot. has slot flow) earlier full ∙ or_right (is_in earlier flow) (is_in full flow) is in
      let more : (x : Item) → Was aside start list earlier x → Then x = λ x is. elim is [
        | inl same ↦ inl same
        | inr old ↦ inr (before_too x.flow old)
      ] in
      let was_applied : All Then (after_batch entries rest) =
      All-sort_by Then last_of (map (with_batch entries) rest ++ opened entries)
      (All-append Then (map (with_batch entries) rest) (opened entries) (All-map Then (with_batch entries) rest (All-weaker (Was aside start list earlier) Then more rest was))
      (All-weaker (Was aside start list earlier) Then more (opened entries) (opened_was aside start list endpoints earlier batch whole listed may.0))) in
      let was_then : All Then (list_then b k batch rest) =
      All-sort_by Then last_of (list_through bar number b (after_batch entries rest))
      (through_slots (stood_in list) (λ flow. is_in (earlier ++ full) flow ≡ true) bar number b (after_batch entries rest) now_too was_applied) in (
        outside,
        ahead_window endpoints b (k + 1) batches (earlier ++ full) (list_then b k batch rest) (list_then b k batch whole) (omega (arith, slots_on k b)) before there
            (subst (λ (n : ℕ). AreWoven aside start list n (list_then b k batch rest) (list_then b k batch whole)) (slots_on k b) one.next) still_listed was_then may.1 reach.1,
      )

pub items_barred_by_those_ahead_may_be_set_aside : ItemsBarredByThoseAheadMayBeSetAside
items_barred_by_those_ahead_may_be_set_aside endpoints b first aside list batches before may no_entries reach =
    let start : ℕ = first_slot b first in
    let rest : List Item = picked aside list in
    let are = woven_at_first aside start list before in
    let As : Item → Type 0 = Was aside start list [] in
    let was : All As rest =
    All-filter (λ item. not (aside item)) As list
    (All-weaker (λ item. stood_in list item.flow ≡ item.last) As (λ item is. inl (sym is)) list (each_stood list before.once)) in
    items_beyond_reach_may_be_set_aside endpoints b first aside list batches before may no_entries
    (ahead_window aside start list endpoints b first batches [] rest list (omega arith) before no_entries are (each_is_listed list) was may reach)

take_front : {X : Type 0} (xs ys : List X) (n : ℕ) → length xs ≡ n → take n (xs ++ ys) ≡ xs
take_front {X = X} xs ys n is = subst (λ (k : ℕ). take k (xs ++ ys) ≡ xs) is (go xs)
  where
    go : (zs : List X) → take (length zs) (zs ++ ys) ≡ zs
    go [] = refl
    go (z ∷ zs) = ap (λ (ws : List X). z ∷ ws) (go zs)

drop_front : {X : Type 0} (xs ys : List X) (n : ℕ) → length xs ≡ n → drop n (xs ++ ys) ≡ ys
drop_front {X = X} xs ys n is = subst (λ (k : ℕ). drop k (xs ++ ys) ≡ ys) is (go xs)
  where
    go : (zs : List X) → drop (length zs) (zs ++ ys) ≡ ys
    go [] = refl
    go (z ∷ zs) = go zs

barred_in_slots : (b k : ℕ) (aside : Item → Bool) (list : List Item) (earlier : List (List Flow)) (rest : List Item) (batches : List DemandBatch)
    → AreBarredInSlots aside list b earlier (schedule_from b k rest batches) batches → AreBarredByThoseAhead b k aside list earlier rest batches
barred_in_slots b k aside list earlier rest [] barred = tt
barred_in_slots b k aside list earlier rest (batch ∷ batches) barred =
    let here : List (List Flow) = slots_then b k batch rest in
    let later : List (List Flow) = schedule_from b (k + 1) (list_then b k batch rest) batches in
    let size : length here ≡ b = length-batch_slots (is_barred batch.limits) (first_slot b k) b (after_batch batch.entries rest) in
    let front_is : take b (here ++ later) ≡ here = take_front here later b size in
    let back_is : drop b (here ++ later) ≡ later = drop_front here later b size in (
      subst (λ (s : List (List Flow)). HaveRivals (is_barred batch.limits) aside list earlier s (λ flow. false) list) front_is barred.0,
      barred_in_slots b (k + 1) aside list (earlier ++ here) (list_then b k batch rest) batches
          (subst (λ (s : List (List Flow)). AreBarredInSlots aside list b (earlier ++ s) later batches) front_is
          (subst (λ (s : List (List Flow)). AreBarredInSlots aside list b (earlier ++ take b (here ++ later)) s batches) back_is barred.1)),
    )

pub items_barred_in_slots_may_be_set_aside : ItemsBarredInSlotsMayBeSetAside
items_barred_in_slots_may_be_set_aside endpoints b first aside list batches before may no_entries barred =
    items_barred_by_those_ahead_may_be_set_aside endpoints b first aside list batches before may no_entries (barred_in_slots b first aside list [] (picked aside list) batches barred)
