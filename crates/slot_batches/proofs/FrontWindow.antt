-- A window in which the items that are set aside are barred by those in front.
use Rattle.std.proofs.Common.{◌≡◌, ◌≢◌, ◌<◌, ◌≤◌, ◌+◌, ◌-◌, ◌⊎◌, ℕ, zero, suc, List, [], ◌∷◌, ◌++◌, get_or, map, filter, replicate, Bool, true, false, not, ◌&&◌, ◌||◌, ◌==◌, cond, None, All, refl, sym, ap, ◌∙◌, subst, arith, inl, inr}
use Rattle.std.specs.Option.{is_some}
use Rattle.std.proofs.lemmas.Bool.{cases_Bool, cond-true, cond-false, cond_both, or_left, or_right, or_parts, or_cases, and_parts, eqb-true, ltb-true, not-true, false_from_ne_true, both_ways, ltb-false, and_right, ne_eqb}
use Rattle.std.proofs.lemmas.List.{append-nil}
use Rattle.std.proofs.lemmas.List.Elements.{All-nil, All-cons, All-head, All-tail, All-append, All-map, All-weaker, All-filter, filter_passes}
use Rattle.std.proofs.lemmas.List.Folds.{list_any-append}
use Rattle.greedy_rules.specs.declared.flows.Flow.{Flow}
use Rattle.greedy_rules.specs.declared.flows.Item.{Item}
use Rattle.greedy_rules.specs.declared.flows.Entry.{Entry}
use Rattle.greedy_rules.specs.Flows.{same_flow}
use Rattle.greedy_rules.specs.Batches.{DemandBatch, entry_of}
use Rattle.greedy_rules.specs.Slot.{Bar, has_flow, greedy_slot}
use Rattle.greedy_rules.specs.Limits.{is_barred}
use Rattle.greedy_rules.specs.Demands.{HasEachFlowOnce, is_listed, with_batch, opened, after_batch}
use Rattle.greedy_rules.specs.Allocation.{served, after_slot, batch_slots, list_through}
use Rattle.greedy_rules.specs.Schedule.{first_slot, slots_then, list_then}
use Rattle.greedy_rules.specs.Recorded.{Applies, MayBeApplied}
use Rattle.greedy_rules.proofs.Facts.{same_flow-true, same_flow-refl, All-opened, listed-after_batch, listed-after_slots}
use Rattle.list_facts.proofs.Pairs.{AllPairs-head, AllPairs-tail}
use Rattle.list_facts.proofs.StableSort.{All-sort_by}
use Rattle.list_facts.proofs.Numbers.{slots_on}
use Rattle.slot_batches.specs.FlowByFlow.{slots_after}
use Rattle.slot_batches.specs.Feeding.{was_served}
use Rattle.slot_batches.specs.NextList.{IsListBefore}
use Rattle.slot_batches.specs.Woven.{picked, stays, never_served, once_served, HaveNoEntry}
use Rattle.slot_batches.specs.Beyond.{IsKeptOut, StayOut, AreBeyondReach, is_in, stands_in_front, IsInFront, AreBarredByTheFront, ItemsBarredByTheFrontMayBeSetAside}
use Rattle.slot_batches.proofs.TurnSteps.{slots_after-append}
use Rattle.slot_batches.proofs.WeaveLemmas.{applied_to_both, more_behind_both, IsGoneFrom}
use Rattle.slot_batches.proofs.Front.{IsNotIn, Behind, IsSettled, kept_out_of_part}
use Rattle.slot_batches.proofs.SetAside.{new_ones, parts_are, front, back, each_is_listed, slots_between, parts_of_batch, AreWoven, NoEntry, step, step_applies, opened_apart, woven_at_first, items_beyond_reach_may_be_set_aside}
use Rattle.slot_batches.proofs.NextList.{last_of}

-- when a flow of a list was last served, 0 where it is not listed
abbrev pub stood_in : List Item → Flow → ℕ
stood_in [] flow = 0
stood_in (item ∷ list) flow = cond (same_flow item.flow flow) item.last (stood_in list flow)

pub each_stood : (list : List Item) → HasEachFlowOnce list → All (λ item. stood_in list item.flow ≡ item.last) list
each_stood [] once = All-nil (λ item. stood_in [] item.flow ≡ item.last)
each_stood (item ∷ list) once =
    let Other : Item → Item → Type 0 = λ i j. i.flow ≢ j.flow in
    let others = AllPairs-head Other item list once in
    let later = each_stood list (AllPairs-tail Other item list once) in
    All-cons (λ x. stood_in (item ∷ list) x.flow ≡ x.last) item list (cond-true (same_flow item.flow item.flow) item.last (stood_in list item.flow) (same_flow-refl item.flow))
    (λ k d below.
    let x : Item = get_or list k d in
    cond-false (same_flow item.flow x.flow) item.last (stood_in list x.flow) (false_from_ne_true _ (λ same. others k d below (same_flow-true item.flow x.flow same))) ∙ later k d below)

pub none_stood : (list : List Item) (flow : Flow) → is_listed list flow ≡ false → stood_in list flow ≡ 0
none_stood [] flow none = refl
none_stood (item ∷ list) flow none =
    let parts = or_parts (same_flow item.flow flow) (is_listed list flow) none in
    cond-false (same_flow item.flow flow) item.last (stood_in list flow) parts.0 ∙ none_stood list flow parts.1

none_stood_of : (list whole : List Item) (flow : Flow) → All (λ item. is_listed whole item.flow ≡ true) list → is_listed whole flow ≡ false → stood_in list flow ≡ 0
none_stood_of [] whole flow listed none = refl
none_stood_of (item ∷ list) whole flow listed none =
    let Listed : Item → Type 0 = λ x. is_listed whole x.flow ≡ true in
    cond-false (same_flow item.flow flow) item.last (stood_in list flow)
    (false_from_ne_true _ (λ same. both_ways _ none (ap (is_listed whole) (sym (same_flow-true item.flow flow same)) ∙ All-head Listed item list listed)))
    ∙ none_stood_of list whole flow (All-tail Listed item list listed) none

-- an item that was never served stood in none, and apart from those that were
pub never_one : (list : List Item) (x : Item) → stood_in list x.flow ≡ x.last → was_served x ≡ false → stood_in list x.flow ≡ 0
never_one list x at never = let none : x.last ≤ 0 = ltb-false 0 x.last never in omega (arith, at, none)

pub apart_parts : (item x : Item) → was_served item ≡ false → 0 < x.last → stays item x ≡ false
apart_parts item x never some = let none : item.last ≤ 0 = ltb-false 0 item.last never in and_right _ _ (ne_eqb item.last x.last (λ e. absurd (omega (arith, e, none, some))))

-- a flow that no slot has
not_in : (slots : List (List Flow)) (flow : Flow) → is_in slots flow ≡ false → IsNotIn slots flow
not_in [] flow none = All-nil (λ slot. has_flow slot flow ≡ false)
not_in (slot ∷ slots) flow none =
    let parts = or_parts (has_flow slot flow) (is_in slots flow) none in
    All-cons (λ s. has_flow s flow ≡ false) slot slots parts.0 (not_in slots flow parts.1)

module _ (aside : Item → Bool) where
  abbrev Idle : Item → Type 0
  Idle item = aside item ≡ true → item.need ≡ 0

  front_of_parts : (xs ys : List Item) (flow : Flow) → stands_in_front aside (xs ++ ys) flow ≡ true → (stands_in_front aside xs flow ≡ true) ⊎ (All Idle xs × (stands_in_front aside ys flow ≡ true))
  front_of_parts [] ys flow stands = inr (All-nil Idle, stands)
  front_of_parts (x ∷ xs) ys flow stands =
      let idle_front : List Item → Bool = λ zs. (x.need == 0) && stands_in_front aside zs flow in
      let this_front : List Item → Bool = λ zs. same_flow x.flow flow || stands_in_front aside zs flow in
      elim (cases_Bool (aside x)) [
        | inl out ↦
            let parts = and_parts (x.need == 0) (stands_in_front aside (xs ++ ys) flow) (sym (cond-true (aside x) (idle_front (xs ++ ys)) (this_front (xs ++ ys)) out) ∙ stands) in
            elim (front_of_parts xs ys flow parts.1) [
              | inl first ↦ inl (cond-true (aside x) (idle_front xs) (this_front xs) out ∙ (ap (λ b. b && stands_in_front aside xs flow) parts.0 ∙ first))
              | inr second ↦ inr (All-cons Idle x xs (λ _. eqb-true _ _ parts.0) second.0, second.1)
            ]
        | inr chosen ↦
            let either = or_cases (same_flow x.flow flow) (stands_in_front aside (xs ++ ys) flow) (sym (cond-false (aside x) (idle_front (xs ++ ys)) (this_front (xs ++ ys)) chosen) ∙ stands) in
            let is = cond-false (aside x) (idle_front xs) (this_front xs) chosen in
            elim either [
              | inl same ↦ inl (is ∙ or_left (same_flow x.flow flow) (stands_in_front aside xs flow) same)
              | inr later ↦ elim (front_of_parts xs ys flow later) [
                | inl first ↦ inl (is ∙ or_right (same_flow x.flow flow) (stands_in_front aside xs flow) first)
                | inr second ↦ inr (All-cons Idle x xs (λ out. absurd (both_ways _ chosen out)) second.0, second.1)
              ]
            ]
      ]

  front_stood : (stood : Flow → ℕ) (xs : List Item) (flow : Flow) → All (λ x. stood x.flow ≡ 0) xs → stands_in_front aside xs flow ≡ true → stood flow ≡ 0
  front_stood stood [] flow never stands = absurd (both_ways _ refl stands)
  front_stood stood (x ∷ xs) flow never stands =
      let Never : Item → Type 0 = λ y. stood y.flow ≡ 0 in
      let idle_front : Bool = (x.need == 0) && stands_in_front aside xs flow in
      let this_front : Bool = same_flow x.flow flow || stands_in_front aside xs flow in
      let later : stands_in_front aside xs flow ≡ true → stood flow ≡ 0 = front_stood stood xs flow (All-tail Never x xs never) in
      elim (cases_Bool (aside x)) [
        | inl out ↦ later (and_parts (x.need == 0) (stands_in_front aside xs flow) (sym (cond-true (aside x) idle_front this_front out) ∙ stands)).1
        | inr chosen ↦ elim (or_cases (same_flow x.flow flow) (stands_in_front aside xs flow) (sym (cond-false (aside x) idle_front this_front chosen) ∙ stands)) [
          | inl same ↦ ap stood (sym (same_flow-true x.flow flow same)) ∙ All-head Never x xs never
          | inr more ↦ later more
        ]
      ]

-- an item is as it stood, or its flow is such
abbrev pub IsAsItStood : (Flow → ℕ) → (Flow → Type 0) → Item → Type 0
IsAsItStood stood Q x = (x.last ≡ stood x.flow) ⊎ Q x.flow

pub through_slots : (stood : Flow → ℕ) (Q : Flow → Type 0) (bar : Bar) (number count : ℕ) (list : List Item) → ((flow : Flow) → is_in (batch_slots bar number count list) flow ≡ true → Q flow)
    → All (IsAsItStood stood Q) list → All (IsAsItStood stood Q) (list_through bar number count list)
through_slots stood Q bar number zero list into all = all
through_slots stood Q bar number (suc count) list into all =
    let slot : List Flow = greedy_slot bar list in
    let later : List (List Flow) = batch_slots bar (number + 1) count (after_slot bar number list) in
    let P : Item → Type 0 = IsAsItStood stood Q in
    through_slots stood Q bar (number + 1) count (after_slot bar number list) (λ flow is. into flow (or_right (has_flow slot flow) (is_in later flow) is))
    (All-map P (served number slot) list
    (All-weaker P (λ x. P (served number slot x))
    (λ x was. cond_both (has_flow slot x.flow) (record x { need = x.need - 1; last = number }) x P (λ has. inr (into x.flow (or_left (has_flow slot x.flow) (is_in later x.flow) has))) (λ _. was)) list all))

module _ (aside : Item → Bool) (start : ℕ) (list : List Item) where
  abbrev pub Was : List (List Flow) → Item → Type 0
  Was earlier x = IsAsItStood (stood_in list) (λ flow. is_in earlier flow ≡ true) x

  abbrev InReach : List (List Flow) → List (List Flow) → Type 0
  InReach earlier full = (flow : Flow) → is_in full flow ≡ true → (is_in earlier flow ≡ false) × IsInFront aside list flow

  settled : (bar : Bar) (number : ℕ) (earlier full : List (List Flow)) (x : Item) → InReach earlier full → Was earlier x → IsSettled aside bar number full (stood_in list) x
  settled bar number earlier full x reach was moved =
      elim (cases_Bool (is_in full x.flow)) [
        | inr none ↦ not_in full x.flow none
        | inl some ↦ elim was [
          | inl same ↦ absurd (moved same)
          | inr before ↦ absurd (both_ways _ (reach x.flow some).0 before)
        ]
      ]

  behind_first : (bar : Bar) (number : ℕ) (earlier full : List (List Flow)) (x : Item) → list ≡ never_served list ++ once_served list → InReach earlier full → Behind aside bar number full (stood_in list) (never_served list) x
  behind_first bar number earlier full x parts reach =
      elim (cases_Bool (is_in full x.flow)) [
        | inr none ↦ inr (inr (not_in full x.flow none))
        | inl some ↦ elim (reach x.flow some).1 [
          | inl stands ↦ elim (front_of_parts aside (never_served list) (once_served list) x.flow (subst (λ (xs : List Item). stands_in_front aside xs x.flow ≡ true) parts stands)) [
            | inl first ↦ inl first
            | inr second ↦ inr (inl second.0)
          ]
          | inr fresh ↦
              let Served : Item → Type 0 = λ item. aside item ≡ true → was_served item ≡ false → item.need ≡ 0 in
              let here : All Served (never_served list) = All-filter (λ y. not (was_served y)) Served list fresh.1 in
              inr (inl (λ k d below out. here k d below out (new_ones list k d below)))
        ]
      ]

  behind_second : (bar : Bar) (number : ℕ) (earlier full : List (List Flow)) (x : Item) → list ≡ never_served list ++ once_served list → All (λ y. stood_in list y.flow ≡ 0) (never_served list) → 0 < x.last → InReach earlier full
      → Was earlier x → Behind aside bar number full (stood_in list) (once_served list) x
  behind_second bar number earlier full x parts never some_slot reach was =
      let away : stood_in list x.flow ≡ 0 → IsNotIn full x.flow = λ none. settled bar number earlier full x reach was (λ same. absurd (omega (arith, same, none, some_slot))) in
      elim (cases_Bool (is_in full x.flow)) [
        | inr none ↦ inr (inr (not_in full x.flow none))
        | inl some ↦ elim (reach x.flow some).1 [
          | inl stands ↦ elim (front_of_parts aside (never_served list) (once_served list) x.flow (subst (λ (xs : List Item). stands_in_front aside xs x.flow ≡ true) parts stands)) [
            | inl first ↦ inr (inr (away (front_stood aside (stood_in list) (never_served list) x.flow never first)))
            | inr second ↦ inl second.1
          ]
          | inr fresh ↦ inr (inr (away (none_stood list x.flow fresh.0)))
        ]
      ]

  pub opened_was : (endpoints : ℕ) (earlier : List (List Flow)) (batch : DemandBatch) (whole : List Item) → All (λ item. is_listed whole item.flow ≡ true) list → Applies endpoints batch whole
      → All (Was earlier) (opened batch.entries)
  opened_was endpoints earlier batch whole listed applies =
      let none : All (λ (x : Item). stood_in list x.flow ≡ 0) (opened batch.entries) =
      All-opened (λ flow. stood_in list flow ≡ 0) batch.entries
      (λ k d below opening. none_stood_of list whole _ listed (not-true _ (sym (applies.opens k d below) ∙ opening))) in
      let new : All (λ (x : Item). x.last ≡ 0) (opened batch.entries) =
      All-map (λ (x : Item). x.last ≡ 0) (λ (entry : Entry). record { flow = entry.flow; need = entry.add; last = 0 }) (filter (λ entry. entry.opens) batch.entries) (λ k d below. refl) in
      λ k d below. inl (new k d below ∙ sym (none k d below))

  front_stays_out : (endpoints b k : ℕ) (batch : DemandBatch) (earlier : List (List Flow)) (rest whole : List Item) → start ≤ first_slot b k → IsListBefore start list
      → All (NoEntry aside start list batch.entries) list → AreWoven aside start list (first_slot b k) rest whole → All (λ item. is_listed whole item.flow ≡ true) list → All (Was earlier) rest
      → Applies endpoints batch whole → InReach earlier (slots_then b k batch rest) → All (λ item. aside item ≡ true → IsKeptOut (is_barred batch.limits) (slots_then b k batch rest) item) list
      → StayOut aside (is_barred batch.limits) (first_slot b k) b batch.entries list rest
  front_stays_out endpoints b k batch earlier rest whole from before none are listed was applies reach barred =
      let bar : Bar = is_barred batch.limits in
      let number : ℕ = first_slot b k in
      let entries : List Entry = batch.entries in
      let full : List (List Flow) = slots_then b k batch rest in
      let A : List Item = never_served list in
      let B : List Item = once_served list in
      let is_new : Item → Bool = λ x. not (was_served x) in
      let put : Item → Item = with_batch entries in
      let none_yet : List (List Flow) = replicate b [] in
      let between : List (List Flow) = slots_between bar number b entries rest in
      let parts = parts_are start list before in
      let Stood : Item → Type 0 = λ x. stood_in list x.flow ≡ x.last in
      let Never : Item → Type 0 = λ x. stood_in list x.flow ≡ 0 in
      let Kept : Item → Type 0 = λ x. aside x ≡ true → IsKeptOut bar full x in
      let Settled : Item → Type 0 = IsSettled aside bar number full (stood_in list) in
      let stood : All Stood list = each_stood list before.once in
      let stood_A : All Stood A = All-filter is_new Stood list stood in
      let never_A : All Never A = λ d' d below. never_one list (get_or A d' d) (stood_A d' d below) (new_ones list d' d below) in
      let applies_rest = step_applies aside start list endpoints number batch rest whole are applies none in
      let of_rest = parts_of_batch bar number b entries rest (omega arith) applies.rises applies_rest.opens are.before_rest in
      let first = more_behind_both aside (opened entries) A (map put (never_served rest)) (map put (never_served whole))
      (applied_to_both aside entries A (never_served rest) (never_served whole) are.front_part (All-filter is_new (NoEntry aside start list entries) list none))
      (All-filter is_new (λ item. aside item ≡ false → IsGoneFrom (opened entries) item) list (opened_apart aside start list entries rest applies_rest.opens are.listed)) in
      let second = applied_to_both aside entries B (once_served rest) (once_served whole) are.back_part (All-filter was_served (NoEntry aside start list entries) list none) in
      let was_front : All (Was earlier) (front entries rest) =
      All-append (Was earlier) (map put (never_served rest)) (opened entries) (All-map (Was earlier) put (never_served rest) (All-filter is_new (Was earlier) rest was)) (opened_was endpoints earlier batch whole listed applies) in
      let was_back : All (Was earlier) (back entries rest) = All-map (Was earlier) put (once_served rest) (All-filter was_served (Was earlier) rest was) in
      let old_back : All (λ x. 0 < x.last) (back entries rest) =
      All-map (λ x. 0 < x.last) put (once_served rest) (All-weaker (λ x. was_served x ≡ true) (λ x. 0 < x.last) (λ x is. ltb-true 0 x.last is) (once_served rest) (filter_passes was_served rest)) in
      let settled_front : All Settled (front entries rest) = All-weaker (Was earlier) Settled (λ x is. settled bar number earlier full x reach is) (front entries rest) was_front in
      let settled_back : All Settled (back entries rest) = All-weaker (Was earlier) Settled (λ x is. settled bar number earlier full x reach is) (back entries rest) was_back in
      let no_more : List Item = [] in
      record {
        first = kept_out_of_part aside bar number full (stood_in list) (back entries rest) A (front entries rest) (front entries whole) none_yet first
            (of_rest.slots ∙ sym (slots_after-append bar number (front entries rest) (back entries rest) none_yet))
            (All-filter is_new Kept list barred) stood_A settled_front
            (λ k' d below. λ j e within. apart_parts (get_or A j e) (get_or (back entries rest) k' d) (new_ones list j e within) (old_back k' d below))
            settled_back (λ j d below. behind_first bar number earlier full (get_or (front entries rest) j d) parts reach)
            (λ j d below. behind_first bar number earlier full (get_or (back entries rest) j d) parts reach);
        second = kept_out_of_part aside bar number full (stood_in list) no_more B (back entries rest) (back entries whole) between second
            (of_rest.slots ∙ ap (λ (xs : List Item). slots_after bar number xs between) (sym (append-nil (back entries rest))))
            (All-filter was_served Kept list barred) (All-filter was_served Stood list stood) settled_back
            (All-nil (λ x. All (λ item. stays item x ≡ false) B)) (All-nil Settled)
            (λ j d below. behind_second bar number earlier full (get_or (back entries rest) j d) parts never_A (old_back j d below) reach (was_back j d below))
            (All-nil (Behind aside bar number full (stood_in list) B));
      }

  window_stays_out : (endpoints b k : ℕ) (batches : List DemandBatch) (earlier : List (List Flow)) (rest whole : List Item) → start ≤ first_slot b k → IsListBefore start list
      → All (λ item. aside item ≡ true → HaveNoEntry batches item.flow) list → AreWoven aside start list (first_slot b k) rest whole → All (λ item. is_listed whole item.flow ≡ true) list → All (Was earlier) rest
      → MayBeApplied endpoints b k whole batches → AreBarredByTheFront b k aside list earlier rest batches → AreBeyondReach b k aside list rest batches
  window_stays_out endpoints b k [] earlier rest whole from before none are listed was may reach = tt
  window_stays_out endpoints b k (batch ∷ batches) earlier rest whole from before none are listed was may reach =
      let NoneOf : DemandBatch → Item → Type 0 = λ other item. entry_of other.entries item.flow ≡ None in
      let NoneIn : List DemandBatch → Item → Type 0 = λ some item. aside item ≡ true → All (λ other. NoneOf other item) some in
      let entries : List Entry = batch.entries in
      let bar : Bar = is_barred batch.limits in
      let number : ℕ = first_slot b k in
      let full : List (List Flow) = slots_then b k batch rest in
      let here : All (NoEntry aside start list entries) list =
      All-weaker (NoneIn (batch ∷ batches)) (NoEntry aside start list entries) (λ item has out. All-head (λ other. NoneOf other item) batch batches (has out)) list none in
      let there : All (NoneIn batches) list =
      All-weaker (NoneIn (batch ∷ batches)) (NoneIn batches) (λ item has out. All-tail (λ other. NoneOf other item) batch batches (has out)) list none in
      let outside = front_stays_out endpoints b k batch earlier rest whole from before here are listed was may.0 reach.0 reach.1 in
      let one = step aside start list endpoints bar number b batch rest whole (omega arith) from before.below outside here are may.0 in
      let still_listed : All (λ item. is_listed (list_then b k batch whole) item.flow ≡ true) list =
      All-weaker (λ item. is_listed whole item.flow ≡ true) (λ item. is_listed (list_then b k batch whole) item.flow ≡ true)
      (λ item is. listed-after_slots bar number b (after_batch entries whole) item.flow
      ∙ (listed-after_batch entries whole item.flow may.0.rises may.0.opens ∙ or_left (is_listed whole item.flow) (is_some (entry_of entries item.flow)) is)) list listed in
      let Then : Item → Type 0 = Was (earlier ++ full) in
      let has : List Flow → Flow → Bool = λ slot flow. has_flow slot flow in
      let before_too : (flow : Flow) → is_in earlier flow ≡ true → is_in (earlier ++ full) flow ≡ true =
      λ flow is. list_any-append (λ slot. has slot flow) earlier full ∙ or_left (is_in earlier flow) (is_in full flow) is in
      let now_too : (flow : Flow) → is_in full flow ≡ true → is_in (earlier ++ full) flow ≡ true =
      λ flow is. list_any-append (λ slot. has slot flow) earlier full ∙ or_right (is_in earlier flow) (is_in full flow) is in
      let more : (x : Item) → Was earlier x → Then x = λ x is. elim is [
        | inl same ↦ inl same
        | inr old ↦ inr (before_too x.flow old)
      ] in
      let was_applied : All Then (after_batch entries rest) =
      All-sort_by Then last_of (map (with_batch entries) rest ++ opened entries)
      (All-append Then (map (with_batch entries) rest) (opened entries) (All-map Then (with_batch entries) rest (All-weaker (Was earlier) Then more rest was))
      (All-weaker (Was earlier) Then more (opened entries) (opened_was endpoints earlier batch whole listed may.0))) in
      let was_then : All Then (list_then b k batch rest) =
      All-sort_by Then last_of (list_through bar number b (after_batch entries rest))
      (through_slots (stood_in list) (λ flow. is_in (earlier ++ full) flow ≡ true) bar number b (after_batch entries rest) now_too was_applied) in (
        outside,
        window_stays_out endpoints b (k + 1) batches (earlier ++ full) (list_then b k batch rest) (list_then b k batch whole) (omega (arith, slots_on k b)) before there
            (subst (λ (n : ℕ). AreWoven aside start list n (list_then b k batch rest) (list_then b k batch whole)) (slots_on k b) one.next) still_listed was_then may.1 reach.2,
      )

pub items_barred_by_the_front_may_be_set_aside : ItemsBarredByTheFrontMayBeSetAside
items_barred_by_the_front_may_be_set_aside endpoints b first aside list batches before may no_entries reach =
    let start : ℕ = first_slot b first in
    let rest : List Item = picked aside list in
    let are = woven_at_first aside start list before in
    let As : Item → Type 0 = Was aside start list [] in
    let was : All As rest =
    All-filter (λ item. not (aside item)) As list
    (All-weaker (λ item. stood_in list item.flow ≡ item.last) As (λ item is. inl (sym is)) list (each_stood list before.once)) in
    items_beyond_reach_may_be_set_aside endpoints b first aside list batches before may no_entries
    (window_stays_out aside start list endpoints b first batches [] rest list (omega arith) before no_entries are (each_is_listed list) was may reach)
