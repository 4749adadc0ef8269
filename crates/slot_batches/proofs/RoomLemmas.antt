-- Each item that is served fills a place of a slot, and a slot has at most a place for each endpoint.
use Rattle.std.proofs.Common.{◌≡◌, ◌<◌, ◌≤◌, ◌+◌, ◌-◌, ◌*◌, ℕ, List, [], ◌∷◌, length, replicate, Bool, true, nat_lt, cond, All, AllPairs, refl, sym, ap, ◌∙◌, subst, arith, inl, inr}
use Rattle.std.specs.List.{sum_by, count_by}
use Rattle.std.proofs.lemmas.Bool.{cond-true, cond-false, cond_both, cases_Bool}
use Rattle.std.proofs.lemmas.Bool.Decides.{nat_tests}
use Rattle.std.proofs.lemmas.List.{length-replicate}
use Rattle.std.proofs.lemmas.List.Sums.{sum_by-cons, sum_by-le}
use Rattle.std.proofs.lemmas.List.Elements.{All-head, All-tail, All-weaker}
use Rattle.greedy_rules.specs.declared.flows.Flow.{Flow}
use Rattle.greedy_rules.specs.declared.flows.Item.{Item}
use Rattle.greedy_rules.specs.Slot.{Bar, slot_with, offered}
use Rattle.greedy_rules.specs.SlotTable.{IsSlotOf}
use Rattle.greedy_rules.specs.Walk.{turn}
use Rattle.list_facts.proofs.Pairs.{AllPairs-head, AllPairs-tail}
use Rattle.slot_batches.specs.FlowByFlow.{slots_with, item_after, slots_after, items_after}
use Rattle.slot_batches.specs.Room.{is_served_from, ServedFitPlaces}
use Rattle.slot_batches.proofs.FreePlaces.{fits, once_served, takes_lowest_free}
use Rattle.slot_batches.proofs.TurnFacts.{length-slots_after}

-- sources that rise and stay below a number are at most as many
few_from : (endpoints k : ℕ) (slot : List Flow) → k ≤ endpoints → AllPairs (λ f g. f.src < g.src) slot → All (λ f. f.src < endpoints) slot → All (λ f. k ≤ f.src) slot
    → length slot + k ≤ endpoints
few_from endpoints k [] within rising below above = omega arith
few_from endpoints k (flow ∷ slot) within rising below above =
    let Rises : Flow → Flow → Type 0 = λ f g. f.src < g.src in
    let first = All-head (λ f. k ≤ f.src) flow slot above in
    let last = All-head (λ f. f.src < endpoints) flow slot below in
    let rest = few_from endpoints (k + 1) slot (omega (arith, first, last)) (AllPairs-tail Rises flow slot rising) (All-tail (λ f. f.src < endpoints) flow slot below)
    (λ at d in_slot. omega (arith, first, AllPairs-head Rises flow slot rising at d in_slot)) in
    omega (arith, rest)

few_flows : (endpoints : ℕ) (slot : List Flow) → IsSlotOf endpoints slot → length slot ≤ endpoints
few_flows endpoints slot is =
    omega (arith, few_from endpoints 0 slot (omega arith) is.rising (λ at d in_slot. (is.in_range at d in_slot).0) (λ at d in_slot. omega arith))

-- how many flows the slots have together
abbrev flows_in : List (List Flow) → ℕ
flows_in slots = sum_by (λ (slot : List Flow). length slot) slots

length-slot_with : (flow : Flow) (slot : List Flow) → length (slot_with flow slot) ≡ length slot + 1
length-slot_with flow [] = refl
length-slot_with flow (next ∷ slot) =
    cond_both (nat_lt next.src flow.src) (next ∷ slot_with flow slot) (flow ∷ (next ∷ slot)) (λ s. length s ≡ length (next ∷ slot) + 1)
    (λ _. omega (arith, length-slot_with flow slot)) (λ _. omega arith)

module _ (bar : Bar) where
  some_need : (item : Item) (slot : List Flow) → fits bar item slot ≡ true → 0 < item.need
  some_need item slot hit = grind (arith, nat_tests)

  -- a turn moves one of the need into the slot, or nothing
  turn_balance : (number : ℕ) (slot : List Flow) (item : Item) → length (offered bar slot item) + (turn bar number slot item).need ≡ length slot + item.need
  turn_balance number slot item = elim (cases_Bool (fits bar item slot)) [
    | inl hit ↦
        ap (λ (s : List Flow). length s + (turn bar number slot item).need) (cond-true (fits bar item slot) (slot_with item.flow slot) slot hit)
        ∙ (ap (λ (x : Item). length (slot_with item.flow slot) + x.need) (cond-true (fits bar item slot) (once_served bar number item) item hit)
        ∙ omega (arith, some_need item slot hit, length-slot_with item.flow slot))
    | inr passed ↦
        ap (λ (s : List Flow). length s + (turn bar number slot item).need) (cond-false (fits bar item slot) (slot_with item.flow slot) slot passed)
        ∙ ap (λ (x : Item). length slot + x.need) (cond-false (fits bar item slot) (once_served bar number item) item passed)
  ]

  balance : (number : ℕ) (item : Item) (slots : List (List Flow)) → flows_in (slots_with bar number item slots) + (item_after bar number item slots).need ≡ flows_in slots + item.need
  balance number item [] = refl
  balance number item (slot ∷ slots) =
      let after : Item = turn bar number slot item in
      let count : List Flow → ℕ = λ s. length s in
      omega (arith, balance (number + 1) after slots, turn_balance number slot item, sum_by-cons count (offered bar slot item) (slots_with bar (number + 1) after slots), sum_by-cons count slot slots)

  -- an item that was served needs less
  served_less : (first number : ℕ) (item : Item) (slots : List (List Flow)) → item.last < first → first ≤ number
      → (item_after bar number item slots).need + cond (is_served_from first (item_after bar number item slots)) 1 0 ≤ item.need
  served_less first number item [] before from = grind (arith, nat_tests)
  served_less first number item (slot ∷ slots) before from = elim (cases_Bool (fits bar item slot)) [
    | inl hit ↦
        let is : turn bar number slot item ≡ once_served bar number item = cond-true (fits bar item slot) _ item hit in
        let less : (turn bar number slot item).need ≡ item.need - 1 = ap (λ (x : Item). x.need) is in
        let rest = (takes_lowest_free bar (number + 1) (turn bar number slot item) slots).need (length slots) (omega arith) in
        at_most_one (item_after bar (number + 1) (turn bar number slot item) slots).need (is_served_from first (item_after bar (number + 1) (turn bar number slot item) slots)) item.need
        (omega (arith, some_need item slot hit, less, rest))
    | inr passed ↦
        let is : item ≡ turn bar number slot item = sym (cond-false (fits bar item slot) (once_served bar number item) item passed) in
        let P : Item → Type 0 = λ x. (item_after bar (number + 1) x slots).need + cond (is_served_from first (item_after bar (number + 1) x slots)) 1 0 ≤ item.need in
        subst P is (served_less first (number + 1) item slots before (omega arith))
  ]
    where
      at_most_one : (left : ℕ) (served : Bool) (need : ℕ) → left < need → left + cond served 1 0 ≤ need
      at_most_one left served need less = grind arith

  -- so the slots have at least as many flows as items were served
  served_in_slots : (number : ℕ) (list : List Item) (slots : List (List Flow)) → All (λ item. item.last < number) list
      → count_by (is_served_from number) (items_after bar number list slots) + flows_in slots ≤ flows_in (slots_after bar number list slots)
  served_in_slots number [] slots before = omega arith
  served_in_slots number (item ∷ list) slots before =
      let then : Item = item_after bar number item slots in
      let later : List (List Flow) = slots_with bar number item slots in
      omega (
        arith,
        served_in_slots number list later (All-tail (λ x. x.last < number) item list before),
        served_less number number item slots (All-head (λ x. x.last < number) item list before) (omega arith),
        balance number item slots,
        sum_by-cons (λ x. cond (is_served_from number x) 1 0) then (items_after bar number list later),
      )

  pub served_fit : (endpoints number b : ℕ) (list : List Item) → All (λ item. item.last < number) list → All (IsSlotOf endpoints) (slots_after bar number list (replicate b []))
      → count_by (is_served_from number) (items_after bar number list (replicate b [])) ≤ b * endpoints
  served_fit endpoints number b list before each =
      let empty : List (List Flow) = replicate b [] in
      let slots : List (List Flow) = slots_after bar number list empty in
      let total : flows_in slots ≤ length slots * endpoints =
      sum_by-le (λ (slot : List Flow). length slot) endpoints slots (All-weaker (IsSlotOf endpoints) (λ slot. length slot ≤ endpoints) (few_flows endpoints) slots each) in
      let count : length slots ≡ b = length-slots_after bar number list empty ∙ length-replicate b [] in
      let fit : flows_in slots ≤ b * endpoints = subst (λ (n : ℕ). flows_in slots ≤ n * endpoints) count total in
      omega (arith, served_in_slots number list empty before, fit)

pub served_fit_places : ServedFitPlaces
served_fit_places = served_fit
