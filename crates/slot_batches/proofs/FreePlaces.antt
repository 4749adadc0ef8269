-- An item takes the lowest places in which its flow is free, as many as it needs.
use Rattle.std.proofs.Common.{◌≡◌, ◌<◌, ◌≤◌, ◌+◌, ◌-◌, ℕ, zero, suc, List, [], ◌∷◌, length, Bool, true, false, not, ◌&&◌, nat_lt, cond, refl, sym, ap, ◌∙◌, arith}
use Rattle.std.proofs.lemmas.Bool.{cond-true, cond-false, cond_both}
use Rattle.std.proofs.lemmas.Bool.Decides.{nat_tests}
use Rattle.greedy_rules.specs.declared.flows.Flow.{Flow}
use Rattle.greedy_rules.specs.declared.flows.Item.{Item}
use Rattle.greedy_rules.specs.Slot.{Bar, slot_with}
use Rattle.greedy_rules.specs.Schedule.{slot_in}
use Rattle.greedy_rules.specs.Walk.{turn}
use Rattle.slot_batches.specs.FlowByFlow.{slots_with, item_after}
use Rattle.endpoint_bitmaps.specs.Slots.{count_below, is_among_lowest}
use Rattle.slot_batches.specs.FreePlaces.{is_free, is_chosen, TakesLowestFree}
use Rattle.endpoint_bitmaps.proofs.Facts.{count_below-same, is_among_lowest-same}

lowest_rest : (passes first : Bool) (below need : ℕ)
    → (passes && nat_lt (cond first 1 0 + below) need) ≡ (passes && nat_lt below (cond (nat_lt 0 need && first) (need - 1) need))
lowest_rest passes first below need = grind (arith, nat_tests)

-- after the first place one less is needed, where it is taken
pub is_among_lowest-rest : (p : ℕ → Bool) (need place : ℕ)
    → is_among_lowest p need (suc place) ≡ is_among_lowest (λ later. p (suc later)) (cond (nat_lt 0 need && p 0) (need - 1) need) place
is_among_lowest-rest p need place = lowest_rest (p (suc place)) (p 0) (count_below (λ later. p (suc later)) place) need

module _ (bar : Bar) where
  -- the item is let into this slot
  abbrev pub fits : Item → List Flow → Bool
  fits item slot = nat_lt 0 item.need && not (bar slot item.flow)

  -- the item once it had it
  abbrev pub once_served : ℕ → Item → Item
  once_served number item = record item { need = item.need - 1; last = number }

  turn_flow : (number : ℕ) (slot : List Flow) (item : Item) → (turn bar number slot item).flow ≡ item.flow
  turn_flow number slot item = cond_both (fits item slot) (once_served number item) item (λ x. x.flow ≡ item.flow) (λ _. refl) (λ _. refl)

  turn_need : (number : ℕ) (slot : List Flow) (item : Item) → (turn bar number slot item).need ≡ cond (fits item slot) (item.need - 1) item.need
  turn_need number slot item =
      cond_both (fits item slot) (once_served number item) item (λ x. x.need ≡ cond (fits item slot) (item.need - 1) item.need)
      (λ hit. sym (cond-true (fits item slot) (item.need - 1) item.need hit)) (λ passed. sym (cond-false (fits item slot) (item.need - 1) item.need passed))

  one_on : (place count : ℕ) (free : Bool) → (nat_lt (suc place) (suc count) && free) ≡ (nat_lt place count && free)
  one_on place count free = grind (arith, nat_tests)

  free_rest : (flow : Flow) (slot : List Flow) (slots : List (List Flow)) (place : ℕ) → is_free bar flow (slot ∷ slots) (suc place) ≡ is_free bar flow slots place
  free_rest flow slot slots place = one_on place (length slots) (not (bar (slot_in slots place) flow))

  free_first : (count : ℕ) (free : Bool) → (nat_lt 0 (suc count) && free) ≡ free
  free_first count free = grind (arith, nat_tests)

  -- what is chosen after the first slot
  chosen_rest : (number : ℕ) (item : Item) (slot : List Flow) (slots : List (List Flow)) (place : ℕ)
      → is_chosen bar (turn bar number slot item) slots place ≡ is_chosen bar item (slot ∷ slots) (suc place)
  chosen_rest number item slot slots place =
      let free : ℕ → Bool = is_free bar item.flow (slot ∷ slots) in
      let later : ℕ → Bool = λ p. free (suc p) in
      let need : ℕ = (turn bar number slot item).need in
      let need_is : need ≡ cond (nat_lt 0 item.need && free 0) (item.need - 1) item.need =
      turn_need number slot item
      ∙ ap (λ (b : Bool). cond (nat_lt 0 item.need && b) (item.need - 1) item.need) (sym (free_first (length slots) (not (bar slot item.flow)))) in
      ap (λ (f : Flow). is_among_lowest (is_free bar f slots) need place) (turn_flow number slot item)
      ∙ (is_among_lowest-same (is_free bar item.flow slots) later need place (λ p. sym (free_rest item.flow slot slots p))
      ∙ (ap (λ (n : ℕ). is_among_lowest later n place) need_is ∙ sym (is_among_lowest-rest free item.need place)))

  first_is : (count need : ℕ) (free : Bool) → ((nat_lt 0 (suc count) && free) && nat_lt 0 need) ≡ (nat_lt 0 need && free)
  first_is count need free = grind (arith, nat_tests)

  chosen_first : (item : Item) (slot : List Flow) (slots : List (List Flow)) → is_chosen bar item (slot ∷ slots) 0 ≡ fits item slot
  chosen_first item slot slots = first_is (length slots) item.need (not (bar slot item.flow))

  past : (place : ℕ) (a b : Bool) → ((nat_lt place 0 && a) && b) ≡ false
  past place a b = grind (arith, nat_tests)

  chosen_past : (item : Item) (place : ℕ) → is_chosen bar item [] place ≡ false
  chosen_past item place = past place (not (bar (slot_in [] place) item.flow)) (nat_lt (count_below (is_free bar item.flow []) place) item.need)

  pub length-slots_with : (number : ℕ) (item : Item) (slots : List (List Flow)) → length (slots_with bar number item slots) ≡ length slots
  length-slots_with number item [] = refl
  length-slots_with number item (slot ∷ slots) = ap suc (length-slots_with (number + 1) (turn bar number slot item) slots)

  abbrev slot_then : Bool → Flow → List Flow → List Flow
  slot_then chosen flow slot = cond chosen (slot_with flow slot) slot

  slot_in-slots_with : (number : ℕ) (item : Item) (slots : List (List Flow)) (place : ℕ) → place < length slots
      → slot_in (slots_with bar number item slots) place ≡ slot_then (is_chosen bar item slots place) item.flow (slot_in slots place)
  slot_in-slots_with number item [] place within = absurd (omega arith)
  slot_in-slots_with number item (slot ∷ slots) zero within = ap (λ (b : Bool). slot_then b item.flow slot) (sym (chosen_first item slot slots))
  slot_in-slots_with number item (slot ∷ slots) (suc place) within =
      slot_in-slots_with (number + 1) (turn bar number slot item) slots place (omega arith)
      ∙ (ap (λ (f : Flow). slot_then (is_chosen bar (turn bar number slot item) slots place) f (slot_in slots place)) (turn_flow number slot item)
      ∙ ap (λ (b : Bool). slot_then b item.flow (slot_in slots place)) (chosen_rest number item slot slots place))

  pub item_after-flow : (number : ℕ) (item : Item) (slots : List (List Flow)) → (item_after bar number item slots).flow ≡ item.flow
  item_after-flow number item [] = refl
  item_after-flow number item (slot ∷ slots) = item_after-flow (number + 1) (turn bar number slot item) slots ∙ turn_flow number slot item

  count_below-past : (item : Item) (n : ℕ) → count_below (is_chosen bar item []) n ≡ 0
  count_below-past item n = count_below-same (is_chosen bar item []) (λ _. false) n (λ place _. chosen_past item place) ∙ none n
    where
      none : (n : ℕ) → count_below (λ _. false) n ≡ 0
      none zero = refl
      none (suc n) = ap (λ (k : ℕ). 0 + k) (none n)

  one_less : (need : ℕ) (free : Bool) (left rest : ℕ) → left + rest ≡ cond (nat_lt 0 need && free) (need - 1) need → left + (cond (nat_lt 0 need && free) 1 0 + rest) ≡ need
  one_less need free left rest is = grind (arith, nat_tests)

  item_after-need : (number : ℕ) (item : Item) (slots : List (List Flow)) (n : ℕ) → length slots ≤ n → (item_after bar number item slots).need + count_below (is_chosen bar item slots) n ≡ item.need
  item_after-need number item [] n within = ap (λ (k : ℕ). item.need + k) (count_below-past item n) ∙ omega arith
  item_after-need number item (slot ∷ slots) zero within = absurd (omega arith)
  item_after-need number item (slot ∷ slots) (suc n) within =
      let after : Item = turn bar number slot item in
      let left : ℕ = (item_after bar (number + 1) after slots).need in
      let later : ℕ → Bool = λ place. is_chosen bar item (slot ∷ slots) (suc place) in
      let same : count_below (is_chosen bar after slots) n ≡ count_below later n =
      count_below-same (is_chosen bar after slots) later n (λ place _. chosen_rest number item slot slots place) in
      ap (λ (b : Bool). left + (cond b 1 0 + count_below later n)) (chosen_first item slot slots)
      ∙ one_less item.need (not (bar slot item.flow)) left (count_below later n)
      (ap (λ (k : ℕ). left + k) (sym same) ∙ (item_after-need (number + 1) after slots n (omega arith) ∙ turn_need number slot item))

  item_after-unserved : (number : ℕ) (item : Item) (slots : List (List Flow)) → ((place : ℕ) → is_chosen bar item slots place ≡ false) → item_after bar number item slots ≡ item
  item_after-unserved number item [] none = refl
  item_after-unserved number item (slot ∷ slots) none =
      item_after-unserved (number + 1) (turn bar number slot item) slots (λ place. chosen_rest number item slot slots place ∙ none (suc place))
      ∙ cond-false (fits item slot) (once_served number item) item (sym (chosen_first item slot slots) ∙ none 0)

  item_after-last : (number : ℕ) (item : Item) (slots : List (List Flow)) (place : ℕ) → is_chosen bar item slots place ≡ true
      → ((later : ℕ) → place < later → is_chosen bar item slots later ≡ false) → (item_after bar number item slots).last ≡ number + place
  item_after-last number item [] place here none = let past = chosen_past item place in absurd (cc)
  item_after-last number item (slot ∷ slots) zero here none =
      let rest = item_after-unserved (number + 1) (turn bar number slot item) slots (λ place. chosen_rest number item slot slots place ∙ none (suc place) (omega arith)) in
      ap (λ (x : Item). x.last) (rest ∙ cond-true (fits item slot) (once_served number item) item (sym (chosen_first item slot slots) ∙ here))
      ∙ omega arith
  item_after-last number item (slot ∷ slots) (suc place) here none =
      item_after-last (number + 1) (turn bar number slot item) slots place (chosen_rest number item slot slots place ∙ here)
      (λ later more. chosen_rest number item slot slots later ∙ none (suc later) (omega arith))
      ∙ omega arith

  pub takes_lowest_free : (number : ℕ) (item : Item) (slots : List (List Flow)) → TakesLowestFree bar number item slots
  takes_lowest_free number item slots = record {
    slots_then = record { count = length-slots_with number item slots; each = slot_in-slots_with number item slots };
    flow = item_after-flow number item slots;
    need = item_after-need number item slots;
    last = item_after-last number item slots;
    unserved = item_after-unserved number item slots;
  }

  item_from_fields : (item : Item) (flow : Flow) (need last : ℕ) → item.flow ≡ flow → item.need ≡ need → item.last ≡ last → item ≡ record { flow = flow; need = need; last = last }
  item_from_fields item flow need last flow_is need_is last_is =
      ap (λ (f : Flow). record { flow = f; need = item.need; last = item.last }) flow_is
      ∙ (ap (λ (n : ℕ). record { flow = flow; need = n; last = item.last }) need_is ∙ ap (λ (n : ℕ). record { flow = flow; need = need; last = n }) last_is)

  -- an item that took places, the greatest of them this one
  pub item_after-served : (number : ℕ) (item : Item) (slots : List (List Flow)) (place n : ℕ) → is_chosen bar item slots place ≡ true
      → ((later : ℕ) → place < later → is_chosen bar item slots later ≡ false) → length slots ≤ n
      → item_after bar number item slots ≡ record { flow = item.flow; need = item.need - count_below (is_chosen bar item slots) n; last = number + place }
  item_after-served number item slots place n here none within =
      item_from_fields (item_after bar number item slots) item.flow (item.need - count_below (is_chosen bar item slots) n) (number + place)
      (item_after-flow number item slots) (omega (arith, item_after-need number item slots n within)) (item_after-last number item slots place here none)

  pub chosen_within : (item : Item) (slots : List (List Flow)) (place : ℕ) → is_chosen bar item slots place ≡ true → place < length slots
  chosen_within item slots place chosen = grind (arith, nat_tests)

  pub chosen_not_barred : (item : Item) (slots : List (List Flow)) (place : ℕ) → is_chosen bar item slots place ≡ true → bar (slot_in slots place) item.flow ≡ false
  chosen_not_barred item slots place chosen = grind (arith, nat_tests)
