-- Slot by slot and flow by flow fill the same slots: the walk for a slot and the turns of an item exchange.
use Rattle.std.proofs.Common.{◌≡◌, ◌+◌, ℕ, zero, suc, List, [], ◌∷◌, replicate, refl, sym, ap, ◌∙◌}
use Rattle.greedy_rules.specs.declared.flows.Flow.{Flow}
use Rattle.greedy_rules.specs.declared.flows.Item.{Item}
use Rattle.greedy_rules.specs.Slot.{Bar, offered, chosen_after, greedy_slot}
use Rattle.greedy_rules.specs.Demands.{HasEachFlowOnce}
use Rattle.greedy_rules.specs.Allocation.{after_slot, batch_slots, list_through}
use Rattle.greedy_rules.specs.Walk.{turn, walk}
use Rattle.greedy_rules.proofs.Facts.{walk_is, once-after_slot}
use Rattle.slot_batches.specs.FlowByFlow.{slots_with, item_after, slots_after, items_after}
use Rattle.slot_batches.specs.Laws.{IsSlotBySlot}

module _ (bar : Bar) where
  -- the slots once the list was walked for each, the lowest first
  abbrev walked_slots : ℕ → List Item → List (List Flow) → List (List Flow)
  walked_slots number list [] = []
  walked_slots number list (slot ∷ slots) = chosen_after bar slot list ∷ walked_slots (number + 1) (walk bar number slot list) slots

  -- the items then
  abbrev walked_items : ℕ → List Item → List (List Flow) → List Item
  walked_items number list [] = list
  walked_items number list (slot ∷ slots) = walked_items (number + 1) (walk bar number slot list) slots

  -- the first item may have all its turns before the others have theirs
  exchange_slots : (number : ℕ) (item : Item) (list : List Item) (slots : List (List Flow))
      → walked_slots number (item ∷ list) slots ≡ walked_slots number list (slots_with bar number item slots)
  exchange_slots number item list [] = refl
  exchange_slots number item list (slot ∷ slots) =
      ap (λ (rest : List (List Flow)). chosen_after bar (offered bar slot item) list ∷ rest)
      (exchange_slots (number + 1) (turn bar number slot item) (walk bar number (offered bar slot item) list) slots)

  exchange_items : (number : ℕ) (item : Item) (list : List Item) (slots : List (List Flow))
      → walked_items number (item ∷ list) slots ≡ item_after bar number item slots ∷ walked_items number list (slots_with bar number item slots)
  exchange_items number item list [] = refl
  exchange_items number item list (slot ∷ slots) =
      exchange_items (number + 1) (turn bar number slot item) (walk bar number (offered bar slot item) list) slots

  no_item_slots : (number : ℕ) (slots : List (List Flow)) → walked_slots number [] slots ≡ slots
  no_item_slots number [] = refl
  no_item_slots number (slot ∷ slots) = ap (λ (rest : List (List Flow)). slot ∷ rest) (no_item_slots (number + 1) slots)

  no_item_items : (number : ℕ) (slots : List (List Flow)) → walked_items number [] slots ≡ []
  no_item_items number [] = refl
  no_item_items number (slot ∷ slots) = no_item_items (number + 1) slots

  -- from any slots, not only from empty ones
  pub slots_after-walked : (number : ℕ) (list : List Item) (slots : List (List Flow)) → slots_after bar number list slots ≡ walked_slots number list slots
  slots_after-walked number [] slots = sym (no_item_slots number slots)
  slots_after-walked number (item ∷ list) slots =
      slots_after-walked number list (slots_with bar number item slots) ∙ sym (exchange_slots number item list slots)

  pub items_after-walked : (number : ℕ) (list : List Item) (slots : List (List Flow)) → items_after bar number list slots ≡ walked_items number list slots
  items_after-walked number [] slots = sym (no_item_items number slots)
  items_after-walked number (item ∷ list) slots =
      ap (λ (rest : List Item). item_after bar number item slots ∷ rest) (items_after-walked number list (slots_with bar number item slots))
      ∙ sym (exchange_items number item list slots)

  -- from empty slots the walks are those of the greedy allocation
  walked_slots-empty : (number b : ℕ) (list : List Item) → HasEachFlowOnce list → walked_slots number list (replicate b []) ≡ batch_slots bar number b list
  walked_slots-empty number zero list once = refl
  walked_slots-empty number (suc b) list once =
      ap (λ (xs : List Item). greedy_slot bar list ∷ walked_slots (number + 1) xs (replicate b [])) (walk_is bar number list once)
      ∙ ap (λ (rest : List (List Flow)). greedy_slot bar list ∷ rest)
      (walked_slots-empty (number + 1) b (after_slot bar number list) (once-after_slot bar number list once))

  walked_items-empty : (number b : ℕ) (list : List Item) → HasEachFlowOnce list → walked_items number list (replicate b []) ≡ list_through bar number b list
  walked_items-empty number zero list once = refl
  walked_items-empty number (suc b) list once =
      ap (λ (xs : List Item). walked_items (number + 1) xs (replicate b [])) (walk_is bar number list once)
      ∙ walked_items-empty (number + 1) b (after_slot bar number list) (once-after_slot bar number list once)

  pub slot_by_slot : (number b : ℕ) (list : List Item) → HasEachFlowOnce list → IsSlotBySlot bar number b list
  slot_by_slot number b list once = record {
    slots = slots_after-walked number list (replicate b []) ∙ walked_slots-empty number b list once;
    items = items_after-walked number list (replicate b []) ∙ walked_items-empty number b list once;
  }
