-- A batch flow by flow: each item of the list, in order, takes the lowest slots of the batch that it is not kept out of, as
-- many as it needs (this project's own way to the greedy slots).
use Rattle.std.specs.Prelude.{ℕ, ◌+◌, List, [], ◌∷◌}
use Rattle.greedy_rules.specs.declared.flows.Flow.{Flow}
use Rattle.greedy_rules.specs.declared.flows.Item.{Item}
use Rattle.greedy_rules.specs.Slot.{Bar, offered}
use Rattle.greedy_rules.specs.Walk.{turn}

-- the slots of a batch, from this number on, once the item had its turn in each, the lowest first
abbrev pub slots_with : Bar → ℕ → Item → List (List Flow) → List (List Flow)
slots_with bar number item [] = []
slots_with bar number item (slot ∷ slots) = offered bar slot item ∷ slots_with bar (number + 1) (turn bar number slot item) slots

-- the item then
abbrev pub item_after : Bar → ℕ → Item → List (List Flow) → Item
item_after bar number item [] = item
item_after bar number item (slot ∷ slots) = item_after bar (number + 1) (turn bar number slot item) slots

-- the slots once all items of the list had their turns, one item after the other
abbrev pub slots_after : Bar → ℕ → List Item → List (List Flow) → List (List Flow)
slots_after bar number [] slots = slots
slots_after bar number (item ∷ list) slots = slots_after bar number list (slots_with bar number item slots)

-- the items then, in their order
abbrev pub items_after : Bar → ℕ → List Item → List (List Flow) → List Item
items_after bar number [] slots = []
items_after bar number (item ∷ list) slots = item_after bar number item slots ∷ items_after bar number list (slots_with bar number item slots)
