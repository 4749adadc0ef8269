-- The slots of one batch, filled in rising order, and the list that they leave
-- (the greedy allocation of the SIGCOMM 2014 Fastpass paper; batches and ties are this project's own profile).
use Rattle.std.specs.Prelude.{ℕ, zero, suc, ◌+◌, ◌-◌, List, [], ◌∷◌, map, count_by, if◌then◌else◌}
use Rattle.greedy_rules.specs.declared.flows.Flow.{Flow}
use Rattle.greedy_rules.specs.declared.flows.Item.{Item}
use Rattle.greedy_rules.specs.Slot.{Bar, has_flow, greedy_slot}
use Rattle.greedy_rules.specs.Demands.{Key, by_key, last_served}

-- an item after the slot of this number: a flow of the slot needs one less, and was last served in it
abbrev pub served : ℕ → List Flow → Item → Item
served number slot item = if has_flow slot item.flow then record item { need = item.need - 1; last = number } else item

-- the list after its greedy slot of this number; its order stays
abbrev pub after_slot : Bar → ℕ → List Item → List Item
after_slot bar number list = map (served number (greedy_slot bar list)) list

-- the slots number, number + 1 and so on
abbrev pub batch_slots : Bar → ℕ → ℕ → List Item → List (List Flow)
batch_slots bar number zero list = []
batch_slots bar number (suc count) list = greedy_slot bar list ∷ batch_slots bar (number + 1) count (after_slot bar number list)

-- the list before each of these slots
abbrev pub batch_lists : Bar → ℕ → ℕ → List Item → List (List Item)
batch_lists bar number zero list = []
batch_lists bar number (suc count) list = list ∷ batch_lists bar (number + 1) count (after_slot bar number list)

-- the list after these slots, in its old order: slots rise, so a flow's last slot is its greatest
abbrev pub list_through : Bar → ℕ → ℕ → List Item → List Item
list_through bar number zero list = list
list_through bar number (suc count) list = list_through bar (number + 1) count (after_slot bar number list)

-- the list that the batch leaves, sorted by a key, and so by the slot in which a flow was last served
abbrev pub list_after_slots_by : Key → Bar → ℕ → ℕ → List Item → List Item
list_after_slots_by key bar number count list = by_key key (list_through bar number count list)

abbrev pub list_after_slots : Bar → ℕ → ℕ → List Item → List Item
list_after_slots bar number count list = list_after_slots_by last_served bar number count list

-- in how many of these slots a flow is
abbrev pub slots_of : Flow → List (List Flow) → ℕ
slots_of flow slots = count_by (λ slot. has_flow slot flow) slots
