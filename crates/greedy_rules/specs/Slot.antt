-- The greedy choice of one timeslot (the SIGCOMM 2014 Fastpass paper): demands are taken in the list's order, and one is
-- allocated where nothing chosen before it keeps it out. A slot is the list of its flows, rising by source.
use Rattle.std.specs.Prelude.{◌≡◌, Bool, true, ◌==◌, ◌&&◌, ◌||◌, not, nat_lt, List, [], ◌∷◌, if◌then◌else◌}
use Rattle.std.specs.List.{list_any}
use Rattle.greedy_rules.specs.declared.flows.Flow.{Flow}
use Rattle.greedy_rules.specs.declared.flows.Item.{Item}
use Rattle.greedy_rules.specs.Flows.{same_flow}

-- what keeps a flow out of a slot
abbrev pub Bar : Type 0
Bar = List Flow → Flow → Bool

-- the slot already has its source, or its destination
abbrev pub is_taken : Bar
is_taken slot flow = list_any (λ chosen. (chosen.src == flow.src) || (chosen.dst == flow.dst)) slot

abbrev pub has_flow : List Flow → Flow → Bool
has_flow slot flow = list_any (λ chosen. same_flow chosen flow) slot

-- the slot with one flow more, at its place by source
abbrev pub slot_with : Flow → List Flow → List Flow
slot_with flow [] = flow ∷ []
slot_with flow (next ∷ slot) = if nat_lt next.src flow.src then next ∷ slot_with flow slot else flow ∷ (next ∷ slot)

-- the slot once this item had its turn
abbrev pub offered : Bar → List Flow → Item → List Flow
offered bar slot item = if nat_lt 0 item.need && not (bar slot item.flow) then slot_with item.flow slot else slot

-- the slot once the rest of the list was walked
abbrev pub chosen_after : Bar → List Flow → List Item → List Flow
chosen_after bar slot [] = slot
chosen_after bar slot (item ∷ list) = chosen_after bar (offered bar slot item) list

abbrev pub greedy_slot : Bar → List Item → List Flow
greedy_slot bar list = chosen_after bar [] list

-- what makes the slots of a bar matchings: whoever is taken is barred
abbrev pub BarsTheTaken : Bar → Type 0
BarsTheTaken bar = (slot : List Flow) (flow : Flow) → is_taken slot flow ≡ true → bar slot flow ≡ true

-- and what makes them maximal: who is barred stays barred as the slot grows
abbrev pub BarsForGood : Bar → Type 0
BarsForGood bar = (slot : List Flow) (flow other : Flow) → bar slot flow ≡ true → bar (slot_with other slot) flow ≡ true
