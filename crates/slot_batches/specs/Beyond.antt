-- Items that no batch of a window would choose may be set aside for it (this project's own profile).
use Rattle.std.specs.Prelude.{◌≡◌, ℕ, take, drop, ◌+◌, List, [], ◌∷◌, ◌++◌, map, filter, replicate, Bool, true, false, not, ◌&&◌, ◌||◌, ◌==◌, ◌⊎◌, nat_lt, All, if◌then◌else◌}
use Rattle.std.specs.List.{list_any}
use Rattle.greedy_rules.specs.declared.flows.Flow.{Flow}
use Rattle.greedy_rules.specs.declared.flows.Item.{Item}
use Rattle.greedy_rules.specs.declared.flows.Entry.{Entry}
use Rattle.greedy_rules.specs.Flows.{same_flow}
use Rattle.greedy_rules.specs.Slot.{Bar, has_flow}
use Rattle.greedy_rules.specs.Limits.{is_barred}
use Rattle.greedy_rules.specs.Batches.{DemandBatch}
use Rattle.greedy_rules.specs.Demands.{with_batch, opened, is_listed}
use Rattle.greedy_rules.specs.Schedule.{first_slot, slots_then, list_then, schedule_from}
use Rattle.greedy_rules.specs.Recorded.{MayBeApplied}
use Rattle.slot_batches.specs.Feeding.{was_served}
use Rattle.slot_batches.specs.FlowByFlow.{slots_with, slots_after}
use Rattle.slot_batches.specs.NextList.{IsListBefore}
use Rattle.slot_batches.specs.Woven.{picked, stays, never_served, once_served, HaveNoEntry, IsWovenFrom}

-- the item needs nothing, or is barred in each of these slots
abbrev pub IsKeptOut : Bar → List (List Flow) → Item → Type 0
IsKeptOut bar slots item = All (λ slot. (nat_lt 0 item.need && not (bar slot item.flow)) ≡ false) slots

-- each item of the list that is set aside is kept out where it stands among the rest: of the slots as the rest before it fills
-- them
abbrev pub AreKeptOut : (Item → Bool) → Bar → ℕ → List Item → List Item → List (List Flow) → Type 0
AreKeptOut aside bar number [] rest slots = Unit {0}
AreKeptOut aside bar number (item ∷ list) [] slots = (aside item ≡ true → IsKeptOut bar slots item) × AreKeptOut aside bar number list [] slots
AreKeptOut aside bar number (item ∷ list) (next ∷ rest) slots =
    (aside item ≡ true → IsKeptOut bar slots item × AreKeptOut aside bar number list (next ∷ rest) slots)
    × (aside item ≡ false → stays item next ≡ true → AreKeptOut aside bar number list rest (slots_with bar number next slots))
    × (aside item ≡ false → stays item next ≡ false → AreKeptOut aside bar number list (next ∷ rest) slots)

-- the two parts that a batch walks, and the slots between them
abbrev pub first_part : List Entry → List Item → List Item
first_part entries rest = map (with_batch entries) (never_served rest) ++ opened entries

abbrev pub second_part : List Entry → List Item → List Item
second_part entries rest = map (with_batch entries) (once_served rest)

-- in a batch that runs over the rest
pub record StayOut (aside : Item → Bool) (bar : Bar) (number count : ℕ) (entries : List Entry) (list rest : List Item) : Type 0 where
  pub first : AreKeptOut aside bar number (never_served list) (first_part entries rest) (replicate count [])
  pub second : AreKeptOut aside bar number (once_served list) (second_part entries rest) (slots_after bar number (first_part entries rest) (replicate count []))

-- in each batch of a window that runs over the rest
abbrev pub AreBeyondReach : (b k : ℕ) (aside : Item → Bool) (list rest : List Item) → List DemandBatch → Type 0
AreBeyondReach b k aside list rest [] = Unit {0}
AreBeyondReach b k aside list rest (batch ∷ batches) =
    StayOut aside (is_barred batch.limits) (first_slot b k) b batch.entries list rest × AreBeyondReach b (k + 1) aside list (list_then b k batch rest) batches

-- items without an entry that are kept out of every batch which runs over the others may be set aside
abbrev pub ItemsBeyondReachMayBeSetAside : Type 0
ItemsBeyondReachMayBeSetAside =
    (endpoints b first : ℕ) (aside : Item → Bool) (list : List Item) (batches : List DemandBatch) → IsListBefore (first_slot b first) list → MayBeApplied endpoints b first list batches
    → All (λ item. aside item ≡ true → HaveNoEntry batches item.flow) list → AreBeyondReach b first aside list (picked aside list) batches → IsWovenFrom endpoints b first aside list batches

-- the flow is in one of these slots
abbrev pub is_in : List (List Flow) → Flow → Bool
is_in slots flow = list_any (λ slot. has_flow slot flow) slots

-- the flow stands in the list, among the rest, before each item that is set aside and needs a slot
abbrev pub stands_in_front : (Item → Bool) → List Item → Flow → Bool
stands_in_front aside [] flow = false
stands_in_front aside (item ∷ list) flow =
    if aside item then (item.need == 0) && stands_in_front aside list flow else same_flow item.flow flow || stands_in_front aside list flow

-- or it is new, and each item that is set aside and needs a slot was served before
abbrev pub IsInFront : (Item → Bool) → List Item → Flow → Type 0
IsInFront aside list flow =
    (stands_in_front aside list flow ≡ true) ⊎ ((is_listed list flow ≡ false) × All (λ item. aside item ≡ true → was_served item ≡ false → item.need ≡ 0) list)

-- in each batch of a window that runs over the rest: whoever is served in it was served in none of the earlier slots of the
-- window, and stood in front; and whoever is set aside needs nothing, or is barred in each slot
abbrev pub AreBarredByTheFront : (b k : ℕ) (aside : Item → Bool) (list : List Item) (earlier : List (List Flow)) (rest : List Item) → List DemandBatch → Type 0
AreBarredByTheFront b k aside list earlier rest [] = Unit {0}
AreBarredByTheFront b k aside list earlier rest (batch ∷ batches) =
    ((flow : Flow) → is_in (slots_then b k batch rest) flow ≡ true → (is_in earlier flow ≡ false) × IsInFront aside list flow)
    × All (λ item. aside item ≡ true → IsKeptOut (is_barred batch.limits) (slots_then b k batch rest) item) list
    × AreBarredByTheFront b (k + 1) aside list (earlier ++ slots_then b k batch rest) (list_then b k batch rest) batches

abbrev pub ItemsBarredByTheFrontMayBeSetAside : Type 0
ItemsBarredByTheFrontMayBeSetAside =
    (endpoints b first : ℕ) (aside : Item → Bool) (list : List Item) (batches : List DemandBatch) → IsListBefore (first_slot b first) list → MayBeApplied endpoints b first list batches
    → All (λ item. aside item ≡ true → HaveNoEntry batches item.flow) list → AreBarredByTheFront b first aside list [] (picked aside list) batches
    → IsWovenFrom endpoints b first aside list batches

-- the flows that stand before an item: with the item, where it is not set aside
abbrev pub seen_with : (Item → Bool) → (Flow → Bool) → Item → Flow → Bool
seen_with aside seen item flow = seen flow || (not (aside item) && same_flow item.flow flow)

-- a flow that goes ahead of the item in a batch: it was served in no earlier slot of the window, and stood before it in the list, or
-- is new where the item was served before
abbrev pub goes_ahead : (list : List Item) (earlier : List (List Flow)) (seen : Flow → Bool) (item : Item) → Flow → Bool
goes_ahead list earlier seen item flow = not (is_in earlier flow) && (seen flow || (was_served item && not (is_listed list flow)))

-- each item that is set aside and needs a slot is barred in each slot by those of its flows that go ahead
abbrev pub HaveRivals : (bar : Bar) (aside : Item → Bool) (whole : List Item) (earlier full : List (List Flow)) (seen : Flow → Bool) → List Item → Type 0
HaveRivals bar aside whole earlier full seen [] = Unit {0}
HaveRivals bar aside whole earlier full seen (item ∷ list) =
    (aside item ≡ true → (item.need ≡ 0) ⊎ All (λ slot. bar (filter (goes_ahead whole earlier seen item) slot) item.flow ≡ true) full)
    × HaveRivals bar aside whole earlier full (seen_with aside seen item) list

-- in each batch of a window that runs over the rest
abbrev pub AreBarredByThoseAhead : (b k : ℕ) (aside : Item → Bool) (list : List Item) (earlier : List (List Flow)) (rest : List Item) → List DemandBatch → Type 0
AreBarredByThoseAhead b k aside list earlier rest [] = Unit {0}
AreBarredByThoseAhead b k aside list earlier rest (batch ∷ batches) =
    HaveRivals (is_barred batch.limits) aside list earlier (slots_then b k batch rest) (λ flow. false) list
    × AreBarredByThoseAhead b (k + 1) aside list (earlier ++ slots_then b k batch rest) (list_then b k batch rest) batches

abbrev pub ItemsBarredByThoseAheadMayBeSetAside : Type 0
ItemsBarredByThoseAheadMayBeSetAside =
    (endpoints b first : ℕ) (aside : Item → Bool) (list : List Item) (batches : List DemandBatch) → IsListBefore (first_slot b first) list → MayBeApplied endpoints b first list batches
    → All (λ item. aside item ≡ true → HaveNoEntry batches item.flow) list → AreBarredByThoseAhead b first aside list [] (picked aside list) batches
    → IsWovenFrom endpoints b first aside list batches

-- the same over the slots of these batches, b slots each, as a table has them
abbrev pub AreBarredInSlots : (aside : Item → Bool) (list : List Item) (b : ℕ) (earlier slots : List (List Flow)) → List DemandBatch → Type 0
AreBarredInSlots aside list b earlier slots [] = Unit {0}
AreBarredInSlots aside list b earlier slots (batch ∷ batches) =
    HaveRivals (is_barred batch.limits) aside list earlier (take b slots) (λ flow. false) list × AreBarredInSlots aside list b (earlier ++ take b slots) (drop b slots) batches

abbrev pub ItemsBarredInSlotsMayBeSetAside : Type 0
ItemsBarredInSlotsMayBeSetAside =
    (endpoints b first : ℕ) (aside : Item → Bool) (list : List Item) (batches : List DemandBatch) → IsListBefore (first_slot b first) list → MayBeApplied endpoints b first list batches
    → All (λ item. aside item ≡ true → HaveNoEntry batches item.flow) list
    → AreBarredInSlots aside list b [] (schedule_from b first (picked aside list) batches) batches
    → IsWovenFrom endpoints b first aside list batches
