-- Items that need nothing may be set aside for a window of batches: what the batches then run over, and how the items set
-- aside come between those again (this project's own profile).
use Rattle.std.specs.Prelude.{◌≡◌, ℕ, ◌+◌, List, [], ◌∷◌, ◌++◌, filter, Bool, true, not, ◌==◌, ◌&&◌, None, All, if◌then◌else◌}
use Rattle.greedy_rules.specs.declared.flows.Flow.{Flow}
use Rattle.greedy_rules.specs.declared.flows.Item.{Item}
use Rattle.greedy_rules.specs.Flows.{same_flow}
use Rattle.greedy_rules.specs.Batches.{DemandBatch, entry_of}
use Rattle.greedy_rules.specs.Schedule.{first_slot, schedule_from, rest_from}
use Rattle.greedy_rules.specs.Recorded.{MayBeApplied}
use Rattle.slot_batches.specs.Feeding.{was_served}
use Rattle.slot_batches.specs.NextList.{IsListBefore}

-- the items that batches run over while the others are set aside
abbrev pub picked : (Item → Bool) → List Item → List Item
picked aside list = filter (λ item. not (aside item)) list

-- the places of the items that are picked, where the first item stands at this place
abbrev pub places_from : (Item → Bool) → ℕ → List Item → List ℕ
places_from aside place [] = []
places_from aside place (item ∷ list) = if aside item then places_from aside (place + 1) list else place ∷ places_from aside (place + 1) list

-- the flow stands in the later list as it stood: it was not served since
abbrev pub stays : Item → Item → Bool
stays item later = same_flow item.flow later.flow && (item.last == later.last)

-- the items of the list that are set aside, each at its place among those of the rest: an item that stays keeps its place, and
-- what was served since, or is new, comes after all of the list
abbrev pub weave : (Item → Bool) → List Item → List Item → List Item
weave aside [] rest = rest
weave aside (item ∷ list) [] = if aside item then item ∷ weave aside list [] else weave aside list []
weave aside (item ∷ list) (next ∷ rest) =
    if aside item then item ∷ weave aside list (next ∷ rest) else if stays item next then next ∷ weave aside list rest else weave aside list (next ∷ rest)

-- the two parts of a list in order: the items that were never served, and those that were
abbrev pub never_served : List Item → List Item
never_served list = filter (λ item. not (was_served item)) list

abbrev pub once_served : List Item → List Item
once_served list = filter was_served list

-- both parts woven: what was opened since comes between them
abbrev pub woven : (Item → Bool) → List Item → List Item → List Item
woven aside list rest = weave aside (never_served list) (never_served rest) ++ weave aside (once_served list) (once_served rest)

-- none of the batches has an entry of the flow
abbrev pub HaveNoEntry : List DemandBatch → Flow → Type 0
HaveNoEntry batches flow = All (λ batch. entry_of batch.entries flow ≡ None) batches

-- the entries that they have of the flow open it
abbrev pub OnlyOpen : List DemandBatch → Flow → Type 0
OnlyOpen batches flow = All (λ batch. All (λ entry. entry.flow ≡ flow → entry.opens ≡ true) batch.entries) batches

-- each item set aside needs no slot, and none of the batches has an entry of its flow
abbrev pub NeedNothing : (Item → Bool) → List DemandBatch → List Item → Type 0
NeedNothing aside batches list = All (λ item. aside item ≡ true → (item.need ≡ 0) × HaveNoEntry batches item.flow) list

-- the batches over the others give the same slots, and leave what the whole list is woven from
pub record IsWovenFrom (endpoints b first : ℕ) (aside : Item → Bool) (list : List Item) (batches : List DemandBatch) : Type 0 where
  pub may : MayBeApplied endpoints b first (picked aside list) batches
  pub before : IsListBefore (first_slot b first) (picked aside list)
  pub slots : schedule_from b first (picked aside list) batches ≡ schedule_from b first list batches
  pub rest : woven aside list (rest_from b first (picked aside list) batches) ≡ rest_from b first list batches

abbrev pub ItemsMayBeSetAside : Type 0
ItemsMayBeSetAside =
    (endpoints b first : ℕ) (aside : Item → Bool) (list : List Item) (batches : List DemandBatch) → IsListBefore (first_slot b first) list → MayBeApplied endpoints b first list batches
    → NeedNothing aside batches list → IsWovenFrom endpoints b first aside list batches

-- a flow of the list is not opened again
abbrev pub ListedFlowsAreOpen : Type 0
ListedFlowsAreOpen =
    (endpoints b first : ℕ) (list : List Item) (batches : List DemandBatch) → MayBeApplied endpoints b first list batches
    → All (λ item. OnlyOpen batches item.flow → HaveNoEntry batches item.flow) list
