-- How a schedule goes on, batch by batch: what comes later changes nothing of what came before (this project's own profile).
-- A name that ends in By is said of lists sorted by any key; without By, of lists sorted by the slot in which a flow was last served.
use Rattle.std.specs.Prelude.{◌≡◌, ◌<◌, ℕ, ◌+◌, ◌*◌, List, ◌++◌, length, take, drop}
use Rattle.std.specs.List.{slice_index_or}
use Rattle.greedy_rules.specs.declared.flows.Item.{Item}
use Rattle.greedy_rules.specs.Batches.{DemandBatch}
use Rattle.greedy_rules.specs.Demands.{Key, last_served}
use Rattle.greedy_rules.specs.Schedule.{slots_then_by, list_then_by, schedule_from_by, rest_from_by, schedule_by, rest_by}

-- a schedule of some batches and later ones: first that of the first, then the later ones' slots on the list that is left
abbrev pub SchedulesGoOnBy : Key → Type 0
SchedulesGoOnBy key =
    (b k : ℕ) (list : List Item) (front later : List DemandBatch)
    → (schedule_from_by key b k list (front ++ later) ≡ schedule_from_by key b k list front ++ schedule_from_by key b (k + length front) (rest_from_by key b k list front) later)
    × (rest_from_by key b k list (front ++ later) ≡ rest_from_by key b (k + length front) (rest_from_by key b k list front) later)

abbrev pub SchedulesGoOn : Type 0
SchedulesGoOn = SchedulesGoOnBy last_served

abbrev pub FrontsAreFrontsBy : Key → Type 0
FrontsAreFrontsBy key =
    (b : ℕ) (front later : List DemandBatch)
    → (schedule_by key b (front ++ later) ≡ schedule_by key b front ++ schedule_from_by key b (length front) (rest_by key b front) later)
    × (rest_by key b (front ++ later) ≡ rest_from_by key b (length front) (rest_by key b front) later)
    × (take (length front * b) (schedule_by key b (front ++ later)) ≡ schedule_by key b front)

abbrev pub FrontsAreFronts : Type 0
FrontsAreFronts = FrontsAreFrontsBy last_served

-- every batch has b slots
abbrev pub EveryBatchHasItsSlotsBy : Key → Type 0
EveryBatchHasItsSlotsBy key = (b k : ℕ) (list : List Item) (batches : List DemandBatch) → length (schedule_from_by key b k list batches) ≡ length batches * b

abbrev pub EveryBatchHasItsSlots : Type 0
EveryBatchHasItsSlots = EveryBatchHasItsSlotsBy last_served

-- the slots of batch k, and the list after it, are made of the list that the batches before it left
abbrev pub SlotsOfABatchBy : Key → Type 0
SlotsOfABatchBy key =
    (b k : ℕ) (batches : List DemandBatch) (d : DemandBatch) → k < length batches
    → (take b (drop (k * b) (schedule_by key b batches)) ≡ slots_then_by key b k (slice_index_or batches k d) (rest_by key b (take k batches)))
    × (rest_by key b (take (k + 1) batches) ≡ list_then_by key b k (slice_index_or batches k d) (rest_by key b (take k batches)))

abbrev pub SlotsOfABatch : Type 0
SlotsOfABatch = SlotsOfABatchBy last_served
