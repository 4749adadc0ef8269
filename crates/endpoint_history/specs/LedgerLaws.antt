-- What holds of a lane's counts, its entries and the demand list, also where upward packets are forged. From this project's own profile.
use Rattle.std.specs.Prelude.{◌≡◌, ◌⊎◌, ℕ, ◌+◌, ◌≤◌, List, ◌∷◌}
use Rattle.endpoint_history.specs.Lane.{LaneHistory, Records, last_reset}
use Rattle.endpoint_history.specs.Counts.{owed, told, allocated}
use Rattle.endpoint_history.specs.Entries.{added, entries_of_batches, adds}
use Rattle.endpoint_history.specs.Rest.{need_left, FitNeeds, slots_from, adds_from, EntryClearsAt, EntryOpensFrom}
use Rattle.endpoint_history.specs.Steps.{TakesInRound}
use Rattle.endpoint_history.specs.Conditions.{LaneCall, history_of, allocations_of, MeetsConditions}

-- no more is told than is allocated, and no more is allocated than is owed
abbrev pub LedgerIsWithin : Type 0
LedgerIsWithin =
    (g : ℕ) (calls : List LaneCall) → MeetsConditions g calls → (dst : ℕ) →
    (told g (history_of calls) dst ≤ allocated (history_of calls) (allocations_of calls) dst)
    × (allocated (history_of calls) (allocations_of calls) dst ≤ owed g (history_of calls) dst)

-- what was added since the last reset is what is owed: recorded and lost
abbrev pub AddsSumToOwed : Type 0
AddsSumToOwed = (g : ℕ) (history : LaneHistory) (dst : ℕ) → adds g history dst + added g history dst ≡ owed g history dst

-- the same of the entries recorded: those of the batches from the round of the last reset on
abbrev pub EntriesSumToOwed : Type 0
EntriesSumToOwed =
    (endpoint g round : ℕ) (history : LaneHistory) (dst : ℕ) → TakesInRound history →
    adds_from (last_reset history) (entries_of_batches endpoint g (Records round ∷ history) dst) ≡ owed g history dst

-- they begin at the last entry that clears the flow; where none does, no batch before the round of the last reset has it
abbrev pub CountsBeginAtTheLastClear : Type 0
CountsBeginAtTheLastClear =
    (endpoint g round : ℕ) (history : LaneHistory) (dst : ℕ) → TakesInRound history →
    EntryClearsAt (last_reset history) (entries_of_batches endpoint g (Records round ∷ history) dst) ⊎ EntryOpensFrom (last_reset history) (entries_of_batches endpoint g (Records round ∷ history) dst)

-- the ledger and the demand list agree at the end of every round, whichever of the batches are allocated: what is owed is what was
-- allocated since the last reset, and the need that is left of the flow once every batch that is not yet allocated is applied to it
abbrev pub OneRest : Type 0
OneRest =
    (endpoint g round : ℕ) (history : LaneHistory) (dst : ℕ) (allocated : List ℕ) → TakesInRound history →
    FitNeeds (entries_of_batches endpoint g (Records round ∷ history) dst) allocated 0 →
    owed g history dst ≡ slots_from (last_reset history) allocated + need_left (entries_of_batches endpoint g (Records round ∷ history) dst) allocated 0
