-- What a lane's caller keeps: the calls of a lane together with the slots that are published. From this project's own profile.
use Rattle.std.specs.Prelude.{ℕ, ◌+◌, ◌-◌, ◌*◌, ◌<◌, ◌≤◌, ◌==◌, ◌&&◌, List, [], ◌∷◌, sum_by, if◌then◌else◌}
use Rattle.endpoint_history.specs.Packets.{slots_to}
use Rattle.endpoint_history.specs.Lane.{LaneEvent, LaneHistory, MakesDown, TakesUp, Records, last_reset}
use Rattle.endpoint_history.specs.Counts.{Allocation, owed, allocated}
use Rattle.endpoint_history.specs.Entries.{rounds_recorded}
use Rattle.endpoint_history.specs.Steps.{rounds_begun}

pub data LaneCall : Type 0 where
  Happens : (event : LaneEvent) → LaneCall
  Allocates : (allocation : Allocation) → LaneCall

abbrev pub history_of : List LaneCall → LaneHistory
history_of [] = []
history_of (Happens event ∷ earlier) = event ∷ history_of earlier
history_of (Allocates allocation ∷ earlier) = history_of earlier

abbrev pub allocations_of : List LaneCall → List Allocation
allocations_of [] = []
allocations_of (Happens event ∷ earlier) = allocations_of earlier
allocations_of (Allocates allocation ∷ earlier) = allocation ∷ allocations_of earlier

-- the slots of a flow that are published in a batch
abbrev pub allocated_in : ℕ → List Allocation → ℕ → ℕ
allocated_in batch allocations dst = sum_by (λ (a : Allocation). if a.dst == dst && a.batch == batch then a.slots else 0) allocations

-- rounds go on; slots are published before they are told, of a batch that is recorded, and no more of a flow than is owed
abbrev pub MeetsConditions : ℕ → List LaneCall → Type 0
MeetsConditions g [] = Unit {0}
MeetsConditions g (Happens (MakesDown round slots) ∷ earlier) =
    (rounds_begun (history_of earlier) ≤ round)
    × (2 * g ≤ round → last_reset (history_of earlier) ≤ round - 2 * g → (dst : ℕ) → slots_to dst slots ≤ allocated_in (round - 2 * g) (allocations_of earlier) dst)
    × MeetsConditions g earlier
MeetsConditions g (Happens (TakesUp round packet) ∷ earlier) = (rounds_recorded (history_of earlier) ≤ round) × MeetsConditions g earlier
MeetsConditions g (Happens (Records round) ∷ earlier) = MeetsConditions g earlier
MeetsConditions g (Allocates a ∷ earlier) =
    (a.batch < rounds_recorded (history_of earlier))
    × (last_reset (history_of earlier) ≤ a.batch → allocated (history_of earlier) (allocations_of earlier) a.dst + a.slots ≤ owed g (history_of earlier) a.dst)
    × MeetsConditions g earlier
