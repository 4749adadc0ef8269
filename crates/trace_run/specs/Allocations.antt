-- What the lanes are told of the slots that are published, flow after flow and batch after batch. From this project's own profile.
use Rattle.std.specs.Prelude.{◌≡◌, ◌<◌, ◌≤◌, ℕ, ◌+◌, ◌==◌, ◌&&◌, nat_lt, nat_le, List, ◌∷◌, sum_by, if◌then◌else◌}
use Rattle.greedy_rules.specs.Batches.{entry_of}
use Rattle.greedy_rules.specs.Demands.{need_with}
use Rattle.endpoint_history.specs.Lane.{last_reset}
use Rattle.endpoint_history.specs.Counts.{Allocation, allocated, owed}
use Rattle.trace_run.specs.Run.{Setting}
use Rattle.trace_run.specs.Histories.{lane_after}
use Rattle.trace_run.specs.Rest.{allocated_from, allocated_in_batch, left_after}
use Rattle.trace_run.specs.Windows.{batch_at}

-- the slots of a flow in batches from this one on
abbrev pub since : ℕ → List Allocation → ℕ → ℕ
since batch allocations dst = sum_by (λ (a : Allocation). if a.dst == dst && nat_le batch a.batch then a.slots else 0) allocations

-- a lane was told of the slots of so many batches, and of the next batch's flows to destinations below this one
abbrev pub AreCounted : Setting → ℕ → ℕ → ℕ → List Allocation → Type 0
AreCounted setting batches upto src allocations =
    (batch dst : ℕ) → dst < setting.endpoints → since batch allocations dst ≡ allocated_from setting (if nat_lt dst upto then batches + 1 else batches) batch src dst

-- one flow more
abbrev pub OneFlowMore : Type 0
OneFlowMore =
    (setting : Setting) (batches rounds src dst : ℕ) (allocations : List Allocation) → batches < rounds → AreCounted setting batches dst src allocations →
    AreCounted setting batches (dst + 1) src (record { dst = dst; batch = batches; slots = allocated_in_batch setting batches rounds src dst } ∷ allocations)

-- a flow that has no slots in the batch may be passed over
abbrev pub AFlowWithoutSlots : Type 0
AFlowWithoutSlots =
    (setting : Setting) (batches rounds src dst : ℕ) (allocations : List Allocation) → batches < rounds → AreCounted setting batches dst src allocations →
    allocated_in_batch setting batches rounds src dst ≡ 0 → AreCounted setting batches (dst + 1) src allocations

-- and then the batch is counted
abbrev pub ABatchMore : Type 0
ABatchMore = (setting : Setting) (batches src : ℕ) (allocations : List Allocation) → AreCounted setting batches setting.endpoints src allocations → AreCounted setting (batches + 1) 0 src allocations

-- what a flow needs when a batch is applied is at most what was owed to it when the batch was recorded
abbrev pub NeedsAreOwed : Type 0
NeedsAreOwed =
    (setting : Setting) (rounds src dst : ℕ) → src < setting.endpoints → dst < setting.endpoints →
    need_with (entry_of (batch_at setting rounds).entries (record { src = src; dst = dst })) (left_after setting rounds src dst)
    ≤ owed setting.g (lane_after setting (rounds + 1) src) dst

-- the slots of the next batch are pending in the lane, where it is not passed over
abbrev pub AllocationIsPending : Type 0
AllocationIsPending =
    (setting : Setting) (batches rounds src dst : ℕ) (allocations : List Allocation) → batches < rounds → src < setting.endpoints → dst < setting.endpoints →
    AreCounted setting batches dst src allocations → last_reset (lane_after setting rounds src) ≤ batches →
    allocated (lane_after setting rounds src) allocations dst + allocated_in_batch setting batches rounds src dst ≤ owed setting.g (lane_after setting rounds src) dst
