-- What the demand list and the schedule of a run hold of a flow, and what its lane says of it. From this project's own profile.
use Rattle.std.specs.Prelude.{◌≡◌, ◌<◌, ◌≤◌, ℕ, ◌+◌, ◌*◌, map, drop}
use Rattle.greedy_rules.specs.Batches.{entry_of}
use Rattle.greedy_rules.specs.Demands.{item_of, need_in}
use Rattle.greedy_rules.specs.Allocation.{slots_of}
use Rattle.greedy_rules.specs.Schedule.{schedule, rest}
use Rattle.endpoint_history.specs.Lane.{last_reset}
use Rattle.endpoint_history.specs.Counts.{owed}
use Rattle.endpoint_history.specs.Rest.{need_through}
use Rattle.trace_run.specs.Run.{Setting, slots_in_batch, replayed}
use Rattle.trace_run.specs.Histories.{lane_after}

-- the flow's slots in the first so many batches, from this batch on
abbrev pub allocated_from : Setting → ℕ → ℕ → ℕ → ℕ → ℕ
allocated_from setting allocated batch src dst =
    slots_of (record { src = src; dst = dst }) (drop (batch * setting.b) (schedule setting.b (replayed setting allocated).batches))

-- its slots in this batch, of the schedule of so many rounds
abbrev pub allocated_in_batch : Setting → ℕ → ℕ → ℕ → ℕ → ℕ
allocated_in_batch setting batch rounds src dst = slots_of (record { src = src; dst = dst }) (slots_in_batch setting.b batch (replayed setting rounds).batches)

-- what the first so many batches leave of its need
abbrev pub left_after : Setting → ℕ → ℕ → ℕ → ℕ
left_after setting allocated src dst = need_in (item_of (rest setting.b (replayed setting allocated).batches) (record { src = src; dst = dst }))

-- and what is left once the batches that are recorded and not allocated are applied to it
abbrev pub need_after : Setting → ℕ → ℕ → ℕ → ℕ → ℕ
need_after setting allocated rounds src dst =
    need_through (map (λ batch. entry_of batch.entries (record { src = src; dst = dst })) (drop allocated (replayed setting rounds).batches))
    (left_after setting allocated src dst)

-- at the end of each round the ledger and the demand list agree: what is owed is what was allocated since the last reset, and what is
-- left, whichever of the batches are allocated
abbrev pub OwedIsAllocatedOrLeft : Type 0
OwedIsAllocatedOrLeft =
    (setting : Setting) (allocated rounds src dst : ℕ) → allocated ≤ rounds → src < setting.endpoints → dst < setting.endpoints →
    owed setting.g (lane_after setting rounds src) dst
    ≡ allocated_from setting allocated (last_reset (lane_after setting rounds src)) src dst + need_after setting allocated rounds src dst

-- so the next batch that is allocated has no more slots of the flow than are pending, where it is not passed over
abbrev pub PublishedIsPending : Type 0
PublishedIsPending =
    (setting : Setting) (batch rounds src dst : ℕ) → batch < rounds → src < setting.endpoints → dst < setting.endpoints →
    last_reset (lane_after setting rounds src) ≤ batch →
    allocated_from setting batch (last_reset (lane_after setting rounds src)) src dst + allocated_in_batch setting batch rounds src dst
    ≤ owed setting.g (lane_after setting rounds src) dst
