-- A run whose batches are allocated window by window, each while the next is collected. From this project's own profile.
use Rattle.std.specs.Prelude.{◌≡◌, ◌⊎◌, ℕ, zero, suc, ◌+◌, ◌-◌, ◌*◌, ◌<◌, ◌≤◌, drop, min}
use Rattle.std.specs.List.{slice_index_or}
use Rattle.greedy_rules.specs.Batches.{DemandBatch}
use Rattle.greedy_rules.specs.Schedule.{slots_then, list_then, schedule, schedule_from, rest, rest_from}
use Rattle.trace_run.specs.Run.{Setting, slots_in_batch, recorded_together, next_rounds, replayed}

-- the batch that round `batch` records
abbrev pub batch_at : Setting → ℕ → DemandBatch
batch_at setting batch = recorded_together setting (next_rounds setting batch (replayed setting batch))

-- it stands at its place in every run that has it; its slots, and the next list, are those of one batch on the list that is left
pub record IsNext (setting : Setting) (batch : ℕ) : Type 0 where
  pub at : (rounds : ℕ) (other : DemandBatch) → batch < rounds → slice_index_or (replayed setting rounds).batches batch other ≡ batch_at setting batch
  pub slots : (rounds : ℕ) → batch < rounds →
      slots_in_batch setting.b batch (replayed setting rounds).batches ≡ slots_then setting.b batch (batch_at setting batch) (rest setting.b (replayed setting batch).batches)
  pub list : rest setting.b (replayed setting (suc batch)).batches ≡ list_then setting.b batch (batch_at setting batch) (rest setting.b (replayed setting batch).batches)

abbrev pub EveryBatchIsNext : Type 0
EveryBatchIsNext = (setting : Setting) (batch : ℕ) → IsNext setting batch

-- allocated on the list that the first batches leave, the later ones have the slots from there on, and leave what all leave
pub record IsWindow (setting : Setting) (allocated collected : ℕ) : Type 0 where
  pub slots : schedule_from setting.b allocated (rest setting.b (replayed setting allocated).batches) (drop allocated (replayed setting collected).batches)
      ≡ drop (allocated * setting.b) (schedule setting.b (replayed setting collected).batches)
  pub list : rest_from setting.b allocated (rest setting.b (replayed setting allocated).batches) (drop allocated (replayed setting collected).batches)
      ≡ rest setting.b (replayed setting collected).batches

abbrev pub EveryWindowIsAllocated : Type 0
EveryWindowIsAllocated = (setting : Setting) (allocated collected : ℕ) → allocated ≤ collected → IsWindow setting allocated collected

-- ---- how far it is after each step

-- of so many rounds these are collected, the batches of these are allocated, and those from the first one on are published
pub record InWindows (g all collected allocated first : ℕ) : Type 0 where
  pub within : collected ≤ all
  pub behind : allocated ≤ collected
  pub published : first ≤ allocated
  pub one_window : collected ≤ allocated + g
  pub full : collected < all → (collected ≡ 0) ⊎ (collected ≡ allocated + g)
  pub next : collected < all → first ≡ allocated - g

-- a step collects the next window, allocates the one collected before, and publishes it
abbrev pub StepsGoOn : Type 0
StepsGoOn =
    (g all collected allocated first : ℕ) → InWindows g all collected allocated first → InWindows g all (collected + min g (all - collected)) collected allocated

abbrev pub collected_after : ℕ → ℕ → ℕ → ℕ
collected_after g all zero = 0
collected_after g all (suc steps) = collected_after g all steps + min g (all - collected_after g all steps)

-- so it is after every step: a step allocates what the step before collected
abbrev pub EveryStepIsInWindows : Type 0
EveryStepIsInWindows = (g all steps : ℕ) → InWindows g all (collected_after g all (suc steps)) (collected_after g all steps) (collected_after g all (steps - 1))

-- a batch that is told in a round of the next window is published, and its window is allocated
abbrev pub WhatIsToldIsPublished : Type 0
WhatIsToldIsPublished =
    (g all collected allocated first round : ℕ) → InWindows g all collected allocated first → 0 < g →
    collected ≤ round → round < collected + g → round < all → 2 * g ≤ round →
    (first ≤ round - 2 * g) × (round - 2 * g < allocated) × (round + 1 ≤ allocated + 2 * g)
