-- What is told of the cores of a replay: that each slot is a matching that no waiting demand could join, on paths that share no
-- link (the SIGCOMM 2014 Fastpass paper), and what was written with them.
use Rattle.std.specs.Prelude.{◌<◌, ◌≤◌, ◌≡◌, ℕ, ◌+◌, List}
use Rattle.greedy_rules.specs.Batches.{DemandBatch}
use Rattle.greedy_rules.specs.Schedule.{first_slot}
use Rattle.clos_topology.specs.NetSlots.{SlotCores, AreSlotCores}
use Rattle.trace_text.specs.Trace.{TraceContent}
use Rattle.trace_run.specs.Run.{replayed}
use Rattle.replay_rounds.specs.Setting.{setting_of}
use Rattle.replay_rounds.specs.Standing.{slots_between}
use Rattle.window_engine.specs.Scheduled.{EverySlotIsScheduled, AreClean}

-- the batches of a trace's replay
abbrev pub replay_batches : TraceContent → ℕ → ℕ → SlotCores → List DemandBatch
replay_batches trace b g cores = (replayed (setting_of trace b g cores) trace.rounds).batches

-- these cores, each below 64, make every slot of a trace's replay so
pub record AreReplayCores (b g : ℕ) (trace : TraceContent) (cores : SlotCores) : Type 0 where
  pub named : AreSlotCores cores
  pub scheduled : EverySlotIsScheduled b trace.net (replay_batches trace b g cores) cores

-- some do, and what is told of them holds
abbrev pub WithReplayCores : ℕ → ℕ → TraceContent → (SlotCores → Type 0) → Type 0
WithReplayCores b g trace holds = (cores : SlotCores) × AreReplayCores b g trace cores × holds cores

-- some cores, each below 64, make the slots clean that the batches from this one on have in the run with others, and what is told of
-- them holds
abbrev pub WithCoresBetween : ℕ → ℕ → TraceContent → SlotCores → ℕ → ℕ → (SlotCores → Type 0) → Type 0
WithCoresBetween b g trace there first rounds holds =
    (cores : SlotCores) × AreSlotCores cores × AreClean trace.net cores (first_slot b first) (slots_between (setting_of trace b g there) first rounds) × holds cores

-- these cores are the same for so many slots above a number
abbrev pub AgreeAbove : ℕ → ℕ → SlotCores → SlotCores → Type 0
AgreeAbove low count one other = (number : ℕ) → low < number → number ≤ low + count → one number ≡ other number
