-- The texts of replays, which no audit refuses (this project's own profile).
use Rattle.std.specs.Prelude.{◌<◌, ◌≤◌, ℕ}
use Rattle.clos_topology.specs.NetSlots.{SlotCores}
use Rattle.trace_text.specs.Trace.{TraceContent}
use Rattle.trace_text.specs.Valid.{IsTrace}
use Rattle.window_engine.specs.Scheduled.{EverySlotIsScheduled}
use Rattle.replay_rounds.specs.Setting.{setting_of}
use Rattle.run_text.specs.ReplayScheduled.{replay_batches}
use Rattle.run_text.specs.ReplayText.{replay_lines, replay_text}
use Rattle.own_texts.specs.Passing.{HasNoBadLine}

-- a replay of an accepted trace, by batches of 1 to 64 slots and windows of 1 to 16 rounds, with cores by which every slot is scheduled on
-- paths that share no link
pub record IsReplay (b g : ℕ) (trace : TraceContent) (cores : SlotCores) : Type 0 where
  pub accepted : IsTrace trace
  pub batch : (0 < b) × (b ≤ 64)
  pub window : (0 < g) × (g ≤ 16)
  pub scheduled : EverySlotIsScheduled b trace.net (replay_batches trace b g cores) cores

abbrev pub NoReplayHasABadLine : Type 0
NoReplayHasABadLine =
    (b g : ℕ) (trace : TraceContent) (cores : SlotCores) → IsReplay b g trace cores
    → HasNoBadLine trace.net b (replay_text cores b g trace) (replay_lines cores (setting_of trace b g cores) trace)
