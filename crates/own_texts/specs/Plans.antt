-- The texts of plans, which no audit refuses (this project's own profile).
use Rattle.std.specs.Prelude.{◌<◌, ◌≤◌, ℕ}
use Rattle.clos_topology.specs.NetSlots.{SlotCores}
use Rattle.trace_text.specs.Trace.{TraceContent}
use Rattle.trace_text.specs.Valid.{IsTrace}
use Rattle.window_engine.specs.Scheduled.{EverySlotIsScheduled}
use Rattle.window_engine.specs.Batches.{plan_batches}
use Rattle.run_text.specs.PlanText.{plan_lines, plan_text}
use Rattle.own_texts.specs.Passing.{HasNoBadLine}

-- a plan of an accepted trace, by batches of 1 to 64 slots, with cores by which every slot is scheduled on paths that share no link
pub record IsPlan (b : ℕ) (trace : TraceContent) (cores : SlotCores) : Type 0 where
  pub accepted : IsTrace trace
  pub batch : (0 < b) × (b ≤ 64)
  pub scheduled : EverySlotIsScheduled b trace.net (plan_batches trace) cores

abbrev pub NoPlanHasABadLine : Type 0
NoPlanHasABadLine = (b : ℕ) (trace : TraceContent) (cores : SlotCores) → IsPlan b trace cores → HasNoBadLine trace.net b (plan_text cores b trace) (plan_lines cores b trace)
