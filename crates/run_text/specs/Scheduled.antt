-- What is told of the cores of a plan: that each slot is a matching that no waiting demand could join, on paths that share no
-- link (the SIGCOMM 2014 Fastpass paper), and what was written with them.
use Rattle.std.specs.Prelude.{ℕ}
use Rattle.greedy_rules.specs.Schedule.{first_slot}
use Rattle.clos_topology.specs.NetSlots.{SlotCores}
use Rattle.trace_text.specs.Trace.{TraceContent}
use Rattle.window_engine.specs.Batches.{plan_batches}
use Rattle.window_engine.specs.Scheduled.{EverySlotIsScheduled, AreClean}
use Rattle.window_engine.specs.Standing.{EngineState, engine_window}
use Rattle.window_engine.specs.Step.{window_slots}

-- with some cores every slot of the trace's schedule is so, and what is told of them holds
abbrev pub WithCores : ℕ → TraceContent → (SlotCores → Type 0) → Type 0
WithCores b trace holds = (cores : SlotCores) × EverySlotIsScheduled b trace.net (plan_batches trace) cores × holds cores

-- some cores make the slots of so many batches from this one on clean, and what is told of them holds
abbrev pub WithCoresOfWindow : ℕ → ℕ → ℕ → TraceContent → (SlotCores → Type 0) → Type 0
WithCoresOfWindow b first count trace holds = (cores : SlotCores) × AreClean trace.net cores (first_slot b first) (window_slots b (plan_batches trace) first count) × holds cores

-- the same of the window that an engine plans next
abbrev pub WithCoresOfNext : ℕ → TraceContent → EngineState → (SlotCores → Type 0) → Type 0
WithCoresOfNext b trace engine holds = WithCoresOfWindow b engine.collected (engine_window engine) trace holds
