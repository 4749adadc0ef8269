-- The cores that a text shows: texts that are equal, byte for byte, have the same cores on all of their slots (this project's own
-- profile).
use Rattle.std.specs.Prelude.{◌≡◌, ◌<◌, ℕ, List, All}
use Rattle.greedy_rules.specs.declared.flows.Flow.{Flow}
use Rattle.greedy_rules.specs.Schedule.{schedule, slot_at}
use Rattle.clos_topology.specs.NetSlots.{SlotCores}
use Rattle.trace_text.specs.Trace.{TraceContent}
use Rattle.window_engine.specs.Batches.{plan_batches}
use Rattle.run_text.specs.PlanText.{plan_text}
use Rattle.run_text.specs.ReplayScheduled.{replay_batches}
use Rattle.run_text.specs.ReplayText.{replay_text}
use Rattle.own_texts.specs.Plans.{IsPlan}
use Rattle.own_texts.specs.Replays.{IsReplay}

-- the cores are the same for each flow of each of these slots, the first of which has the number 1
abbrev pub AgreeOn : List (List Flow) → SlotCores → SlotCores → Type 0
AgreeOn slots one other = (number : ℕ) → 0 < number → All (λ flow. one number flow.src ≡ other number flow.src) (slot_at slots number)

-- two texts of plans, whatever traces they are made from
abbrev pub EqualPlansHaveTheSameCores : Type 0
EqualPlansHaveTheSameCores =
    (b c : ℕ) (trace other : TraceContent) (cores others : SlotCores) → IsPlan b trace cores → IsPlan c other others
    → plan_text cores b trace ≡ plan_text others c other → AgreeOn (schedule b (plan_batches trace)) cores others

-- and two of replays, whatever their windows
abbrev pub EqualReplaysHaveTheSameCores : Type 0
EqualReplaysHaveTheSameCores =
    (b c g h : ℕ) (trace other : TraceContent) (cores others : SlotCores) → IsReplay b g trace cores → IsReplay c h other others
    → replay_text cores b g trace ≡ replay_text others c h other → AgreeOn (schedule b (replay_batches trace b g cores)) cores others
