-- What a plan by need comes to (this project's own profile).
use Rattle.std.specs.Prelude.{◌≡◌, ℕ, List, All, Some, Ok}
use Rattle.greedy_rules.specs.Examples.{remaining}
use Rattle.clos_topology.specs.NetSlots.{SlotCores}
use Rattle.trace_text.specs.declared.command.Command.TheVariants.{Plan}
use Rattle.trace_text.specs.Trace.{TraceContent, trace_of}
use Rattle.window_engine.specs.Batches.{plan_batches}
use Rattle.run_text.specs.Ledger.{IsBalanced}
use Rattle.run_text.specs.declared.sizes.Sizes.{Sizes}
use Rattle.fewest_plan.specs.Barred.{NoneThatNeedsMoreBarsIn}
use Rattle.fewest_plan.specs.Counts.{AllIsAllocatedOrPendingBy}
use Rattle.fewest_plan.specs.Scheduled.{EverySlotIsScheduledBy}
use Rattle.fewest_plan.specs.Text.{fewest_lines, fewest_text}
use Rattle.fastpass_run.specs.Outside.{Outside, Growth}
use Rattle.fastpass_run.specs.Rows.{IsReadAs}
use Rattle.fastpass_run.specs.Words.{asked_by_words}
use Rattle.fastpass_run.specs.Words.Asked.{plans_by_need}

-- The output grew by the plan of a trace in which the flow that needs the fewest slots goes first, with cores that make each slot of
-- that schedule clean.
pub record PlansByNeed (grew : Growth) (words : List (List ℕ)) (old new : Outside) : Type 0 where
  pub sizes : Sizes
  pub accepted : asked_by_words words ≡ Some (plans_by_need sizes)
  pub trace : TraceContent
  pub read : IsReadAs (λ bytes. trace_of Plan bytes ≡ Ok trace) old new
  pub cores : SlotCores
  pub written : grew old.sink.held new.sink.held (fewest_text cores sizes.b trace)
  -- each slot is a matching that no waiting demand could join, on paths that share no link
  pub slots : EverySlotIsScheduledBy remaining sizes.b trace.net (plan_batches trace) cores
  -- what keeps a waiting flow out of a slot needed no more as the batch began
  pub barred : NoneThatNeedsMoreBarsIn sizes.b (plan_batches trace)
  -- each flow's demand is allocated or pending, in the schedule and in its `flow` line
  pub ledger : AllIsAllocatedOrPendingBy remaining sizes.b (plan_batches trace)
  pub balanced : All IsBalanced (fewest_lines cores sizes.b trace)
