use Rattle.clos_topology.specs.Network.{endpoints_of}
use Rattle.clos_topology.specs.NetSlots.{limits_of}
use Rattle.plan_rounds.specs.Batches.{plan_batches}
use Rattle.window_engine.proofs.PlanCounts.{plan_balances}
use Rattle.window_engine.proofs.laws.every_plan_balances.Goals as goal

pub returns : goal.returns
returns c b trace sound =
    let recorded = (c.every_plan_is_recorded.ensures trace sound).0 in
    let applicable = c.recorded_batches_may_be_applied.ensures.all (endpoints_of trace.net) b (limits_of trace.net) (plan_batches trace) recorded in
    plan_balances b trace c.every_schedule_balances.ensures.balance c.every_plan_adds_what_is_asked.ensures sound applicable.in_order
