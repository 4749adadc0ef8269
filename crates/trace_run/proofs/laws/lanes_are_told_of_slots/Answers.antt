-- What the lanes are told.
use Rattle.trace_run.proofs.Allocations.{one_flow_more, a_flow_without_slots, a_batch_more, needs_are_owed, allocation_is_pending}
use Rattle.trace_run.proofs.laws.lanes_are_told_of_slots.Goals as goal

pub returns : goal.returns
returns c =
    let s = c.schedules_hold.ensures in
    let ledger = c.ledger_and_rest_agree.ensures in
    record { flow = one_flow_more s; none = a_flow_without_slots s; batch = a_batch_more; needs = needs_are_owed ledger.owed; pending = allocation_is_pending ledger.published }
