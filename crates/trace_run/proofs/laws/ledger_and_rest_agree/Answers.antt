-- The ledger and the demand list.
use Rattle.trace_run.specs.Rest.{OwedIsAllocatedOrLeft}
use Rattle.trace_run.proofs.Counts.{adds_are_demanded_and_lost}
use Rattle.trace_run.proofs.Rest.{owed_is_allocated_or_left, published_is_pending}
use Rattle.trace_run.proofs.laws.ledger_and_rest_agree.Goals as goal

pub returns : goal.returns
returns c =
    let s = c.schedules_hold.ensures in
    let owed_is : OwedIsAllocatedOrLeft = owed_is_allocated_or_left s c.ends_hold.ensures in
    record { owed = owed_is; published = published_is_pending s owed_is; adds = adds_are_demanded_and_lost c.ends_hold.ensures c.every_run_is_applicable.ensures.batches }
