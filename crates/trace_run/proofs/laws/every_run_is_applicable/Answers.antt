-- Batch after batch.
use Rattle.trace_run.specs.Applicable.{EveryRunIsApplicable}
use Rattle.trace_run.proofs.Allocations.{every_slot_is_of_the_run}
use Rattle.trace_run.proofs.Applicable.{every_run_is_applicable}
use Rattle.trace_run.proofs.laws.every_run_is_applicable.Goals as goal

pub returns : goal.returns
returns c =
    let applicable : EveryRunIsApplicable = every_run_is_applicable c.schedules_hold.ensures in
    record { batches = applicable; slots = every_slot_is_of_the_run c.every_slot_is_in_range.ensures applicable }
