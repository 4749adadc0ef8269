-- Schedules.
use Rattle.trace_run.proofs.laws.schedules_hold.Goals as goal

pub returns : goal.returns
returns c =
    let goes = c.schedules_go_on.ensures in
    record {
      more = goes.more;
      count = goes.count;
      each = goes.each;
      balances = c.every_batch_balances.ensures;
      listed = c.every_schedule_balances.ensures.listed;
      flows = c.every_slots_flows_are_of_entries.ensures.slots;
    }
