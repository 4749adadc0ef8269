-- Schedules.
use Rattle.own_texts.proofs.laws.slots_hold.Goals as goal

pub returns : goal.returns
returns c =
    let goes = c.schedules_go_on.ensures in
    record {
      schedules = record {
        more = goes.more;
        count = goes.count;
        each = goes.each;
        balances = c.every_batch_balances.ensures;
        listed = c.every_schedule_balances.ensures.listed;
        flows = c.every_slots_flows_are_of_entries.ensures.slots;
      };
      fronts = goes.front;
      in_range = c.every_slot_is_in_range.ensures;
      since = c.counts_begin_at_the_last_clear.ensures;
    }
