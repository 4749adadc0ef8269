-- Both ends.
use Rattle.trace_run.proofs.laws.ends_hold.Goals as goal

pub returns : goal.returns
returns c =
    let agents = c.agents_count_slots.ensures in
    let calls = c.rounds_are_calls.ensures in
    let counts = c.lanes_count_slots.ensures in
    let ledger = c.the_ledger_holds.ensures in
    let told = c.allocations_are_in_order.ensures in
    record {
      order = calls.order;
      arrive = calls.arrive;
      making = counts.making;
      reading = counts.reading;
      resets = counts.resets;
      sums = counts.sums;
      adds = ledger.adds;
      entries = ledger.entries;
      rest = c.ledger_and_demand_list_agree.ensures.rest;
      taken = agents.taken;
      taking = agents.taking;
      named = c.requests_name_unconfirmed_totals.ensures.named;
      few = c.counts_are_bounded.ensures.taken;
      recorded = c.counts_are_bounded.ensures.recorded;
      issued = told.issued;
      once = told.sent_once;
      harmless = c.no_loss_or_boot_harms.ensures;
    }
