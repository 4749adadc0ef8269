-- Both ends.
use Rattle.own_texts.proofs.laws.ends_hold.Goals as goal

pub returns : goal.returns
returns c = record {
  order = c.rounds_are_calls.ensures.order;
  few = c.counts_are_bounded.ensures.taken;
  taking = c.agents_count_slots.ensures.taking;
  asks = c.agents_count_slots.ensures.asked;
  begins = c.ledger_and_demand_list_agree.ensures.begins;
}
