use Rattle.arbiter_lane.proofs.Sufficing.{conditions_suffice}
use Rattle.arbiter_lane.proofs.laws.conditions_suffice.Goals as goal

pub returns : goal.returns
returns c = conditions_suffice c.lanes_count_slots.ensures.making c.lanes_count_slots.ensures.sums c.the_ledger_holds.ensures.within
