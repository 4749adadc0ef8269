-- Slots and totals agree.
use Rattle.endpoint_history.proofs.Slots.{slots_agree}
use Rattle.endpoint_history.proofs.Totals.{totals_agree}
use Rattle.endpoint_history.proofs.laws.slots_agree.Goals as goal

pub returns : goal.returns
returns c = record {
  slots = slots_agree c.windows_hold.ensures;
  totals = totals_agree c.windows_hold.ensures;
}
