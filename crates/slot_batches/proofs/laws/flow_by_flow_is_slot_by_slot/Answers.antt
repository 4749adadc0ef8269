use Rattle.slot_batches.proofs.SlotExchange.{slot_by_slot}
use Rattle.slot_batches.proofs.laws.flow_by_flow_is_slot_by_slot.Goals as goal

pub returns : goal.returns
returns c = slot_by_slot
