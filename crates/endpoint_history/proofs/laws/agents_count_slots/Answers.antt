-- An agent alone.
use Rattle.endpoint_history.proofs.AgentSlots.{taking_brings_slots, sends_are_asked}
use Rattle.endpoint_history.proofs.TakenOnce.{sent_was_taken}
use Rattle.endpoint_history.proofs.laws.agents_count_slots.Goals as goal

pub returns : goal.returns
returns c = record { taking = taking_brings_slots; asked = sends_are_asked; taken = sent_was_taken }
