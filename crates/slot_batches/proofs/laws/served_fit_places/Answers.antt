use Rattle.slot_batches.proofs.RoomLemmas.{served_fit_places}
use Rattle.slot_batches.proofs.laws.served_fit_places.Goals as goal

pub returns : goal.returns
returns c = served_fit_places
