use Rattle.slot_batches.proofs.FreePlaces.{takes_lowest_free}
use Rattle.slot_batches.proofs.laws.each_item_takes_its_lowest_free_places.Goals as goal

pub returns : goal.returns
returns c = takes_lowest_free
