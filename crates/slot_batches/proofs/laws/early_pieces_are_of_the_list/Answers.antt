use Rattle.slot_batches.proofs.StandsLemmas.{settled_stay, early_pieces}
use Rattle.slot_batches.proofs.PieceLemmas.{ended_lists}
use Rattle.slot_batches.proofs.laws.early_pieces_are_of_the_list.Goals as goal

pub returns-clause-settled : goal.returns-clause-settled
returns-clause-settled c = settled_stay

pub returns-clause-pieces : goal.returns-clause-pieces
returns-clause-pieces c = early_pieces

pub returns-clause-ended : goal.returns-clause-ended
returns-clause-ended c = ended_lists
