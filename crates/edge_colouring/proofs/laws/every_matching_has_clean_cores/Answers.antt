use Rattle.edge_colouring.proofs.ExistenceLemmas.{has_clean_cores}
use Rattle.edge_colouring.proofs.laws.every_matching_has_clean_cores.Goals as goal

pub returns : goal.returns
returns c = has_clean_cores
