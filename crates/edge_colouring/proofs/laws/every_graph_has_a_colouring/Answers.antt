use Rattle.edge_colouring.proofs.ExistenceLemmas.{has_a_colouring}
use Rattle.edge_colouring.proofs.laws.every_graph_has_a_colouring.Goals as goal

pub returns : goal.returns
returns c = has_a_colouring
