use Rattle.edge_colouring.proofs.LimitLemmas.{limits_are_degrees}
use Rattle.edge_colouring.proofs.laws.limits_are_degrees.Goals as goal

pub returns : goal.returns
returns c = limits_are_degrees
