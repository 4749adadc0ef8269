use Rattle.edge_colouring.proofs.CleanLemmas.{makes_clean}
use Rattle.edge_colouring.proofs.laws.every_colouring_makes_a_matching_clean.Goals as goal

pub returns : goal.returns
returns c = makes_clean
