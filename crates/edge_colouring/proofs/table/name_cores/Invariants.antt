use Rattle.edge_colouring.proofs.TableLemmas.{AreNamedUpTo}
use Rattle.edge_colouring.proofs.table.name_cores.Given as goal

abbrev pub invariant-loop-at : goal.invariant-loop-at
invariant-loop-at l = AreNamedUpTo l.graph.edges l.colours l.cores l.at
