use Rattle.std.proofs.Common.{◌≡◌, List, All}
use Rattle.greedy_rules.specs.declared.flows.Flow.{Flow}
use Rattle.clos_topology.specs.Network.{Network}
use Rattle.path_workers.specs.CoreTable.{HasRoomOf}
use Rattle.path_workers.specs.Painters.{MayPaint}
use Rattle.path_workers.proofs.GatherLemmas.{HaveGiven}
use Rattle.path_workers.proofs.paths.gather.Given as goal

abbrev pub invariant-loop-painter : goal.invariant-loop-painter
invariant-loop-painter l = record {
  given : (net : Network) (table : List (List Flow)) → All (MayPaint table) l.painters → All (λ painter. painter.net ≡ net) l.painters → HaveGiven net table l.painters l.painter-index l.out;
  room : HasRoomOf l.fn.out l.out;
}
