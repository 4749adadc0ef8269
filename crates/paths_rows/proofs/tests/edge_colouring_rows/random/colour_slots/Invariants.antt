use Rattle.std.proofs.Common.{◌≡◌, ◌≤◌}
use Rattle.clos_topology.specs.Network.{endpoints_of}
use Rattle.paths_rows.proofs.tests.edge_colouring_rows.random.colour_slots.Given as goal

abbrev pub invariant-loop : goal.invariant-loop
invariant-loop g l = (l.table.net ≡ l.net) × (endpoints_of l.net ≤ l.graph.room)
