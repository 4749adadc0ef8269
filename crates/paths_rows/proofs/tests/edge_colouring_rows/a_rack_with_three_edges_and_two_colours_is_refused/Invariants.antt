use Rattle.std.proofs.Common.{◌≡◌}
use Rattle.paths_rows.proofs.tests.edge_colouring_rows.a_rack_with_three_edges_and_two_colours_is_refused.Given as goal

abbrev pub invariant-loop-packets : goal.invariant-loop-packets
invariant-loop-packets g l = l.table.net ≡ l.net
