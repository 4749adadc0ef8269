use Rattle.std.proofs.Common.{◌≡◌, length, All}
use Rattle.greedy_rules.specs.Matching.{IsMatching}
use Rattle.paths_rows.proofs.tests.path_workers_rows.taken.table.Given as goal

abbrev pub invariant-loop-slot : goal.invariant-loop-slot
invariant-loop-slot g l = record { matchings : All IsMatching l.slots.slots; count : length l.slots.slots ≡ 24 }
