use Rattle.std.proofs.Common.{◌≡◌, All, length}
use Rattle.greedy_rules.specs.Matching.{IsMatching}
use Rattle.paths_rows.proofs.tests.path_workers_rows.random.fill_slots.Given as goal

abbrev pub invariant-loop-slot : goal.invariant-loop-slot
invariant-loop-slot g l = All IsMatching l.slots.slots × (length l.slots.slots ≡ length l.fn.slots.slots)
