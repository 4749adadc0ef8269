use Rattle.std.proofs.Common.{◌≡◌, ◌++◌}
use Rattle.takeover_core.specs.Entries.{entries_row, AreBelowFlow}
use Rattle.takeover_core.proofs.entries.push_rises.Given as goal

abbrev pub invariant-loop-dst : goal.invariant-loop-dst
invariant-loop-dst l = record {
  entries : l.batch.entries ≡ l.initial.batch.entries ++ entries_row l.told l.published l.src l.dst;
  above : AreBelowFlow l.batch.entries l.src l.dst;
  limits : l.batch.limits ≡ l.initial.batch.limits;
}
