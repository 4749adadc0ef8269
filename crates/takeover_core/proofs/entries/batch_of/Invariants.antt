use Rattle.std.proofs.Common.{◌≡◌}
use Rattle.std.specs.List.{flat_map, range_with_len}
use Rattle.takeover_core.specs.Entries.{entries_row, AreBelowFlow}
use Rattle.takeover_core.proofs.entries.batch_of.Given as goal

abbrev pub invariant-loop-src : goal.invariant-loop-src
invariant-loop-src l = record {
  entries : l.batch.entries ≡ flat_map (λ s. entries_row l.told l.published s l.endpoints) (range_with_len 0 l.src);
  above : AreBelowFlow l.batch.entries l.src 0;
  limits : l.batch.limits ≡ record { hosts = l.endpoints; cores = 1 };
}
