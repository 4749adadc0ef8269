use Rattle.std.proofs.Common.{◌≡◌, ◌≤◌, ℕ, All}
use Rattle.greedy_rules.specs.Batches.{IsAboveLast}
use Rattle.rules_rows.specs.Asks.{OpensOneSlot}
use Rattle.rules_rows.proofs.tests.ring_core_rows.asks.Given as goal

abbrev pub invariant-loop-src : goal.invariant-loop-src
invariant-loop-src l = record {
  opens : All OpensOneSlot l.batch.entries;
  above : (src : ℕ) → l.src ≤ src → IsAboveLast l.batch.entries (record { src = src; dst = 0 });
  limits : l.batch.limits ≡ record { hosts = 44; cores = 44 };
}
