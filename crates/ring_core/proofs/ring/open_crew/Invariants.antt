use Rattle.std.proofs.Common.{◌≡◌, length, All}
use Rattle.ring_core.specs.Cores.{AreCrewed}
use Rattle.ring_core.proofs.ring.open_crew.Given as goal

abbrev pub invariant-loop-number : goal.invariant-loop-number
invariant-loop-number l = record {
  count : length l.crew.items ≡ l.number;
  none : All (λ worker. All (λ stage. stage.nodes ≡ 0) worker.stages) l.crew.items;
  each : AreCrewed l.workers l.endpoints l.batches l.b l.crew.items;
}
