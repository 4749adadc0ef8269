use Rattle.ring_core.specs.Cores.{IsPlaying, IsSameRing}
use Rattle.rules_rows.proofs.tests.ring_core_rows.plays_in_order.Given as goal

abbrev pub invariant-loop : goal.invariant-loop
invariant-loop g l = record {
  playing : IsPlaying l.batches.items l.core;
  same : IsSameRing l.initial.core l.core;
}
