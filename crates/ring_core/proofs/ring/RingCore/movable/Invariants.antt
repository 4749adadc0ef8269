use Rattle.std.proofs.Common.{◌<◌}
use Rattle.ring_core.proofs.MoveLemmas.{IsLeast}
use Rattle.ring_core.proofs.ring.RingCore.movable.Given as goal

abbrev pub invariant-loop-number : goal.invariant-loop-number
invariant-loop-number l = record {
  within : l.least < l.self.workers;
  least : IsLeast l.self.crew l.least l.number;
}
