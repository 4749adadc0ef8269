use Rattle.std.proofs.Common.{◌≡◌, ◌≤◌, ◌<◌, ◌+◌, ◌*◌, ◌-◌, ℕ, get_or}
use Rattle.trace_text.proofs.flow_sums.FlowSums.next_from.Given as goal

abbrev pub invariant-loop-src : goal.invariant-loop-src
invariant-loop-src l = record {
  most : l.src ≤ 256;
  inside : l.from < 256;
  after : l.flow ≤ l.src * 256 + l.from;
  none : (other : ℕ) → l.flow ≤ other → other < l.src * 256 + l.from → get_or l.self.slots.items other 0 ≡ 0;
}

abbrev pub decreases-loop-src : goal.decreases-loop-src
decreases-loop-src l = 256 - l.src
