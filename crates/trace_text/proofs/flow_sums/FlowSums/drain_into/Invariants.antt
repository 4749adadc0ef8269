use Rattle.std.proofs.Common.{◌≡◌, ◌≤◌, ◌<◌, ◌+◌, ◌-◌, ℕ, get_or, sum_by, All}
use Rattle.trace_text.specs.Asks.{slots_asked, IsAmong}
use Rattle.trace_text.specs.FlowSums.{held_sum, IsTidy, HoldsAmong}
use Rattle.trace_text.proofs.flow_sums.FlowSums.drain_into.Given as goal

abbrev pub invariant-loop-flow : goal.invariant-loop-flow
invariant-loop-flow l = record {
  tidy : IsTidy l.self;
  most : l.flow ≤ 65536;
  some : l.flow < 65536 → 0 < get_or l.self.slots.items l.flow 0;
  done : (other : ℕ) → other < l.flow → get_or l.self.slots.items other 0 ≡ 0;
  among : (endpoints : ℕ) → All (IsAmong endpoints) l.initial.summed.items → HoldsAmong endpoints l.initial.self → All (IsAmong endpoints) l.summed.items × HoldsAmong endpoints l.self;
  sums : (round src dst : ℕ) → sum_by (slots_asked round src dst) l.summed.items + held_sum l.self round src dst ≡ sum_by (slots_asked round src dst) l.initial.summed.items + held_sum l.initial.self round src dst;
}

abbrev pub decreases-loop-flow : goal.decreases-loop-flow
decreases-loop-flow l = 65536 - l.flow
