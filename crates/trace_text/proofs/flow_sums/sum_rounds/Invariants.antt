use Rattle.std.proofs.Common.{◌≡◌, ◌+◌, ℕ, take, sum_by, All}
use Rattle.trace_text.specs.Asks.{slots_asked, IsAmong}
use Rattle.trace_text.specs.FlowSums.{held_sum, IsTidy, HoldsAmong}
use Rattle.trace_text.proofs.flow_sums.sum_rounds.Given as goal

abbrev pub invariant-loop-ask : goal.invariant-loop-ask
invariant-loop-ask l = record {
  tidy : IsTidy l.sums;
  among : (endpoints : ℕ) → All (IsAmong endpoints) l.asks → All (IsAmong endpoints) l.summed.items × HoldsAmong endpoints l.sums;
  sums : (round src dst : ℕ) → sum_by (slots_asked round src dst) l.summed.items + held_sum l.sums round src dst ≡ sum_by (slots_asked round src dst) (take l.ask-index l.asks);
}
