use Rattle.std.proofs.Common.{ℕ, ◌<◌, ◌≤◌, length}
use Rattle.trace_text.specs.Trace.{puts_at}
use Rattle.receive_text.proofs.receive.most_put.Given as goal

abbrev pub invariant-loop-endpoint : goal.invariant-loop-endpoint
invariant-loop-endpoint l = record {
  some : 1 ≤ l.most;
  most : l.most ≤ 1024;
  all : (endpoint : ℕ) → endpoint < l.endpoint → length (puts_at l.trace endpoint) ≤ l.most;
}
