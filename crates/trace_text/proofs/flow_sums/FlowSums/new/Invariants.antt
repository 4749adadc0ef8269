use Rattle.std.proofs.Common.{◌≡◌, ◌<◌, ℕ, length, get_or, false}
use Rattle.line_marks.specs.Places.{is_marked}
use Rattle.trace_text.specs.FlowSums.{unmarked}
use Rattle.trace_text.proofs.flow_sums.FlowSums.new.Given as goal

abbrev pub invariant-loop : goal.invariant-loop
invariant-loop l = record {
  long : length l.destinations.items ≡ l.counter;
  none : (src dst : ℕ) → src < l.counter → is_marked (get_or l.destinations.items src unmarked) dst ≡ false;
}
