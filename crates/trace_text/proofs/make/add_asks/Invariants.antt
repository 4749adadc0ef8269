use Rattle.std.proofs.Common.{◌≡◌, ◌*◌, ◌++◌, map}
use Rattle.std.specs.List.{range_with_len}
use Rattle.trace_text.specs.Made.{made_ask, state_after}
use Rattle.trace_text.proofs.make.add_asks.Given as goal

abbrev pub invariant-loop : goal.invariant-loop
invariant-loop l = record {
  asks : l.asks.items ≡ l.fn.asks.items ++ map (λ ask. made_ask l.endpoints l.round (state_after (ask * 3) l.fn.draws.state)) (range_with_len 0 l.counter);
  state : l.draws.state ≡ state_after (l.counter * 3) l.fn.draws.state;
}
