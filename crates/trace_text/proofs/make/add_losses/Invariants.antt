use Rattle.std.proofs.Common.{◌≡◌, ◌*◌, ◌++◌}
use Rattle.std.specs.List.{flat_map, range_with_len}
use Rattle.trace_text.specs.Made.{losses_of, state_after}
use Rattle.trace_text.proofs.make.add_losses.Given as goal

abbrev pub invariant-loop-endpoint : goal.invariant-loop-endpoint
invariant-loop-endpoint l = record {
  fates : l.fates.items ≡ l.fn.fates.items ++ flat_map (losses_of l.round l.fn.draws.state) (range_with_len 0 l.endpoint);
  state : l.draws.state ≡ state_after (l.endpoint * 2) l.fn.draws.state;
}
