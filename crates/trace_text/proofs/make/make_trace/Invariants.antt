use Rattle.std.proofs.Common.{◌≡◌, []}
use Rattle.clos_topology.specs.Network.{endpoints_of}
use Rattle.trace_text.specs.Made.{made_asks, made_losses, state_before}
use Rattle.trace_text.proofs.make.make_trace.Given as goal

abbrev pub invariant-loop-round : goal.invariant-loop-round
invariant-loop-round l = record {
  asks : l.asks.items ≡ made_asks l.number (endpoints_of l.net) l.round;
  fates : l.events.fates.items ≡ made_losses l.number (endpoints_of l.net) l.round;
  boots : l.events.boots.items ≡ [];
  raws : l.events.raws.items ≡ [];
  bytes : l.events.bytes.items ≡ [];
  state : l.draws.state ≡ state_before l.number (endpoints_of l.net) l.round;
}
