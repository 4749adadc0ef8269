use Rattle.std.proofs.Common.{◌≡◌, length, drop}
use Rattle.endpoint_bitmaps.specs.Noted.{AreEnds}
use Rattle.endpoint_bitmaps.proofs.noted_flows.give_back.Given as goal

abbrev pub invariant-loop-flow : goal.invariant-loop-flow
invariant-loop-flow l = record {
  senders : length l.senders ≡ length l.fn.senders;
  receivers : length l.receivers ≡ length l.fn.receivers;
  ends : AreEnds l.free (drop l.flow-index l.flows) l.senders l.receivers;
}
