use Rattle.std.proofs.Common.{take}
use Rattle.arbiter_lane.specs.Lines.{Become, LosesSlots}
use Rattle.arbiter_lane.specs.Parts.{RisenAreMarked}
use Rattle.endpoint_history.specs.Packets.{slots_to}
use Rattle.arbiter_lane.proofs.flows.lose.Given as goal

abbrev pub invariant-loop-slot : goal.invariant-loop-slot
invariant-loop-slot l = record {
  lost : Become (λ dst. LosesSlots (slots_to dst (take l.slot-index l.told))) l.fn.lines l.lines;
  marked : RisenAreMarked l.fn.risen l.fn.lines → RisenAreMarked l.risen l.lines;
}
