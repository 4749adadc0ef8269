use Rattle.std.proofs.Common.{map, take}
use Rattle.arbiter_lane.specs.Lines.{Become, DecidesSlots, slots_shown, slots_lost}
use Rattle.arbiter_lane.specs.Parts.{RisenAreMarked}
use Rattle.arbiter_lane.specs.Places.{decided_with}
use Rattle.arbiter_lane.proofs.flows.decide.Given as goal

abbrev pub invariant-loop-number : goal.invariant-loop-number
invariant-loop-number l = record {
  decided : Become (λ dst. DecidesSlots (slots_shown (take l.number-index (map (decided_with l.places) l.found)) dst) (slots_lost (take l.number-index (map (decided_with l.places) l.found)) dst)) l.fn.lines l.lines;
  marked : RisenAreMarked l.fn.risen l.fn.lines → RisenAreMarked l.risen l.lines;
}
