use Rattle.std.proofs.Common.{◌≡◌, ◌≤◌, ◌+◌, ◌-◌, length}
use Rattle.std.specs.Prelude.{vec_capacity}
use Rattle.window_allocation.proofs.Choice.{AreChosen}
use Rattle.window_allocation.proofs.guess.Guess.pick.Given as goal

abbrev pub invariant-loop-at : goal.invariant-loop-at
invariant-loop-at l = record {
  endpoints : l.self.words.endpoints ≡ l.fn.self.words.endpoints;
  within : l.at ≤ length l.list;
  chosen : AreChosen l.marks l.list l.at l.found.items l.places.items;
  same : length l.found.items ≡ length l.places.items;
  room : length l.found.items + l.found.spare ≡ length l.fn.found.items + l.fn.found.spare;
  capacity : vec_capacity l.places ≡ vec_capacity l.fn.places;
}

abbrev pub decreases-loop-at : goal.decreases-loop-at
decreases-loop-at l = length l.list - l.at
