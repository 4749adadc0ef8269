use Rattle.std.proofs.Common.{◌≡◌, ◌*◌}
use Rattle.std.specs.Prelude.{vec_capacity}
use Rattle.window_allocation.specs.Logged.{busy_places}
use Rattle.window_allocation.proofs.item_log.note_busy.Given as goal

abbrev pub invariant-loop-at : goal.invariant-loop-at
invariant-loop-at l = record {
  noted : l.places.items ≡ busy_places l.items l.words (l.at * 64);
  capacity : vec_capacity l.places ≡ vec_capacity l.fn.places;
}
