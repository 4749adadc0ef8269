use Rattle.std.proofs.Common.{◌≡◌, ◌++◌}
use Rattle.std.specs.Prelude.{vec_capacity}
use Rattle.window_allocation.specs.Logged.{places_of_bits}
use Rattle.window_allocation.proofs.item_log.note_word.Given as goal

abbrev pub invariant-loop-rest : goal.invariant-loop-rest
invariant-loop-rest l = record {
  noted : l.places.items ++ places_of_bits l.items l.from l.rest ≡ l.fn.places.items ++ places_of_bits l.items l.from l.word;
  capacity : vec_capacity l.places ≡ vec_capacity l.fn.places;
}

abbrev pub decreases-loop-rest : goal.decreases-loop-rest
decreases-loop-rest l = l.rest
