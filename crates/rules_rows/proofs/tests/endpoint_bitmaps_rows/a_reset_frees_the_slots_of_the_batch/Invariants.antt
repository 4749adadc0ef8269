use Rattle.std.proofs.Common.{◌≡◌}
use Rattle.rules_rows.proofs.tests.endpoint_bitmaps_rows.a_reset_frees_the_slots_of_the_batch.Given as goal

abbrev pub invariant-loop-b : goal.invariant-loop-b
invariant-loop-b g l = l.maps.endpoints ≡ 2
