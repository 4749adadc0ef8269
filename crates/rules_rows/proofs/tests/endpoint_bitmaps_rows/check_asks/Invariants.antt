use Rattle.std.proofs.Common.{◌≡◌}
use Rattle.rules_rows.proofs.tests.endpoint_bitmaps_rows.check_asks.Given as goal

abbrev pub invariant-loop-ask : goal.invariant-loop-ask
invariant-loop-ask g l = l.maps.endpoints ≡ 4
