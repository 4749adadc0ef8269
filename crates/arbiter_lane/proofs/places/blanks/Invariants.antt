use Rattle.std.proofs.Common.{◌≡◌, length}
use Rattle.arbiter_lane.proofs.places.blanks.Given as goal

abbrev pub invariant-loop : goal.invariant-loop
invariant-loop l = length l.tellings.items ≡ l.counter
