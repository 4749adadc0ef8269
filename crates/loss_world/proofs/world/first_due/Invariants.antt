use Rattle.std.proofs.Common.{◌≡◌, [], take}
use Rattle.loss_world.specs.InTransit.{due_in}
use Rattle.loss_world.proofs.world.first_due.Given as goal

abbrev pub invariant-loop-at : goal.invariant-loop-at
invariant-loop-at l = due_in (take l.at l.flights) l.round ≡ []
