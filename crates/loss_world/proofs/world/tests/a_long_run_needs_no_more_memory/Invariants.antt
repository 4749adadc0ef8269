use Rattle.std.proofs.Common.{length}
use Rattle.loss_world.specs.InTransit.{due_in}
use Rattle.loss_world.proofs.world.tests.a_long_run_needs_no_more_memory.Given as goal

abbrev pub decreases-loop-given : goal.decreases-loop-given
decreases-loop-given g l = length (due_in l.world.flights l.round)
