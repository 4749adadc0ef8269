use Rattle.crossbeam_queue.specs.Passes.{view, IsPassOf}
use Rattle.path_workers.proofs.PlayLemmas.{IsPlaying}
use Rattle.path_workers.proofs.seats.finish.Given as goal

abbrev pub invariant-loop : goal.invariant-loop
invariant-loop g l = record {
  queue : IsPassOf l.queue l.pass;
  playing : IsPlaying l.slots.slots (view l.fn.pass) l.fn.painter (view l.pass) l.painter;
}
