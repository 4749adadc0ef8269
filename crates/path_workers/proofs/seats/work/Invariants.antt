use Rattle.crossbeam_queue.specs.Passes.{view, IsPassOf}
use Rattle.path_workers.proofs.PlayLemmas.{IsPlaying}
use Rattle.path_workers.proofs.seats.work.Given as goal

abbrev pub invariant-loop : goal.invariant-loop
invariant-loop g l = record {
  queue : IsPassOf l.queue l.pass;
  playing : IsPlaying l.slots.slots (view l.fn.seat.pass) l.fn.seat.painter (view l.pass) l.painter;
}
