use Rattle.std.proofs.Common.{◌≡◌, ◌++◌}
use Rattle.crossbeam_queue.specs.Passes.{view, IsPassOf}
use Rattle.path_workers.specs.Jobs.{hand, slot_jobs, end_jobs}
use Rattle.path_workers.proofs.jobs.put_all.Given as goal

abbrev pub invariant-loop-slot : goal.invariant-loop-slot
invariant-loop-slot g l = record {
  queue : IsPassOf l.queue l.pass;
  put : view l.pass ≡ hand (view l.fn.pass).parts ((view l.fn.pass).put ++ slot_jobs l.slot) (view l.fn.pass).taken;
}

abbrev pub invariant-loop-worker : goal.invariant-loop-worker
invariant-loop-worker g l = record {
  queue : IsPassOf l.queue l.pass;
  put : view l.pass ≡ hand (view l.fn.pass).parts ((view l.fn.pass).put ++ slot_jobs l.slots ++ end_jobs l.worker) (view l.fn.pass).taken;
}
