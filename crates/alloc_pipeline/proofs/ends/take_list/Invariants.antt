use Rattle.std.proofs.Common.{◌≡◌, ◌+◌, length}
use Rattle.crossbeam_queue.specs.Passes.{view, IsPassOf}
use Rattle.alloc_pipeline.specs.declared.parcel.Kind.TheVariants.{Taking}
use Rattle.alloc_pipeline.proofs.ListEnds.{HasTakenOf}
use Rattle.alloc_pipeline.proofs.ends.take_list.Given as goal

abbrev pub invariant-loop : goal.invariant-loop
invariant-loop g l = record {
  queue : IsPassOf l.queue l.pass;
  kind : (view l.pass).kind ≡ Taking;
  window : (view l.pass).window ≡ (view l.fn.pass).window;
  taken : HasTakenOf (view l.fn.pass).window (view l.fn.pass).position l.fn.list.items (view l.pass).position l.list.items;
  spare : length l.list.items + l.list.spare ≡ length l.fn.list.items + l.fn.list.spare;
  nodes : length l.spare + length l.fn.list.items ≡ length l.fn.spare + length l.list.items;
}
