use Rattle.std.proofs.Common.{◌≡◌, ◌+◌, ◌*◌, min, length}
use Rattle.crossbeam_queue.specs.Passes.{view, IsPassOf}
use Rattle.alloc_pipeline.specs.Rules.{giving}
use Rattle.alloc_pipeline.proofs.ends.give_list.Given as goal

abbrev pub invariant-loop-place : goal.invariant-loop-place
invariant-loop-place g l = record {
  queue : IsPassOf l.queue l.pass;
  given : view l.pass ≡ giving (view l.fn.pass).window l.place (view l.fn.pass).moved;
  nodes : length l.spare + min (l.place * 64) (length l.list.items) ≡ length l.fn.spare;
}
