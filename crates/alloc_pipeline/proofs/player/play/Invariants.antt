use Rattle.std.proofs.Common.{◌≡◌, false}
use Rattle.crossbeam_queue.specs.Passes.{view, IsPassOf}
use Rattle.ring_core.specs.Workers.{Plays, IsSameWorker}
use Rattle.alloc_pipeline.specs.declared.parcel.Kind.TheVariants.{Giving, Taking}
use Rattle.alloc_pipeline.specs.Rules.{into_of}
use Rattle.alloc_pipeline.proofs.player.play.Given as goal

abbrev pub invariant-loop : goal.invariant-loop
invariant-loop g l = record {
  before : IsPassOf l.link.before.now l.link.taking;
  after : IsPassOf l.link.after.now l.link.giving;
  taking : (view l.link.taking).kind ≡ Taking;
  giving : (view l.link.giving).kind ≡ Giving;
  plays : Plays l.batches (record { before = into_of (view l.link.taking).window; after = into_of (view l.link.giving).window; taken = (view l.link.taking).position; sent = (view l.link.giving).position }) l.worker;
  taking_id : l.link.taking.table_id ≡ l.fn.player.taking.table_id;
  giving_id : l.link.giving.table_id ≡ l.fn.player.giving.table_id;
  taking_in : (view l.link.taking).window ≡ (view l.fn.player.taking).window;
  giving_in : (view l.link.giving).window ≡ (view l.fn.player.giving).window;
  moved : (view l.link.giving).moved ≡ (view l.fn.player.giving).moved;
  worker : IsSameWorker l.fn.player.worker l.worker;
  ended : l.ended ≡ false;
}
