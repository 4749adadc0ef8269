-- A worker with its passes (this project's own profile).
use Rattle.std.specs.Prelude.{◌≡◌, List, []}
use Rattle.crossbeam_queue.specs.Passes.{view}
use Rattle.greedy_rules.specs.Batches.{DemandBatch}
use Rattle.ring_core.specs.Ends.{WorkerEnds}
use Rattle.ring_core.specs.Workers.{Plays, IsSameWorker}
use Rattle.alloc_pipeline.specs.declared.parcel.Kind.TheVariants.{Giving, Taking}
use Rattle.alloc_pipeline.specs.declared.player.Player.{Player}
use Rattle.alloc_pipeline.specs.Rules.{into_of}

abbrev pub ends_of : Player → WorkerEnds
ends_of s = record { before = into_of (view s.taking).window; after = into_of (view s.giving).window; taken = (view s.taking).position; sent = (view s.giving).position }

pub record PlaysAt (batches : List DemandBatch) (s : Player) : Type 0 where
  pub taking : (view s.taking).kind ≡ Taking
  pub giving : (view s.giving).kind ≡ Giving
  pub none_taking : s.taking.me.1 ≡ []
  pub none_giving : s.giving.me.1 ≡ []
  pub plays : Plays batches (ends_of s) s.worker

-- the passes are those of the same queues, in the same window
pub record Follows (s r : Player) : Type 0 where
  pub number : r.number ≡ s.number
  pub taking_id : r.taking.table_id ≡ s.taking.table_id
  pub giving_id : r.giving.table_id ≡ s.giving.table_id
  pub taking_in : (view r.taking).window ≡ (view s.taking).window
  pub giving_in : (view r.giving).window ≡ (view s.giving).window
  pub moved : (view r.giving).moved ≡ (view s.giving).moved
  pub worker : IsSameWorker s.worker r.worker
