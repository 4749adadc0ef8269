-- The workers of a ring with their edges, between windows (this project's own profile).
use Rattle.std.specs.Prelude.{◌≡◌, ◌≤◌, ◌<◌, ℕ, ◌+◌, ◌^◌, List, [], ◌∷◌, length, All, Some, slice_get, vec_capacity}
use Rattle.crossbeam_queue.specs.Passes.{Pass, view, ruled_capacity}
use Rattle.greedy_rules.specs.Batches.{DemandBatch}
use Rattle.greedy_rules.specs.declared.flows.Item.{Item}
use Rattle.greedy_rules.specs.Recorded.{MayBeApplied}
use Rattle.greedy_rules.specs.Schedule.{first_slot}
use Rattle.slot_batches.specs.NextList.{IsListBefore}
use Rattle.ring_core.specs.States.{WorkerState}
use Rattle.ring_core.specs.Ends.{WorkerEnds}
use Rattle.ring_core.specs.Cores.{AreCrewed, pairs_of}
use Rattle.ring_core.specs.Windows.{Window}
use Rattle.ring_core.specs.Workers.{Plays, HasEnded}
use Rattle.alloc_pipeline.specs.declared.crew.Crew.{Crew}
use Rattle.alloc_pipeline.specs.declared.parcel.Parcel.{Parcel}
use Rattle.alloc_pipeline.specs.declared.parcel.View.{View}
use Rattle.alloc_pipeline.specs.Ring.{IsRingSize}
use Rattle.alloc_pipeline.specs.Starts.{AllResting}

-- how many pieces have gone through the edge of each pass
abbrev pub moved_of : List (Pass Parcel View) → List ℕ
moved_of [] = []
moved_of (pass ∷ passes) = (view pass).moved ∷ moved_of passes

-- no worker has a node
abbrev pub HoldNone : List WorkerState → Type 0
HoldNone workers = (number : ℕ) (worker : WorkerState) → slice_get workers number ≡ Some worker → All (λ stage. stage.nodes ≡ 0) worker.stages

-- a ring between two windows
pub record CrewIsReady (crew : Crew) : Type 0 where
  pub sizes : IsRingSize crew.count crew.endpoints crew.batches crew.b
  -- each edge has a queue with room, and a whole pass
  pub queue_count : length crew.queues.items ≡ crew.count
  pub rooms : All (λ queue. ruled_capacity queue ≡ 2040) crew.queues.items
  pub pass_count : length crew.resting.passes.items ≡ crew.count
  pub resting : AllResting crew.queues.items 0 crew.resting.passes.items
  -- and each number a worker, without a node
  pub worker_count : length crew.resting.workers.items ≡ crew.count
  pub workers : AreCrewed crew.count crew.endpoints crew.batches crew.b crew.resting.workers.items
  pub none_held : HoldNone crew.resting.workers.items
  -- all nodes are spare
  pub nodes : length crew.resting.spare ≡ pairs_of crew.endpoints
  -- and there is room for what a window needs
  pub none_play : crew.players.items ≡ []
  pub room_passes : crew.count ≤ vec_capacity crew.resting.passes
  pub room_workers : crew.count ≤ vec_capacity crew.resting.workers
  pub room_players : crew.count ≤ vec_capacity crew.players
  pub room_window : crew.batches ≤ vec_capacity crew.window

-- it may play these batches, the first of this number, over this list
pub record CrewMayPlay (crew : Crew) (first_batch : ℕ) (batches : List DemandBatch) (list : List Item) : Type 0 where
  pub count : length batches ≤ crew.batches
  pub may : MayBeApplied crew.endpoints crew.b first_batch list batches
  pub before : IsListBefore (first_slot crew.b first_batch) list
  pub numbers : first_slot crew.b (first_batch + length batches) ≤ 2 ^ 32
  pub fits : length list ≤ pairs_of crew.endpoints

-- the worker of this number has played the window to its end
pub record HasPlayedOut (window : Window) (worker : WorkerState) : Type 0 where
  pub ends : WorkerEnds
  pub in_window : ends.before.window ≡ window
  pub plays : Plays window.batches ends worker
  pub ended : HasEnded window.batches worker

abbrev pub AllPlayedOut : Window → List WorkerState → Type 0
AllPlayedOut window workers = (number : ℕ) (worker : WorkerState) → slice_get workers number ≡ Some worker → HasPlayedOut window worker

-- all workers of a ring have played the window, of so many stages of b slots each, to its end
pub record HavePlayedOut (endpoints most b stages : ℕ) (window : Window) (workers : List WorkerState) : Type 0 where
  pub some : 0 < window.workers
  pub count : length workers ≡ window.workers
  pub b_is : window.b ≡ b
  pub stages_are : length window.batches ≡ stages
  pub crewed : AreCrewed window.workers endpoints most b workers
  pub played : AllPlayedOut window workers

-- the crew is of the same sizes
pub record IsSameCrew (old new : Crew) : Type 0 where
  pub count : new.count ≡ old.count
  pub endpoints : new.endpoints ≡ old.endpoints
  pub batches : new.batches ≡ old.batches
  pub b : new.b ≡ old.b
