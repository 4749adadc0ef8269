-- How far a worker is in a window (this project's own profile).
use Rattle.std.specs.Prelude.{◌≡◌, ◌<◌, ◌≤◌, ℕ, ◌+◌, ◌*◌, ◌^◌, List, [], length, false, Some, IfSome, is_some, slice_get, if◌then◌else◌, All}
use Rattle.greedy_rules.specs.Batches.{DemandBatch}
use Rattle.greedy_rules.specs.Demands.{AreBelow, opened}
use Rattle.greedy_rules.specs.Schedule.{first_slot}
use Rattle.slot_batches.specs.Stands.{IsSameWork, Stands, stage_endpoints, batch_size_of, stage_slots, StageState}
use Rattle.ring_core.specs.States.{WorkerState}
use Rattle.ring_core.specs.Windows.{Window, MayBePlayed, batch_of_stage, batch_of, first_slot_in, pieces_before, slots_of_stage, worker_after, is_fed, items_fed, piece_given_next}
use Rattle.ring_core.specs.Streams.{pieces_into}
use Rattle.ring_core.specs.Ends.{WorkerEnds}

-- the number of the stage at this place of the worker's own
abbrev pub own_stage : ℕ → ℕ → ℕ → ℕ
own_stage workers worker place = place * workers + worker

-- the stage was fed so many pieces of its list, and gave so many of the next
pub record StageIsAt (endpoints : ℕ) (window : Window) (stage fed given : ℕ) (state : StageState) : Type 0 where
  pub work : IsSameWork endpoints window.b (stage + 1) (first_slot_in window stage) state
  pub stands : Stands (batch_of window stage) (items_fed window stage fed) (is_fed window stage fed) given state

-- the stage has ended: its slots are those of its batch
pub record StageHasEnded (endpoints : ℕ) (window : Window) (stage : ℕ) (state : StageState) : Type 0 where
  pub work : IsSameWork endpoints window.b (stage + 1) (first_slot_in window stage) state
  pub slots : stage_slots state ≡ slots_of_stage window stage
  pub none : state.nodes ≡ 0

-- the worker has its stages: each of its number of slots a batch, and one for each of its own batches
pub record IsWorker (worker : WorkerState) : Type 0 where
  pub number : worker.number < worker.workers
  pub some_slots : 0 < worker.b
  pub few_batches : worker.batches < 2 ^ 16
  pub endpoints : All (λ stage. stage_endpoints stage ≡ worker.endpoints) worker.stages
  pub sizes : All (λ stage. batch_size_of stage ≡ worker.b) worker.stages
  pub enough : worker.batches ≤ own_stage worker.workers worker.number (length worker.stages)

-- what the worker takes up: batches of its number of slots, of flows between its endpoints
pub record MayBegin (worker : WorkerState) (first_batch : ℕ) (batches : List DemandBatch) : Type 0 where
  pub most : length batches ≤ worker.batches
  pub in_range : All (λ batch. AreBelow worker.endpoints (opened batch.entries)) batches
  pub numbers : (first_batch + length batches) * worker.b + 1 ≤ 2 ^ 32

-- the stage has begun its batch
pub record HasBegun (endpoints b first_batch : ℕ) (batches : List DemandBatch) (stage : ℕ) (state : StageState) : Type 0 where
  pub work : IsSameWork endpoints b (stage + 1) (first_slot b (first_batch + stage)) state
  pub stands : Stands (batch_of_stage batches stage) [] false 0 state

-- so has each of the worker's stages, as far as there are batches for them
abbrev pub HaveBegun : ℕ → ℕ → ℕ → List DemandBatch → ℕ → ℕ → List StageState → Type 0
HaveBegun endpoints b first_batch batches workers worker stages =
    (place : ℕ) (state : StageState) → own_stage workers worker place < length batches → slice_get stages place ≡ Some state
    → HasBegun endpoints b first_batch batches (own_stage workers worker place) state

-- a window that the worker may have begun
pub record IsWorkerWindow (worker : WorkerState) (first_batch : ℕ) (batches : List DemandBatch) (window : Window) : Type 0 where
  pub may : MayBePlayed worker.endpoints window
  pub batches_are : window.batches ≡ batches
  pub first_is : window.first_batch ≡ first_batch
  pub b_is : window.b ≡ worker.b
  pub workers_are : window.workers ≡ worker.workers

-- the two ends of the worker when the window begins: the pieces of the window's list were sent into worker 0 before
abbrev pub first_ends : Window → ℕ → WorkerEnds
first_ends window worker =
    record {
      before = record { window = window; worker = worker };
      after = record { window = window; worker = worker_after window.workers worker };
      taken = 0;
      sent = length (pieces_into window (worker_after window.workers worker) (worker + 1));
    }

-- how many pieces the present stage gave, with the one that was refused
abbrev pub given_by : WorkerState → ℕ → ℕ
given_by worker given = if is_some worker.held then given + 1 else given

-- the worker has played these batches up to these ends: of its present stage's list it has taken so many pieces, and so
-- many of the next it has sent
pub record HasPlayed (batches : List DemandBatch) (ends : WorkerEnds) (worker : WorkerState) (fed given : ℕ) : Type 0 where
  pub is_worker : IsWorker worker
  pub window : IsWorkerWindow worker ends.before.window.first_batch batches ends.before.window
  pub before : ends.before.worker ≡ worker.number
  pub after : ends.after ≡ record { window = ends.before.window; worker = worker_after worker.workers worker.number }
  pub count : length batches ≤ worker.batches
  pub stage : worker.stage ≡ own_stage worker.workers worker.number worker.place
  pub near : worker.stage < length batches + worker.workers
  pub taken : ends.taken ≡ worker.taken
  pub sent : ends.sent ≡ worker.sent
  pub taken_is : worker.taken ≡ length (pieces_into ends.before.window worker.number worker.stage) + fed
  pub sent_is : worker.sent ≡ length (pieces_into ends.before.window (worker_after worker.workers worker.number) (worker.stage + 1)) + given
  pub fed_within : fed ≤ pieces_before ends.before.window worker.stage
  pub given_within : given < pieces_before ends.before.window (worker.stage + 1)
  pub held : IfSome worker.held (λ part. (worker.stage < length batches) × (piece_given_next ends.before.window worker.stage fed given ≡ Some part))
  pub past : length batches ≤ worker.stage → (fed ≡ 0) × (given ≡ 0)
  pub ended : (place : ℕ) (state : StageState) → place < worker.place → slice_get worker.stages place ≡ Some state
      → StageHasEnded worker.endpoints ends.before.window (own_stage worker.workers worker.number place) state
  pub present : (state : StageState) → worker.stage < length batches → slice_get worker.stages worker.place ≡ Some state
      → StageIsAt worker.endpoints ends.before.window worker.stage fed (given_by worker given) state
  pub later : (place : ℕ) (state : StageState) → worker.place < place → own_stage worker.workers worker.number place < length batches → slice_get worker.stages place ≡ Some state
      → StageIsAt worker.endpoints ends.before.window (own_stage worker.workers worker.number place) 0 0 state
  pub idle : (place : ℕ) (state : StageState) → length batches ≤ own_stage worker.workers worker.number place → slice_get worker.stages place ≡ Some state → state.nodes ≡ 0

abbrev pub Plays : List DemandBatch → WorkerEnds → WorkerState → Type 0
Plays batches ends worker = (fed : ℕ) × (given : ℕ) × HasPlayed batches ends worker fed given

-- all stages of the worker have ended
abbrev pub HasEnded : List DemandBatch → WorkerState → Type 0
HasEnded batches worker = length batches ≤ worker.stage

-- it is the same worker
pub record IsSameWorker (old new : WorkerState) : Type 0 where
  pub same_number : new.number ≡ old.number
  pub same_workers : new.workers ≡ old.workers
  pub same_endpoints : new.endpoints ≡ old.endpoints
  pub same_batches : new.batches ≡ old.batches
  pub same_b : new.b ≡ old.b

-- it is at the same stage
pub record IsAt (old new : WorkerState) : Type 0 where
  pub same_number : new.number ≡ old.number
  pub same_workers : new.workers ≡ old.workers
  pub same_stage : new.stage ≡ old.stage

-- the stage is one of its own, and has ended
abbrev pub IsEndedStage : WorkerState → ℕ → Type 0
IsEndedStage worker stage = (place : ℕ) × (place < worker.place) × (stage ≡ own_stage worker.workers worker.number place)

-- the worker has begun a window of these batches, where so many pieces were sent into the edge after it before
pub record HasBegunWith (first_batch : ℕ) (batches : List DemandBatch) (sent : ℕ) (old new : WorkerState) : Type 0 where
  pub same : IsSameWorker old new
  pub is_worker : IsWorker new
  pub plays : (window : Window) → IsWorkerWindow old first_batch batches window → sent ≡ (first_ends window old.number).sent → Plays batches (first_ends window old.number) new
