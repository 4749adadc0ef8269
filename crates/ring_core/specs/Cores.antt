-- A ring of workers over its edges, and a window that it plays (this project's own profile).
use Rattle.std.specs.Prelude.{◌≡◌, ◌≢◌, ◌<◌, ◌≤◌, ℕ, ◌+◌, ◌-◌, ◌*◌, ◌^◌, List, [], length, Some, None, IsSome, slice_get, All, ◌==◌, if◌then◌else◌}
use Rattle.greedy_rules.specs.declared.flows.Item.{Item}
use Rattle.greedy_rules.specs.Batches.{DemandBatch}
use Rattle.greedy_rules.specs.Recorded.{MayBeApplied}
use Rattle.greedy_rules.specs.Schedule.{first_slot, rest_from}
use Rattle.slot_batches.specs.NextList.{IsListBefore}
use Rattle.slot_batches.specs.Pieces.{piece_count}
use Rattle.ring_core.specs.States.{EdgeState, RingState, WorkerState}
use Rattle.ring_core.specs.declared.turn.Turn.{Turn}
use Rattle.ring_core.specs.Windows.{Window, MayBePlayed, window_of, list_before_stage, pieces_before, worker_after}
use Rattle.ring_core.specs.Streams.{pieces_at}
use Rattle.ring_core.specs.Ends.{WorkerEnds}
use Rattle.ring_core.specs.Workers.{IsWorker, Plays}
use Rattle.ring_core.specs.Turns.{TurnAnswers, piece_to_push}
use Rattle.ring_core.specs.Edges.{AllHold, StreamsAreShort, OthersStay, IsFoundEmpty, IsFoundFull, room_at, taken_at, sent_at, ends_between}

-- the worker of this number among so many, for windows of at most so many batches of b slots
pub record IsCrewed (workers endpoints batches b number : ℕ) (worker : WorkerState) : Type 0 where
  pub is_worker : IsWorker worker
  pub number_is : worker.number ≡ number
  pub workers_is : worker.workers ≡ workers
  pub endpoints_is : worker.endpoints ≡ endpoints
  pub batches_is : worker.batches ≡ batches
  pub b_is : worker.b ≡ b

abbrev pub AreCrewed : ℕ → ℕ → ℕ → ℕ → List WorkerState → Type 0
AreCrewed workers endpoints batches b crew = (number : ℕ) (worker : WorkerState) → slice_get crew number ≡ Some worker → IsCrewed workers endpoints batches b number worker

abbrev pub IsWorkerOf : RingState → ℕ → WorkerState → Type 0
IsWorkerOf core number worker = IsCrewed core.workers core.endpoints core.batches core.b number worker

-- a ring has an edge into each worker, each of its room
pub record IsRing (core : RingState) : Type 0 where
  pub some_workers : 0 < core.workers
  pub few_workers : core.workers < 2 ^ 16
  pub few_batches : core.batches < 2 ^ 16
  pub edge_count : length core.edges ≡ core.workers
  pub worker_count : length core.crew ≡ core.workers
  pub rooms : (number : ℕ) → number < core.workers → room_at core.edges number ≡ core.room
  pub each : AreCrewed core.workers core.endpoints core.batches core.b core.crew

-- how many flows there are between so many endpoints: from each to each other
abbrev pub pairs_of : ℕ → ℕ
pairs_of endpoints = endpoints * (endpoints - 1)

-- it holds no piece, and all of its nodes, one for each flow between its endpoints, are spare
pub record IsAtRest (core : RingState) : Type 0 where
  pub ring : IsRing core
  pub nodes : core.spare ≡ pairs_of core.endpoints
  pub none_held : (number : ℕ) (worker : WorkerState) → slice_get core.crew number ≡ Some worker → All (λ stage. stage.nodes ≡ 0) worker.stages
  pub none_lies : (number : ℕ) (edge : EdgeState) → slice_get core.edges number ≡ Some edge → (edge.pieces ≡ []) × (edge.taken ≡ 0) × (edge.sent ≡ 0)

-- it may begin a window of these batches, the first of this number, with this list
pub record MayStart (core : RingState) (first_batch : ℕ) (batches : List DemandBatch) (list : List Item) : Type 0 where
  pub few_endpoints : core.endpoints ≤ 256
  pub count : length batches ≤ core.batches
  pub may : MayBeApplied core.endpoints core.b first_batch list batches
  pub before : IsListBefore (first_slot core.b first_batch) list
  pub numbers : first_slot core.b (first_batch + length batches) ≤ 2 ^ 32
  -- a flow has an item at most
  pub fits : length list ≤ pairs_of core.endpoints
  pub room : piece_count list ≤ core.room

-- the window that it plays, and the two ends of a worker there
abbrev pub window_in : List DemandBatch → RingState → Window
window_in batches core = window_of core.list batches core.first_batch core.b core.workers

abbrev pub ends_in : List DemandBatch → RingState → ℕ → WorkerEnds
ends_in batches core number = ends_between (window_in batches core) core.edges number (worker_after core.workers number)

-- it plays a window of these batches: each edge holds exactly its stream from taken to sent, and each worker has played up to
-- its positions; a node is spare for each flow that has no item in the list that the window leaves
pub record IsPlaying (batches : List DemandBatch) (core : RingState) : Type 0 where
  pub ring : IsRing core
  pub stages : core.stages ≡ length batches
  pub may : MayBePlayed core.endpoints (window_in batches core)
  pub short : StreamsAreShort (window_in batches core)
  pub holds : AllHold (window_in batches core) core.edges
  pub nodes : core.spare + length (list_before_stage (window_in batches core) (length batches)) ≡ pairs_of core.endpoints
  pub plays : (number : ℕ) (worker : WorkerState) → slice_get core.crew number ≡ Some worker → Plays batches (ends_in batches core number) worker

-- the answer of a worker's turn in the ring
abbrev pub AnswersIn : List DemandBatch → RingState → RingState → ℕ → Turn → Type 0
AnswersIn batches old new number turn =
    (worker : WorkerState) → slice_get old.crew number ≡ Some worker
    → TurnAnswers batches worker (ends_in batches old number) (ends_in batches new number) (IsFoundEmpty new.edges number) (IsFoundFull new.edges (worker_after old.workers number)) turn

-- it is a ring of the same sizes
pub record IsSameRing (old new : RingState) : Type 0 where
  pub same_workers : new.workers ≡ old.workers
  pub same_endpoints : new.endpoints ≡ old.endpoints
  pub same_batches : new.batches ≡ old.batches
  pub same_b : new.b ≡ old.b
  pub same_room : new.room ≡ old.room

-- a turn changes the two positions of its worker alone, and the worker
pub record OthersWait (number : ℕ) (old new : RingState) : Type 0 where
  pub edges : OthersStay number (worker_after old.workers number) old.edges new.edges
  pub crew : (other : ℕ) → other ≢ number → slice_get new.crew other ≡ slice_get old.crew other
  pub same : IsSameRing old new
  pub same_stages : new.stages ≡ old.stages

-- no turn was taken yet: the pieces of the window's list were sent into worker 0, and no others
pub record HasJustBegun (core : RingState) : Type 0 where
  pub none_taken : (number : ℕ) → taken_at core.edges number ≡ 0
  pub list_sent : (number : ℕ) → sent_at core.edges number ≡ (if number == 0 then piece_count core.list else 0)

-- every stage of the window has ended
abbrev pub IsFinished : RingState → Type 0
IsFinished core = (number : ℕ) (worker : WorkerState) → slice_get core.crew number ≡ Some worker → core.stages ≤ worker.stage

-- the edge into the worker of the last list holds its pieces, and every other edge is empty
abbrev pub HoldsTheLastList : List DemandBatch → RingState → Type 0
HoldsTheLastList batches core =
    (number : ℕ) (edge : EdgeState) → slice_get core.edges number ≡ Some edge → edge.pieces ≡ pieces_at (window_in batches core) number (length batches)

-- some stage has not ended
abbrev pub IsGoing : RingState → Type 0
IsGoing core = IsFinished core → ⊥

-- each edge has room for twice the longest list
abbrev pub HasRoomForTwo : List DemandBatch → RingState → Type 0
HasRoomForTwo batches core = (stage : ℕ) → stage ≤ length batches → 2 * pieces_before (window_in batches core) stage ≤ core.room

-- the worker can move: it has a piece to push, and the edge after it has room, or it has none, and the edge before it holds one
pub record IsFree (batches : List DemandBatch) (core : RingState) (number : ℕ) (worker : WorkerState) : Type 0 where
  pub going : worker.stage < length batches
  pub pops : piece_to_push (ends_in batches core number) worker ≡ None → taken_at core.edges number < sent_at core.edges number
  pub pushes : IsSome (piece_to_push (ends_in batches core number) worker)
      → sent_at core.edges (worker_after core.workers number) < taken_at core.edges (worker_after core.workers number) + core.room

abbrev pub CanMove : List DemandBatch → RingState → ℕ → Type 0
CanMove batches core number = (worker : WorkerState) → slice_get core.crew number ≡ Some worker → IsFree batches core number worker

-- edges with room for 2,048 pieces have room for twice the longest list of every window
abbrev pub WideEdgesHaveRoom : Type 0
WideEdgesHaveRoom = (batches : List DemandBatch) (core : RingState) → IsPlaying batches core → 2048 ≤ core.room → HasRoomForTwo batches core

-- a window leaves at most 65,536 items
abbrev pub FewItemsAreLeft : Type 0
FewItemsAreLeft = (batches : List DemandBatch) (core : RingState) → IsPlaying batches core → length (rest_from core.b core.first_batch core.list batches) ≤ 65536
