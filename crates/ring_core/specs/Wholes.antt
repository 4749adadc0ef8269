-- Lists that lie whole in a ring, and workers that serve them at once (this project's own profile).
use Rattle.std.specs.Prelude.{◌≡◌, ◌<◌, ◌≤◌, ℕ, zero, suc, ◌+◌, List, [], ◌∷◌, length, Option, Some, None, slice_get, set}
use Rattle.greedy_rules.specs.declared.flows.Item.{Item}
use Rattle.greedy_rules.specs.Batches.{DemandBatch}
use Rattle.greedy_rules.specs.Demands.{Demands}
use Rattle.slot_batches.specs.Pieces.{Part, piece_count, pieces}
use Rattle.ring_core.specs.States.{EdgeState, WorkerState}
use Rattle.ring_core.specs.Windows.{Window, MayBePlayed, list_before_stage, worker_of, worker_after}
use Rattle.ring_core.specs.Streams.{pieces_into, items_of}
use Rattle.ring_core.specs.Edges.{room_at}
use Rattle.ring_core.specs.Ends.{WorkerEnds}
use Rattle.ring_core.specs.Workers.{HasPlayed}
use Rattle.ring_core.specs.Cores.{IsCrewed}

-- the edges, where these pieces were sent into one of them
abbrev pub with_parts : ℕ → List Part → List EdgeState → List EdgeState
with_parts number parts [] = []
with_parts zero parts (edge ∷ edges) = record { pieces = parts; taken = edge.taken; sent = edge.sent + length parts; room = edge.room } ∷ edges
with_parts (suc number) parts (edge ∷ edges) = edge ∷ with_parts number parts edges

-- the edges as contracts see them: a list that lies whole before a stage counts as its pieces, sent into the stage's worker
abbrev pub with_list : Option ℕ → ℕ → List Item → List EdgeState → List EdgeState
with_list None workers list edges = edges
with_list (Some stage) workers list edges = with_parts (worker_of workers stage) (pieces stage list) edges

-- the first edge alone has changed: the pieces of the list were sent into it
pub record HasFirst (list : List Item) (old new : List EdgeState) : Type 0 where
  pub edge : EdgeState
  pub edges_are : new ≡ set old 0 edge
  pub pieces_are : edge.pieces ≡ pieces 0 list
  pub none_taken : edge.taken ≡ 0
  pub sent_is : edge.sent ≡ piece_count list
  pub room_is : edge.room ≡ room_at old 0

-- the list that lies whole, or else the items of the edge's pieces
abbrev pub lying_in : Option ℕ → List Item → EdgeState → List Item
lying_in None list edge = items_of edge.pieces
lying_in (Some stage) list edge = list

-- how many nodes the pieces of a list that lies whole take, where one does
abbrev pub whole_nodes : Option ℕ → List Item → ℕ
whole_nodes None list = 0
whole_nodes (Some stage) list = length list

-- how many items a list has room for
abbrev pub room_for : Demands → ℕ
room_for list = length list.items + list.spare

-- a list that lies whole, if one does, has its place in an edge without pieces
abbrev pub MayBeSent : Option ℕ → ℕ → List Item → List EdgeState → Type 0
MayBeSent None workers list edges = Unit
MayBeSent (Some stage) workers list edges =
    (length list ≤ 65536) × ((edge : EdgeState) → slice_get edges (worker_of workers stage) ≡ Some edge → (edge.pieces ≡ []) × (piece_count list ≤ edge.room))

-- the two ends of a worker by its own positions
abbrev pub own_ends : Window → WorkerState → WorkerEnds
own_ends window worker =
    record {
      before = record { window = window; worker = worker.number };
      after = record { window = window; worker = worker_after worker.workers worker.number };
      taken = worker.taken;
      sent = worker.sent;
    }

-- the worker has taken and sent nothing of its present stage's lists
abbrev pub StartsStage : List DemandBatch → Window → WorkerState → Type 0
StartsStage batches window worker = HasPlayed batches (own_ends window worker) worker 0 0

-- it starts the first of its stages that is not below this one
pub record StartsFrom (endpoints most : ℕ) (batches : List DemandBatch) (window : Window) (stage number : ℕ) (worker : WorkerState) : Type 0 where
  pub crewed : IsCrewed window.workers endpoints most window.b number worker
  pub from : stage ≤ worker.stage
  pub near : worker.stage < stage + window.workers
  pub starts : StartsStage batches window worker

-- the lists below the stage went through the edge
pub record HasPassed (window : Window) (stage number : ℕ) (edge : EdgeState) : Type 0 where
  pub none : edge.pieces ≡ []
  pub taken : edge.taken ≡ length (pieces_into window number stage)
  pub sent : edge.sent ≡ length (pieces_into window number stage)

-- the stages below this one have served their lists, and the list before it lies whole
pub record StandsBefore (endpoints most : ℕ) (batches : List DemandBatch) (window : Window) (stage : ℕ) (crew : List WorkerState) (edges : List EdgeState) (list : List Item) : Type 0 where
  pub may : MayBePlayed endpoints window
  pub batches_are : window.batches ≡ batches
  pub worker_count : length crew ≡ window.workers
  pub edge_count : length edges ≡ window.workers
  pub list_is : list ≡ list_before_stage window stage
  pub workers : (number : ℕ) (worker : WorkerState) → slice_get crew number ≡ Some worker → StartsFrom endpoints most batches window stage number worker
  pub passed : (number : ℕ) (edge : EdgeState) → slice_get edges number ≡ Some edge → HasPassed window stage number edge
