-- What contracts see of an edge, of a worker and of a ring (this project's own profile).
use Rattle.std.specs.Prelude.{ℕ, List, Option}
use Rattle.greedy_rules.specs.declared.flows.Item.{Item}
use Rattle.slot_batches.specs.Pieces.{Part}
use Rattle.slot_batches.specs.Stands.{StageState}

-- the pieces that were sent and not yet taken, how many were taken and sent, and how many it can hold
pub record EdgeState : Type 0 where
  pub pieces : List Part
  pub taken : ℕ
  pub sent : ℕ
  pub room : ℕ

-- the worker of this number among so many, for windows of at most so many batches of b slots; its stages, which of them is the
-- present one and that one's number in the window; how many pieces it has taken and sent; and the piece that was refused
pub record WorkerState : Type 0 where
  pub number : ℕ
  pub workers : ℕ
  pub endpoints : ℕ
  pub batches : ℕ
  pub b : ℕ
  pub stages : List StageState
  pub place : ℕ
  pub stage : ℕ
  pub taken : ℕ
  pub sent : ℕ
  pub held : Option Part

-- so many workers over edges with room for so many pieces; the list that the window found, the number of its first batch, and
-- how many stages it has; edge k is the one into worker k; and how many nodes are in no stage and no piece
pub record RingState : Type 0 where
  pub workers : ℕ
  pub endpoints : ℕ
  pub batches : ℕ
  pub b : ℕ
  pub room : ℕ
  pub list : List Item
  pub first_batch : ℕ
  pub stages : ℕ
  pub edges : List EdgeState
  pub crew : List WorkerState
  pub spare : ℕ
