-- What contracts see of a ring, and what a call of it asks and does (this project's own profile).
use Rattle.std.specs.Prelude.{◌≡◌, ◌≤◌, ◌<◌, ℕ, ◌+◌, ◌-◌, ◌*◌, ◌^◌, List, [], ◌∷◌, ◌++◌, length, take, replicate}
use Rattle.greedy_rules.specs.Batches.{DemandBatch}
use Rattle.greedy_rules.specs.Demands.{Demands}
use Rattle.greedy_rules.specs.Recorded.{MayBeApplied}
use Rattle.greedy_rules.specs.Schedule.{first_slot, schedule_from, rest_from}
use Rattle.greedy_rules.specs.SlotTable.{Slots}
use Rattle.slot_batches.specs.NextList.{IsListBefore}
pub use Rattle.ring_core.specs.Cores.{pairs_of}
use Rattle.ring_core.specs.Windows.{Window, window_of}
use Rattle.ring_core.specs.Streams.{edge_stream}

-- its workers, its endpoints, the most batches of a window, and the slots of a batch; for the edge into each worker, how many
-- pieces have gone through its queue; and how many nodes no piece and no worker has
pub record RingWork : Type 0 where
  pub workers : ℕ
  pub endpoints : ℕ
  pub batches : ℕ
  pub b : ℕ
  pub moved : List ℕ
  pub spare : ℕ

-- what a ring may be opened for
pub record IsRingSize (workers endpoints batches b : ℕ) : Type 0 where
  pub some_workers : (0 < workers) × (workers ≤ 16)
  pub few_endpoints : endpoints ≤ 256
  pub some_batches : (0 < batches) × (batches ≤ 16)
  pub some_slots : (0 < b) × (b ≤ 64)

-- it is a ring of the same sizes, with as many spare nodes
pub record IsSameRingWork (old new : RingWork) : Type 0 where
  pub workers : new.workers ≡ old.workers
  pub endpoints : new.endpoints ≡ old.endpoints
  pub batches : new.batches ≡ old.batches
  pub b : new.b ≡ old.b
  pub spare : new.spare ≡ old.spare

-- how many pieces have gone through the edges from this one on, once each has brought its worker all pieces of the window
abbrev pub moved_by : Window → ℕ → List ℕ → List ℕ
moved_by window worker [] = []
moved_by window worker (before ∷ later) = (before + length (edge_stream (record { window = window; worker = worker }))) ∷ moved_by window (worker + 1) later

-- it may allocate these batches, the first of this number, from this list
pub record MayAllocate (ring : RingWork) (first_batch : ℕ) (list : Demands) (batches : List DemandBatch) (out : Slots) : Type 0 where
  -- they are not more than a window has
  pub count : length batches ≤ ring.batches
  -- each may be applied to the list that the ones before it leave
  pub may : MayBeApplied ring.endpoints ring.b first_batch list.items batches
  -- no item was served in a slot of theirs
  pub before : IsListBefore (first_slot ring.b first_batch) list.items
  pub numbers : first_slot ring.b (first_batch + length batches) ≤ 2 ^ 32
  -- a flow between the endpoints has an item at most
  pub fits : length list.items ≤ pairs_of ring.endpoints
  -- the list has room for what they leave
  pub room : length (rest_from ring.b first_batch list.items batches) ≤ length list.items + list.spare
  -- the table serves the endpoints, and has a place for each slot
  pub serves : ring.endpoints ≤ out.endpoints
  pub places : length batches * ring.b ≤ length out.slots

-- it has
pub record Allocates (ring_old ring_new : RingWork) (first_batch : ℕ) (list_old list_new : Demands) (batches : List DemandBatch) (out_old out_new : Slots) : Type 0 where
  -- the list is what they leave, with as much room as before
  pub list : list_new.items ≡ rest_from ring_old.b first_batch list_old.items batches
  pub spare : length list_new.items + list_new.spare ≡ length list_old.items + list_old.spare
  pub next : IsListBefore (first_slot ring_old.b (first_batch + length batches)) list_new.items
  -- the table holds their slots, and no others
  pub slots : out_new.slots ≡ schedule_from ring_old.b first_batch list_old.items batches ++ replicate (length out_old.slots - length batches * ring_old.b) []
  pub endpoints : out_new.endpoints ≡ out_old.endpoints
  -- each edge has brought its worker every piece of the lists before that worker's stages
  pub moved : ring_new.moved ≡ moved_by (window_of list_old.items batches first_batch ring_old.b ring_old.workers) 0 ring_old.moved
  pub same : IsSameRingWork ring_old ring_new

-- it has, with their slots behind those of so many batches that came before; the other fields are as above
pub record AllocatesBehind (passed : ℕ) (ring_old ring_new : RingWork) (first_batch : ℕ) (list_old list_new : Demands) (batches : List DemandBatch) (out_old out_new : Slots) : Type 0 where
  pub list : list_new.items ≡ rest_from ring_old.b first_batch list_old.items batches
  pub spare : length list_new.items + list_new.spare ≡ length list_old.items + list_old.spare
  pub next : IsListBefore (first_slot ring_old.b (first_batch + length batches)) list_new.items
  -- the table holds the slots that stay and behind them theirs, and no others
  pub slots : out_new.slots ≡ (take (passed * ring_old.b) out_old.slots ++ schedule_from ring_old.b first_batch list_old.items batches) ++ replicate (length out_old.slots - (passed + length batches) * ring_old.b) []
  pub endpoints : out_new.endpoints ≡ out_old.endpoints
  pub moved : ring_new.moved ≡ moved_by (window_of list_old.items batches first_batch ring_old.b ring_old.workers) 0 ring_old.moved
  pub same : IsSameRingWork ring_old ring_new
