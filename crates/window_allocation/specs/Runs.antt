-- A ring that plays a window's batches run by run (this project's own profile).
use Rattle.std.specs.Prelude.{◌≡◌, ◌<◌, ◌≤◌, ℕ, ◌+◌, ◌-◌, ◌*◌, List, [], ◌++◌, length, replicate, All}
use Rattle.greedy_rules.specs.declared.flows.Item.{Item}
use Rattle.greedy_rules.specs.Batches.{DemandBatch}
use Rattle.greedy_rules.specs.Demands.{Demands}
use Rattle.greedy_rules.specs.Schedule.{first_slot, schedule_from, rest_from}
use Rattle.greedy_rules.specs.SlotTable.{Slots}
use Rattle.slot_batches.specs.NextList.{IsListBefore}
use Rattle.alloc_pipeline.specs.Ring.{RingWork, IsSameRingWork}
use Rattle.window_allocation.specs.declared.runs.Runs.{Runs}
use Rattle.window_allocation.specs.Handed.{HandedPart, IsPassedEmpty, slots_of_part, moved_by_part, batches_of, slots_over, moved_over}

-- its batches have as many slots as the ring's, at most 64, and a window has at most 16 of them
pub record IsRingOfRuns (runs : Runs) : Type 0 where
  pub b : runs.b ≡ runs.ring.b
  pub some_slots : (0 < runs.b) × (runs.b ≤ 64)
  pub few_batches : runs.ring.batches ≤ 16

-- the batches got their slots, whatever of the list was handed to the ring and in however many runs
pub record GivesSlots (ring_old ring_new : RingWork) (first_batch : ℕ) (list_old list_new : Demands) (batches : List DemandBatch) (out_old out_new : Slots) : Type 0 where
  -- the list is what they leave, with as much room as before
  pub list : list_new.items ≡ rest_from ring_old.b first_batch list_old.items batches
  pub spare : length list_new.items + list_new.spare ≡ length list_old.items + list_old.spare
  pub next : IsListBefore (first_slot ring_old.b (first_batch + length batches)) list_new.items
  -- the table holds their slots, and no others
  pub slots : out_new.slots ≡ schedule_from ring_old.b first_batch list_old.items batches ++ replicate (length out_old.slots - length batches * ring_old.b) []
  pub endpoints : out_new.endpoints ≡ out_old.endpoints
  pub same : IsSameRingWork ring_old ring_new

-- so many batches at the front of others were played by the ring, or passed over: the slots, and the pieces on its edges
pub record IsPlayed (b k workers : ℕ) (list : List Item) (batches : List DemandBatch) (moved_old moved_new : List ℕ) : Type 0 where
  pub part : HandedPart
  pub are : part.batches ≡ batches
  pub passed : IsPassedEmpty part
  pub given : slots_of_part b k list part ≡ schedule_from b k list part.batches
  pub moved : moved_new ≡ moved_by_part b k workers list part moved_old

-- batches were played over a list, part by part
pub record ArePlayed (b k workers : ℕ) (list : List Item) (batches : List DemandBatch) (moved_old moved_new : List ℕ) : Type 0 where
  pub parts : List HandedPart
  pub are : batches_of parts ≡ batches
  pub passed : All IsPassedEmpty parts
  pub given : slots_over b k list parts ≡ schedule_from b k list batches
  pub moved : moved_new ≡ moved_over b k workers list parts moved_old
