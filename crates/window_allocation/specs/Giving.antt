-- A window's batches as they are given their slots and cores (this project's own profile).
use Rattle.std.specs.Prelude.{◌≡◌, ◌≤◌, ◌+◌, ◌*◌, ◌^◌, ◌++◌, List, length}
use Rattle.greedy_rules.specs.Batches.{DemandBatch}
use Rattle.greedy_rules.specs.Schedule.{first_slot, schedule_from}
use Rattle.window_allocation.specs.Nets.{AreOfNet}
use Rattle.window_allocation.specs.Standing.{Allocated, HasAllocated}
use Rattle.window_allocation.specs.Windows.{WindowContent, HasTables, IsWindowOf, jobs_for}
use Rattle.window_allocation.specs.Handed.{ComeOfRing}

-- these batches are the next ones of some for which it stands
pub record MayGive (half : Allocated) (batches : List DemandBatch) : Type 0 where
  pub stands : (earlier : List DemandBatch) × HasAllocated half.paths.net half.ring.batches earlier half × AreOfNet half.paths.net (earlier ++ batches)
  pub count : length batches ≤ half.ring.batches
  pub few : half.ring.batches ≤ 16
  pub numbers : first_slot half.b (half.batches + length batches) ≤ 2 ^ 32

-- a window is open for these batches: its tables are for just their slots
abbrev pub IsOpenForBatches : Allocated → List DemandBatch → WindowContent → Type 0
IsOpenForBatches half batches window = HasTables (length batches * half.b) half.ring.endpoints window

-- the slots of a window with these batches come of the ring
abbrev pub HandsOn : Allocated → List DemandBatch → Allocated → WindowContent → Type 0
HandsOn old batches new made = ComeOfRing old.b old.batches old.ring.workers old.list.items batches made.slots.slots old.ring.moved new.ring.moved

-- it has given them this window
pub record HasGiven (old : Allocated) (batches : List DemandBatch) (new : Allocated) (made : WindowContent) : Type 0 where
  -- it goes on standing for what it stood for, and these batches
  pub stands : (earlier : List DemandBatch) → HasAllocated old.paths.net old.ring.batches earlier old →
      AreOfNet old.paths.net (earlier ++ batches) → HasAllocated old.paths.net old.ring.batches (earlier ++ batches) new
  pub b : new.b ≡ old.b
  pub workers : new.ring.workers ≡ old.ring.workers
  pub paths : new.paths.paths ≡ old.paths.paths
  pub jobs : new.paths.jobs ≡ old.paths.jobs + jobs_for (length batches) old.b old.paths.paths
  pub span : made.span ≡ record { first = old.batches; count = length batches }
  -- its slots are those of the batches, on the list that the earlier ones left
  pub window : IsWindowOf old.paths.net old.b (schedule_from old.b old.batches old.list.items batches) made
  -- each of which came out of the ring, whose edges brought all that it was handed
  pub handed : HandsOn old batches new made
