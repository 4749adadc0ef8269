-- What the next window of recorded batches is fit for: the ring may allocate it, and the path workers colour its slots (this
-- project's own profile).
use Rattle.std.specs.Prelude.{◌≡◌, ◌<◌, ◌≤◌, ◌+◌, ◌*◌, ℕ, List, ◌++◌, length, Bool, true, false, All}
use Rattle.greedy_rules.specs.declared.flows.Flow.{Flow}
use Rattle.greedy_rules.specs.declared.flows.Item.{Item}
use Rattle.greedy_rules.specs.Batches.{DemandBatch}
use Rattle.greedy_rules.specs.Schedule.{schedule, schedule_from, rest, rest_from}
use Rattle.greedy_rules.specs.Matching.{IsMatching}
use Rattle.greedy_rules.specs.Recorded.{MayBeApplied}
use Rattle.slot_batches.specs.Marks.{WindowMarks, has_mark}
use Rattle.slot_batches.specs.Woven.{picked, HaveNoEntry, OnlyOpen}
use Rattle.alloc_pipeline.specs.Ring.{pairs_of}
use Rattle.clos_topology.specs.Network.{Network, endpoints_of}
use Rattle.path_workers.specs.Coloured.{IsFlowOf, IsWithinCores}
use Rattle.window_allocation.specs.Nets.{AreOfNet}
use Rattle.window_allocation.specs.Standing.{Allocated, HasAllocated}

-- batches may be applied to any part of a list that has all of whom they have an entry
abbrev pub AnyPartMayBeApplied : ℕ → ℕ → ℕ → List Item → List DemandBatch → Type 0
AnyPartMayBeApplied endpoints b first list batches =
    (aside : Item → Bool) → All (λ item. aside item ≡ true → HaveNoEntry batches item.flow) list → MayBeApplied endpoints b first (picked aside list) batches

-- there is a batch, any part of the list may be run that has all of whom the batches have an entry, and whoever has no mark is
-- only opened
pub record MaySetAside (endpoints b first : ℕ) (marks : WindowMarks) (list : List Item) (batches : List DemandBatch) : Type 0 where
  pub some : 0 < length batches
  pub parts : AnyPartMayBeApplied endpoints b first list batches
  pub unmarked : (flow : Flow) → has_mark marks flow ≡ false → OnlyOpen batches flow

pub record IsFit (net : Network) (slot : List Flow) : Type 0 where
  pub matching : IsMatching slot
  pub flows : All (IsFlowOf net) slot
  pub degrees : IsWithinCores net slot

-- a half that has allocated the earlier batches may allocate these, and their slots are the next of the schedule
pub record HalfIsReady (net : Network) (earlier batches : List DemandBatch) (half : Allocated) : Type 0 where
  pub may : MayBeApplied (endpoints_of net) half.b half.batches half.list.items batches
  pub parts : AnyPartMayBeApplied (endpoints_of net) half.b half.batches half.list.items batches
  pub few : length half.list.items ≤ pairs_of (endpoints_of net)
  pub then : rest_from half.b half.batches half.list.items batches ≡ rest half.b (earlier ++ batches)
  pub room : length (rest_from half.b half.batches half.list.items batches) ≤ length half.list.items + half.list.spare
  pub number : length (schedule_from half.b half.batches half.list.items batches) ≡ length batches * half.b
  pub whole : schedule half.b (earlier ++ batches) ≡ schedule half.b earlier ++ schedule_from half.b half.batches half.list.items batches
  pub slots : All (IsFit net) (schedule_from half.b half.batches half.list.items batches)

abbrev pub EveryWindowIsReady : Type 0
EveryWindowIsReady =
    (net : Network) (most : ℕ) (earlier batches : List DemandBatch) (half : Allocated) → HasAllocated net most earlier half → AreOfNet net (earlier ++ batches) → HalfIsReady net earlier batches half
