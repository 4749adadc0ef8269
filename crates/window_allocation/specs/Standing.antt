-- What an allocation stands for: the batches of a net that it has given their slots and cores (this project's own profile).
use Rattle.std.specs.Prelude.{◌≡◌, ◌<◌, ◌≤◌, ℕ, ◌+◌, ◌*◌, List, length}
use Rattle.greedy_rules.specs.Batches.{DemandBatch}
use Rattle.greedy_rules.specs.Demands.{Demands}
use Rattle.greedy_rules.specs.Schedule.{first_slot, rest}
use Rattle.slot_batches.specs.NextList.{IsListBefore}
use Rattle.alloc_pipeline.specs.Ring.{RingWork}
use Rattle.clos_topology.specs.Network.{Network, endpoints_of}
use Rattle.path_workers.specs.PathWork.{PathWork}
use Rattle.window_allocation.specs.Nets.{AreOfNet}

-- what contracts see of an allocation: the slots of a batch, how many batches it has done, the demand that is left, its ring and
-- its path workers
pub record Allocated : Type 0 where
  pub b : ℕ
  pub batches : ℕ
  pub list : Demands
  pub ring : RingWork
  pub paths : PathWork

-- these batches of a net were allocated, and so many may be at once
pub record HasAllocated (net : Network) (most : ℕ) (batches : List DemandBatch) (half : Allocated) : Type 0 where
  pub recorded : AreOfNet net batches
  pub number : half.batches ≡ length batches
  pub size : (0 < half.b) × (half.b ≤ 64)
  pub left : half.list.items ≡ rest half.b batches
  pub before : IsListBefore (first_slot half.b half.batches) half.list.items
  pub room : endpoints_of net * endpoints_of net ≤ length half.list.items + half.list.spare
  pub ring : half.ring ≡ record half.ring { endpoints = endpoints_of net; batches = most; b = half.b }
  pub serves : half.paths.net ≡ net
  pub colours : half.paths.slots ≡ most * half.b
