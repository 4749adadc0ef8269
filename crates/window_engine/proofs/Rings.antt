-- The ring of the half that allocates: for so many endpoints, and so many batches at once.
use Rattle.std.proofs.Common.{◌≡◌, ℕ, List}
use Rattle.greedy_rules.specs.Batches.{DemandBatch}
use Rattle.clos_topology.specs.Network.{Network}
use Rattle.window_allocation.specs.Standing.{Allocated, HasAllocated}

pub ring_holds : (net : Network) (most : ℕ) (batches : List DemandBatch) (half : Allocated) → HasAllocated net most batches half → half.ring.batches ≡ most
ring_holds net most batches half has = λ i. (has.ring i).batches
