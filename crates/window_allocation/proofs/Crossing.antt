-- The batches of a window may be allocated in another thread: the ring, the demand list, the path workers and the window's tables may
-- go there.
use denote.Param.Send.{IsSend, sendable}
use Rattle.std.proofs.Crossing.{crosses}
use Rattle.alloc_pipeline.proofs.Crossing.{ring_send}
use Rattle.path_workers.proofs.paths.Paths.TheSendSync as paths
use Rattle.window_allocation.specs.contracts.allocation.Allocation as Allocation
use Rattle.window_allocation.specs.contracts.window.Window as Window

pub allocation_send : IsSend Allocation.the_row
allocation_send = search (sendable, crosses, ring_send, paths.the_send) depth 100 fits 20000

pub window_send : IsSend Window.the_row
window_send = search (sendable, crosses) depth 100 fits 20000
