-- A worker and a ring may go to another thread.
use denote.Param.Send.{IsSend, sendable}
use Rattle.std.proofs.Crossing.{crosses}
use Rattle.item_chain.proofs.Chain.TheSendSync as chains
use Rattle.slot_batches.proofs.Crossing.{stage_send, piece_send}
use Rattle.ring_core.specs.contracts.worker.Worker as Worker
use Rattle.ring_core.specs.contracts.edge.Edge as Edge
use Rattle.ring_core.specs.contracts.ring.RingCore as RingCore

pub worker_send : IsSend Worker.the_row
worker_send = search (sendable, crosses, stage_send, piece_send) depth 100 fits 20000

edge_send : IsSend Edge.the_row
edge_send = search (sendable, crosses, piece_send) depth 100 fits 20000

pub core_send : IsSend RingCore.the_row
core_send = search (sendable, crosses, chains.the_send, worker_send, edge_send) depth 100 fits 20000
