-- A worker with its passes may go to another thread, and the edges be used there too; so may a ring.
use mir.Syntax.{Dict}
use denote.Param.Send.{IsSend, IsSync, sendable}
use Rattle.std.proofs.Crossing.{crosses, frees}
use Rattle.std.proofs.alloc.Global.TheSendSync as heap
use Rattle.std_heap.specs.contracts.GlobalAllocator.TheImpl as heap_of
use Rattle.crossbeam_queue.specs.contracts.array_queue.TurnsTableRuleOptionDoingUnit.TheImpl as turns
use Rattle.alloc_pipeline.specs.contracts.rule.RuleProtocolParcelView.TheImpl as rule
use Rattle.item_chain.proofs.Chain.TheSendSync as chains
use Rattle.ring_core.proofs.Crossing.{worker_send}
use Rattle.alloc_pipeline.specs.contracts.player.Player as Player
use Rattle.alloc_pipeline.specs.contracts.ring.Ring as Ring
use Rattle.atomic_table.proofs.shared.Seat.TheSendSync as pass
use Rattle.alloc_pipeline.specs.contracts.parcel.Parcel as Parcel
use Rattle.crossbeam_queue.specs.contracts.array_queue.Slotted as Slotted
use Rattle.crossbeam_queue.specs.contracts.array_queue.Doing as Doing
use Rattle.crossbeam_queue.specs.contracts.array_queue.Turns as Turns
use Rattle.core.specs.contracts.option.Option as Option
use Rattle.std.specs.contracts.alloc.Global as Global
use Rattle.alloc_pipeline.specs.contracts.rule.Rule as Rule
use Rattle.alloc_pipeline.specs.contracts.parcel.View as View
use Rattle.atomic_table.proofs.shared.Shared.TheSendSync as shared
use Rattle.atomic_table.proofs.send_lease.SendLease.TheSendSync as lease

pub parcel_send : IsSend Parcel.the_row
parcel_send = search (sendable, crosses, chains.the_send) depth 100 fits 20000

pub player_send : IsSend Player.the_row
player_send = search (sendable, crosses, worker_send, parcel_send, pass.the_send) depth 100 fits 20000

pub queue_sync : (d : Dict) → IsSync (Slotted.the_row (Option.the_row Parcel.the_row) (Doing.the_row Parcel.the_row View.the_row) (Turns.the_row Rule.the_row) Global.the_row (turns.ghosts Parcel.the_row View.the_row Rule.the_row rule.ghosts d) heap_of.ghosts)
queue_sync d = search (sendable, crosses, parcel_send, shared.the_sync, lease.the_sync, heap.the_send, heap.the_sync, frees) depth 100 fits 20000

pub ring_send : IsSend Ring.the_row
ring_send = search (sendable, crosses, chains.the_send, worker_send, player_send, parcel_send, pass.the_send, shared.the_send, lease.the_send, heap.the_send, frees) depth 100 fits 20000
