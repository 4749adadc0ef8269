-- A stage and a piece may go to another thread.
use denote.Param.Send.{IsSend, sendable}
use Rattle.std.proofs.Crossing.{crosses}
use Rattle.item_chain.proofs.nodes.Nodes.TheSendSync as nodes
use Rattle.item_chain.specs.contracts.Chain as Chain
use Rattle.greedy_rules.specs.contracts.flows.Item as Item
use Rattle.slot_batches.specs.contracts.array_stage.ArrayStage as ArrayStage
use Rattle.slot_batches.specs.contracts.stage.Stage as Stage
use Rattle.slot_batches.specs.contracts.piece.Piece as Piece

chain_send : IsSend (Chain.the_row Item.the_row)
chain_send = search (sendable, crosses, nodes.the_send) depth 100 fits 20000

array_stage_send : IsSend ArrayStage.the_row
array_stage_send = search (sendable, crosses) depth 100 fits 20000

pub stage_send : IsSend Stage.the_row
stage_send = search (sendable, crosses, chain_send, array_stage_send) depth 100 fits 20000

pub piece_send : IsSend Piece.the_row
piece_send = search (sendable, crosses, chain_send) depth 100 fits 20000
