-- What threads may share.
use denote.Param.Send.{IsSync, sendable}
use Rattle.std.proofs.Crossing.{crosses}
use Rattle.greedy_rules.specs.contracts.batches.Batch as Batch

pub batch_sync : IsSync Batch.the_row
batch_sync = search (sendable, crosses) depth 100 fits 20000
