use Rattle.std.proofs.Common.{refl}
use Rattle.ring_core.specs.Windows.{list_before_stage}
use Rattle.ring_core.specs.Streams.{edge_stream}
use Rattle.ring_core.proofs.laws.small_windows.Goals as goal

pub returns-clause-empty : goal.returns-clause-empty
unfolding list_before_stage edge_stream
returns-clause-empty c = refl

pub returns-clause-two_workers : goal.returns-clause-two_workers
unfolding list_before_stage edge_stream
returns-clause-two_workers c = (refl, refl)

pub returns-clause-without_a_stage : goal.returns-clause-without_a_stage
unfolding list_before_stage edge_stream
returns-clause-without_a_stage c = refl

pub returns-clause-two_pieces : goal.returns-clause-two_pieces
unfolding list_before_stage edge_stream
returns-clause-two_pieces c = refl

pub returns-clause-turns : goal.returns-clause-turns
unfolding list_before_stage
returns-clause-turns c = (refl, refl)
