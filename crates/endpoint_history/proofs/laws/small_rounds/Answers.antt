-- Small rounds.
use Rattle.endpoint_history.proofs.Examples.{worked_rounds}
use Rattle.endpoint_history.proofs.laws.small_rounds.Goals as goal

pub returns : goal.returns
returns c = worked_rounds
