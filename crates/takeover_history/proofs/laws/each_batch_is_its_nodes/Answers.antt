use Rattle.takeover_history.proofs.Asking.{its_nodes}
use Rattle.takeover_history.proofs.laws.each_batch_is_its_nodes.Goals as goal

pub returns : goal.returns
returns c = its_nodes
