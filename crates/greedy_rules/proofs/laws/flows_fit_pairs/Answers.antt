use Rattle.greedy_rules.proofs.RoomLemmas.{flows_fit}
use Rattle.greedy_rules.proofs.laws.flows_fit_pairs.Goals as goal

pub returns : goal.returns
returns c = flows_fit
