use Rattle.greedy_rules.proofs.CellLemmas.{every_table_makes_a_batch}
use Rattle.greedy_rules.proofs.laws.every_table_makes_a_batch.Goals as goal

pub returns : goal.returns
returns c = every_table_makes_a_batch
