use Rattle.path_workers.proofs.NamedCores.{named_below}
use Rattle.path_workers.proofs.laws.every_named_core_is_below.Goals as goal

pub returns : goal.returns
returns c = named_below
