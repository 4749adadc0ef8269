use Rattle.takeover_history.proofs.Asking.{are_counted}
use Rattle.takeover_history.proofs.laws.asks_are_counted.Goals as goal

pub returns : goal.returns
returns c = are_counted
