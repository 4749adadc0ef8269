use Rattle.front_desk.proofs.Windows.{entries-same}
use Rattle.front_desk.proofs.laws.every_window_records_the_same.Goals as goal

pub returns : goal.returns
returns c = entries-same
