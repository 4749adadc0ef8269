use Rattle.ack_window.proofs.BothEnds.{open_is_within_span}
use Rattle.ack_window.proofs.laws.open_numbers_stay_within_span.Goals as goal

pub returns : goal.returns
returns g c = open_is_within_span _
