-- What a lane tells.
use Rattle.endpoint_history.proofs.Handed.{what_is_told_was_handed_over}
use Rattle.endpoint_history.proofs.laws.lanes_tell_what_they_are_handed.Goals as goal

pub returns : goal.returns
returns c = what_is_told_was_handed_over
