-- The worked takeovers.
use Rattle.takeover_text.proofs.Examples.{takes_over, earlier_boot}
use Rattle.takeover_text.proofs.laws.small_takeovers.Goals as goal

pub returns : goal.returns
returns c = record { takes_over = takes_over; earlier_boot = earlier_boot }
