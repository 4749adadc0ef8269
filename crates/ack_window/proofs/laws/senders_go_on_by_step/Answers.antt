use Rattle.ack_window.proofs.Steps.{senders_go_on_by_step}
use Rattle.ack_window.proofs.laws.senders_go_on_by_step.Goals as goal

pub returns : goal.returns
returns g c = senders_go_on_by_step _
