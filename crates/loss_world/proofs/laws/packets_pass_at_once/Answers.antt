use Rattle.loss_world.proofs.Histories.{packets_pass_at_once}
use Rattle.loss_world.proofs.laws.packets_pass_at_once.Goals as goal

pub returns : goal.returns
returns c = packets_pass_at_once
