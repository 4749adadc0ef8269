-- Packets are framed alike.
use Rattle.endpoint_history.proofs.Framed.{are_framed_alike}
use Rattle.endpoint_history.proofs.laws.packets_are_framed_alike.Goals as goal

pub returns : goal.returns
returns c = are_framed_alike
