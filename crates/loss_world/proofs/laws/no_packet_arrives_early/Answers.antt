use Rattle.loss_world.proofs.Flights.{none_arrives_early}
use Rattle.loss_world.proofs.laws.no_packet_arrives_early.Goals as goal

pub returns : goal.returns
returns c = none_arrives_early
