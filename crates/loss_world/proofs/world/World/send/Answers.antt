use Rattle.std.proofs.Common.{◌++◌, ◌∙◌, ap, option_map, option_to_list}
use Rattle.std.proofs.lemmas.Result.{on_ok_weaker}
use Rattle.loss_world.specs.Arrivals.{Departure}
use Rattle.loss_world.proofs.Histories.{WorldStandsFor-send}
use Rattle.loss_world.proofs.world.World.send.Goals as goal

pub returns-in-Some-clause-stands : goal.returns-in-Some-clause-stands
returns-in-Some-clause-stands c =
    let packet : Departure = record { round = c.args.round; fate = c.args.fate; bytes = c.args.bytes.now } in
    let one = ap (λ rounds. option_to_list (option_map (λ r. record { rounds = r; bytes = packet.bytes }) rounds)) c.in-Some.ensures in
    on_ok_weaker c.dispatch.result
    (λ sent history stands order.
    WorldStandsFor-send c.args.self.now c.dispatch.new.self history packet stands order (sent ∙ ap (λ xs. c.args.self.now.flights ++ xs) one))
    c.dispatch.ensures.sent
