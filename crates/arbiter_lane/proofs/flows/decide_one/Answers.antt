use Rattle.endpoint_history.specs.Packets.{slots_to}
use Rattle.arbiter_lane.proofs.Marking.{marked-acknowledged}
use Rattle.arbiter_lane.proofs.flows.decide_one.Goals as goal

pub returns-else-number-clause-marked : goal.returns-else-number-clause-marked
returns-else-number-clause-marked c = marked-acknowledged (λ dst. slots_to dst c.told-told.result.now) c.args.risen.now c.args.lines.now c.acknowledge.new.lines c.acknowledge.ensures
