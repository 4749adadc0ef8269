use Rattle.std.proofs.Common.{ℕ, List, Some, take, ap, subst}
use Rattle.std.proofs.lemmas.Result.{IfOk-weaker}
use Rattle.endpoint_history.specs.Packets.{framed_up}
use Rattle.fcp_framing.specs.Spelling.{SpellsUp}
use Rattle.endpoint_history.specs.Agent.{packet_up}
use Rattle.endpoint_agent.specs.State.{AgentState}
use Rattle.lane_rounds.specs.Standing.{spell_up}
use Rattle.lane_rounds.specs.Parts.{with_at_hand}
use Rattle.lane_rounds.proofs.Posting.{carried-one}
use Rattle.lane_rounds.proofs.rounds.post_up.Goals as goal

pub returns-clause-spelled : goal.returns-clause-spelled
returns-clause-spelled c = λ calls stood.
    let agent : AgentState = c.args.agent.now in
    subst (λ (bytes : List ℕ). SpellsUp agent.endpoints bytes (framed_up agent.me (packet_up agent.endpoints agent.g calls))) (c.make_up-length.ensures.packet calls stood) (c.make_up-length.ensures.spelled calls stood)

pub returns-clause-carried : goal.returns-clause-carried
returns-clause-carried c =
    let agent : AgentState = c.args.agent.now in
    IfOk-weaker c.hand_over.result _ _
    (λ at_hand hands calls departures stood it.
    carried-one c.rounds_are_read_in_order.ensures.next (spell_up agent.me) c.args.world.now (with_at_hand c.args.round at_hand c.make_up-length.new.buf c.hand_over.new.world) c.args.round c.args.fate (Some (packet_up agent.endpoints agent.g calls)) (take c.make_up-length.result c.make_up-length.new.buf) departures
    (ap Some (c.make_up-length.ensures.packet calls stood)) hands it)
    c.hand_over.ensures.stands
