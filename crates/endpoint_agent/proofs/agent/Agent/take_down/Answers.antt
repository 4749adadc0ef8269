use Rattle.std.proofs.Common.{◌≡◌, true, ◌∷◌, Option, sym, ◌∙◌, ap, subst}
use Rattle.fcp_framing.specs.declared.packet.Down.{Down}
use Rattle.fcp_framing.specs.declared.refusal.FrameRefused.{FrameRefused}
use Rattle.fcp_framing.specs.Fields.{down_of}
use Rattle.fcp_framing.specs.Refusals.{first_refusal, refuses_down}
use Rattle.endpoint_history.specs.Packets.{down_packet}
use Rattle.endpoint_history.specs.Agent.{TakesDown, takes}
use Rattle.endpoint_agent.specs.Refusals.{refusal_or, refusal_of_packet, IsOwn}
use Rattle.endpoint_agent.specs.Standing.{AgentStandsFor}
use Rattle.endpoint_agent.specs.State.{AgentState}
use Rattle.endpoint_agent.specs.Timely.{MayTake}
use Rattle.endpoint_agent.proofs.agent.Agent.take_down.Goals as goal

pub take_allocation-requires-clause-may_take : goal.take_allocation-requires-clause-may_take
take_allocation-requires-clause-may_take c =
    let agent : AgentState = c.args.self.now in
    let down : Down = c.decode_down.new.into in
    let is : down ≡ down_of c.args.bytes.now = c.in_default.ensures.read in
    let own : IsOwn agent.me agent.endpoints agent.b c.args.bytes.now =
    subst (λ (a : AgentState). IsOwn a.me a.endpoints a.b c.args.bytes.now) c.self.view_is
    (record { spelled = sym c.in_default.ensures.refused; destination = ap (λ (d : Down). d.dst) (sym is) ∙ c.if-down-self.false }) in
    let (calls, stands, may) = c.requires.may_take in (
      calls,
      stands,
      λ it. subst (λ (d : Down). MayTake agent.g calls c.args.round (down_packet d)) (sym is) (may own (subst (λ (d : Down). takes calls (down_packet d) ≡ true) is it)),
    )

pub returns-clause-answer : goal.returns-clause-answer
returns-clause-answer c = λ calls stands.
    let agent : AgentState = c.args.self.now in
    let down : Down = c.decode_down.new.into in
    let is : down ≡ down_of c.args.bytes.now = c.in_default.ensures.read in
    c.take_allocation.ensures.answer calls stands
    ∙ (ap (refusal_of_packet agent.me calls) is
    ∙ subst (λ (a : AgentState). refusal_of_packet agent.me calls (down_of c.args.bytes.now) ≡ refusal_or (first_refusal (refuses_down a.endpoints a.b c.args.bytes.now)) (refusal_of_packet agent.me calls (down_of c.args.bytes.now))) c.self.view_is
    (ap (λ (r : Option FrameRefused). refusal_or r (refusal_of_packet agent.me calls (down_of c.args.bytes.now))) c.in_default.ensures.refused))

pub returns-clause-stands : goal.returns-clause-stands
returns-clause-stands c = λ own calls stands.
    let new : AgentState = c.take_allocation.new.self in
    let down : Down = c.decode_down.new.into in
    let is : down ≡ down_of c.args.bytes.now = c.in_default.ensures.read in
    subst (λ (d : Down). AgentStandsFor new (TakesDown c.args.round (down_packet d) ∷ calls)) is (c.take_allocation.ensures.stands calls stands)
