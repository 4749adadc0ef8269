use Rattle.std.proofs.Common.{◌≡◌, ℕ, true, ◌∷◌, sym, ◌∙◌, ap, subst}
use Rattle.fcp_framing.specs.declared.packet.Down.{Down}
use Rattle.fcp_framing.specs.Refusals.{first_refusal, refuses_down}
use Rattle.endpoint_history.specs.Agent.{TakesDown, takes}
use Rattle.endpoint_history.specs.Packets.{down_packet}
use Rattle.endpoint_agent.specs.Refusals.{IsOwn}
use Rattle.endpoint_agent.specs.Standing.{AgentStandsFor}
use Rattle.endpoint_agent.specs.State.{AgentState}
use Rattle.endpoint_agent.specs.Timely.{MayTake}
use Rattle.both_ends_rows.proofs.Hearing.{may-take, heard-one}
use Rattle.both_ends_rows.proofs.tests.agent_calls.Caller.hear.Goals as goal

pub take_down-requires-clause-may_take : goal.take_down-requires-clause-may_take
take_down-requires-clause-may_take g c =
    let it = c.args.self.now in (
      c.requires.calls,
      c.requires.stands,
      λ own fresh.
          subst (λ (down : Down). MayTake it.agent.g c.requires.calls it.round (down_packet down)) c.read-down.ensures.read
          (may-take it.agent it.round it.epoch it.asked it.batch it.number c.read-down.result c.requires c.read-down.ensures.may
          (subst (λ (down : Down). takes c.requires.calls (down_packet down) ≡ true) (sym c.read-down.ensures.read) fresh)),
    )

pub returns : goal.returns
returns g c =
    let it = c.args.self.now in
    let bytes = c.args.bytes.now in
    let is = c.requires in
    let read = c.read-down.ensures.read in
    let own : IsOwn it.agent.me it.agent.endpoints it.agent.b bytes = record {
      spelled = ap (λ (n : ℕ). first_refusal (refuses_down n it.agent.b bytes)) is.endpoints
          ∙ ap (λ (n : ℕ). first_refusal (refuses_down 2 n bytes)) is.b
          ∙ c.read-down.ensures.spelled;
      destination = sym (ap (λ (d : Down). d.dst) read) ∙ c.read-down.ensures.may.destination ∙ sym is.me;
    } in
    let frame = c.take_down.ensures.frame in
    heard-one it.agent it.round it.epoch it.asked it.batch it.number c.read-down.result is c.read-down.ensures.may _ _ c.last_told-batch.ensures.this c.last_told-batch.ensures.other
    c.take_down.new.self
    (ap (λ (s : AgentState). s.me) frame) (ap (λ (s : AgentState). s.endpoints) frame) (ap (λ (s : AgentState). s.b) frame) (ap (λ (s : AgentState). s.g) frame)
    (ap (λ (s : AgentState). s.round) frame) (ap (λ (s : AgentState). s.is_made) frame) (ap (λ (s : AgentState). s.epoch) frame)
    (subst (λ (down : Down). AgentStandsFor c.take_down.new.self (TakesDown it.round (down_packet down) ∷ is.calls)) (sym read) (c.take_down.ensures.stands own is.calls is.stands))
