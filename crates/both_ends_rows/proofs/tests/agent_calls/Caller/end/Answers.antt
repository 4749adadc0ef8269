use Rattle.std.proofs.Common.{◌∷◌, ◌∙◌, ap}
use Rattle.endpoint_history.specs.Agent.{MakesUp, SendsDue}
use Rattle.endpoint_agent.specs.State.{AgentState}
use Rattle.both_ends_rows.proofs.tests.agent_calls.Caller.end.Goals as goal

pub returns : goal.returns
returns g c =
    let it = c.args.self.now in
    let is = c.requires in
    let made = c.make_up-length.ensures.frame in
    let sent = c.send_due.ensures.frame in
    record {
      me = ap (λ (s : AgentState). s.me) sent ∙ ap (λ (s : AgentState). s.me) made ∙ is.me;
      endpoints = ap (λ (s : AgentState). s.endpoints) sent ∙ ap (λ (s : AgentState). s.endpoints) made ∙ is.endpoints;
      b = ap (λ (s : AgentState). s.b) sent ∙ ap (λ (s : AgentState). s.b) made ∙ is.b;
      g = ap (λ (s : AgentState). s.g) sent ∙ ap (λ (s : AgentState). s.g) made ∙ is.g;
      at = ap (λ (s : AgentState). s.round) sent;
      not_made = ap (λ (s : AgentState). s.is_made) sent;
      epoch = ap (λ (s : AgentState). s.epoch) sent ∙ ap (λ (s : AgentState). s.epoch) made ∙ is.epoch;
      calls = SendsDue it.round ∷ MakesUp ∷ is.calls;
      stands = c.send_due.ensures.stands (MakesUp ∷ is.calls) (c.make_up-length.ensures.stands is.calls is.stands);
      asked = is.asked;
      apart = is.apart;
      told = is.told;
    }
