use Rattle.std.proofs.Common.{◌≡◌, ◌+◌, false, [], ◌∷◌, length, sym, subst, arith, ap}
use Rattle.endpoint_history.specs.Agent.{Boots}
use Rattle.endpoint_agent.specs.declared.lines.FlowLine.{FlowLine}
use Rattle.endpoint_agent.specs.contracts.agent.Agent.{the_view}
use Rattle.endpoint_agent.specs.State.{AgentState, IsSound}
use Rattle.endpoint_agent.specs.Standing.{HasHistory}
use Rattle.endpoint_agent.proofs.Calls.{StandsFor-boots}
use Rattle.endpoint_agent.proofs.Sound.{blank-lines, Sound-boots}
use Rattle.endpoint_agent.proofs.Walking.{no_line}
use Rattle.endpoint_agent.proofs.agent.Agent.boot.Goals as goal

pub invariant_of-self : goal.invariant_of-self
invariant_of-self c =
    let agent : AgentState = the_view c.self.inside in
    let (sound, calls, same) = c.self.invariant in
    let (history, stands) = calls in
    let version = c.args.version in
    let heard = c.new-self-inside.result in
    let sent = c.restart.new.self in
    let lines = c.fill.new.self.items in
    let line = c.default.result in
    let zeros = c.default.ensures in
    let blank : line ≡ no_line = λ i. record { asked = zeros.0 i; sent = zeros.1.0 i; missed = zeros.1.1.0 i; carried_from = zeros.1.1.1 i } in
    let is = c.fill.ensures.items (λ y equal. equal) in
    let none = blank-lines c.self.inside.lines.len line lines blank is in
    let long : length lines ≡ length agent.lines = omega (arith, c.fill.ensures.len) in
    let newest = c.restart.ensures.stands.newest in
    let named = c.clear.ensures in
    let waiting = c.forget.ensures in
    let after : AgentState = record agent { epoch = agent.epoch + 1; version = version; arrived = heard; sent = sent; has_begun = false; acknowledged = 0; named = []; lines = lines; waiting = [] ∷ [] ∷ [] ∷ [] } in
    let both = subst (λ (a : AgentState). IsSound a × HasHistory a) (λ i. record after { named = sym named i; waiting = sym waiting i }) (
      Sound-boots agent version heard sent lines sound c.requires.version c.new-self-inside.ensures.version c.restart.ensures.version newest long none,
      (Boots version ∷ history, StandsFor-boots agent history version heard sent lines stands c.new-self-inside.ensures.version c.restart.ensures.version c.new-self-inside.ensures.stands c.restart.ensures.stands none),
    ) in (
      both.0,
      both.1,
      record {
        number = sym newest;
        marked = λ dst unmarked. let it = ap (λ (l : FlowLine). l.carried_from) (none dst) in omega (arith, it);
      },
    )
