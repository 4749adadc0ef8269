use Rattle.std.proofs.Common.{◌≡◌, List, [], length, sym, ◌∙◌, ap, subst, arith}
use Rattle.std.proofs.lemmas.List.{length-replicate}
use Rattle.endpoint_agent.specs.declared.lines.FlowLine.{FlowLine}
use Rattle.endpoint_agent.specs.State.{AgentState, IsSound}
use Rattle.endpoint_agent.specs.Standing.{HasHistory}
use Rattle.endpoint_agent.proofs.Calls.{StandsFor-opens}
use Rattle.endpoint_agent.proofs.Sound.{blank-lines, opened, Sound-opens}
use Rattle.endpoint_agent.proofs.Walking.{no_line}
use Rattle.endpoint_agent.proofs.agent.Agent.open.Goals as goal

pub invariant_of-result : goal.invariant_of-result
invariant_of-result c =
    let me = c.args.me in
    let endpoints = c.args.endpoints in
    let b = c.args.b in
    let g = c.args.g in
    let heard = c.new.result in
    let sent = c.in_ok-sent.sent in
    let lines = c.in_ok-lines.lines.items in
    let line = c.default.result in
    let zeros = c.default.ensures in
    let blank : line ≡ no_line = λ i. record { asked = zeros.0 i; sent = zeros.1.0 i; missed = zeros.1.1.0 i; carried_from = zeros.1.1.1 i } in
    let is = c.in_ok-lines.ensures.items_if_clones_equal (λ y same. same) in
    let none = blank-lines endpoints line lines blank is in
    let long : length lines ≡ endpoints = ap (λ (ls : List FlowLine). length ls) is ∙ length-replicate endpoints line in
    let newest = c.in_ok-sent.ensures.stands.newest in
    let named = c.default-2.ensures.1.1.1.1.1.1.1 in
    let waiting = c.open_places.ensures in
    let whole : record (opened me endpoints b g heard sent lines) { named = c.default-2.result.demands.items; waiting = c.open_places.result } ≡ opened me endpoints b g heard sent lines = λ i. record (opened me endpoints b g heard sent lines) { named = named i; waiting = waiting i } in
    let both = subst (λ (a : AgentState). IsSound a × HasHistory a) (sym whole) (
      Sound-opens me endpoints b g heard sent lines c.requires.own c.requires.endpoints c.new.ensures.version c.in_ok-sent.ensures.version newest long none,
      ([], StandsFor-opens me endpoints b g heard sent lines c.new.ensures.stands c.in_ok-sent.ensures.stands none),
    ) in (
      both.0,
      both.1,
      record {
        number = c.default-2.ensures.1.1.1.1.0 ∙ sym newest;
        marked = λ dst unmarked. let it = ap (λ (l : FlowLine). l.carried_from) (none dst) in omega (arith, it);
      },
    )
