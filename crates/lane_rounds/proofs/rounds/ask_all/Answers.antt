use Rattle.std.proofs.Common.{ℕ, List, ◌∷◌, take, get_or, sym, ◌∙◌, ap, subst, arith}
use Rattle.std.proofs.lemmas.List.{take_more, drop_more, take_all}
use Rattle.endpoint_history.specs.Agent.{AgentHistory, Asks}
use Rattle.endpoint_agent.specs.State.{AgentState}
use Rattle.endpoint_agent.specs.Standing as agents
use Rattle.lane_rounds.specs.State.{MayAsk, with_each}
use Rattle.lane_rounds.proofs.Arriving.{with_each-more}
use Rattle.lane_rounds.proofs.rounds.ask_all.Goals as goal

pub loop-dst-preserved : goal.loop-dst-preserved
loop-dst-preserved c =
    let asks = c.args.asks.now in
    let i = c.loop-dst.dst-index in
    let inv = c.loop-dst.invariant in
    let same = inv.same in
    let frame = c.ask.ensures.frame in
    let a : ℕ × ℕ = get_or asks i (0, 0) in
    let (calls, stands, asked) = inv.may_ask in
    let may = subst (λ (xs : List (ℕ × ℕ)). MayAsk c.args.agent.now.me c.args.agent.now.endpoints calls xs) (drop_more asks i (0, 0) c.loop-dst-test.true) asked in
    record {
      same = record {
        me = ap (λ (s : AgentState). s.me) frame ∙ same.me;
        endpoints = ap (λ (s : AgentState). s.endpoints) frame ∙ same.endpoints;
        b = ap (λ (s : AgentState). s.b) frame ∙ same.b;
        g = ap (λ (s : AgentState). s.g) frame ∙ same.g;
        round = ap (λ (s : AgentState). s.round) frame ∙ same.round;
        is_made = ap (λ (s : AgentState). s.is_made) frame ∙ same.is_made;
      };
      may_ask = (Asks a.0 a.1 ∷ calls, c.ask.ensures.stands calls stands, may.3);
      stands = λ calls stood.
          subst (λ (h : AgentHistory). agents.AgentStandsFor c.ask.new.self h) (sym (ap (λ (xs : List (ℕ × ℕ)). with_each (λ (x : ℕ × ℕ). Asks x.0 x.1) xs calls) (take_more asks i (0, 0) c.loop-dst-test.true) ∙ with_each-more (λ (x : ℕ × ℕ). Asks x.0 x.1) (take i asks) a calls))
          (c.ask.ensures.stands (with_each (λ (x : ℕ × ℕ). Asks x.0 x.1) (take i asks) calls) (inv.stands calls stood));
    }

pub returns-clause-stands : goal.returns-clause-stands
returns-clause-stands c = λ calls stood.
    subst (λ (xs : List (ℕ × ℕ)). agents.AgentStandsFor c.loop-dst.agent (with_each (λ (x : ℕ × ℕ). Asks x.0 x.1) xs calls)) (take_all c.loop-dst.dst-index c.args.asks.now (omega (arith, c.loop-dst-test.false))) (c.loop-dst.invariant.stands calls stood)
