use Rattle.std.proofs.Common.{◌≡◌, ℕ, List, replicate, sym, ◌∙◌, ap, subst, arith}
use Rattle.std.proofs.lemmas.List.{replicate_more}
use Rattle.endpoint_history.specs.Agent.{AgentHistory, Boots}
use Rattle.endpoint_agent.specs.State.{AgentState}
use Rattle.endpoint_agent.specs.Standing as agents
use Rattle.lane_rounds.specs.State.{with_each}
use Rattle.lane_rounds.proofs.Arriving.{with_each-more}
use Rattle.lane_rounds.proofs.rounds.boot_all.Goals as goal

pub loop-preserved : goal.loop-preserved
loop-preserved c =
    let same = c.loop.invariant.same in
    let frame = c.boot.ensures.frame in
    let version = c.args.version in
    let counter = c.loop.counter in
    let next = ap (λ (a : AgentState). a.epoch) frame in
    record {
      same = record {
        me = ap (λ (a : AgentState). a.me) frame ∙ same.me;
        endpoints = ap (λ (a : AgentState). a.endpoints) frame ∙ same.endpoints;
        b = ap (λ (a : AgentState). a.b) frame ∙ same.b;
        g = ap (λ (a : AgentState). a.g) frame ∙ same.g;
        round = ap (λ (a : AgentState). a.round) frame ∙ same.round;
        is_made = ap (λ (a : AgentState). a.is_made) frame ∙ same.is_made;
      };
      epoch = omega (arith, next, c.loop.invariant.epoch);
      stands = λ calls stood.
          subst (λ (h : AgentHistory). agents.AgentStandsFor c.boot.new.self h) (sym (ap (λ (xs : List ℕ). with_each Boots xs calls) (sym (replicate_more counter version)) ∙ with_each-more Boots (replicate counter version) version calls))
          (c.boot.ensures.stands (with_each Boots (replicate counter version) calls) (c.loop.invariant.stands calls stood));
    }

pub returns-clause-stands : goal.returns-clause-stands
returns-clause-stands c = λ calls stood.
    let all : c.loop.counter ≡ c.args.boots = omega (arith, c.loop-test.false, c.loop.auto.counter-end) in
    subst (λ (n : ℕ). agents.AgentStandsFor c.loop.agent (with_each Boots (replicate n c.args.version) calls)) all (c.loop.invariant.stands calls stood)
