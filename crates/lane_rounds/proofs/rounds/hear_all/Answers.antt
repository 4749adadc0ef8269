use Rattle.std.proofs.Common.{◌≡◌, ℕ, ◌∷◌, true, map, take, drop, sym, ◌∙◌, ap, subst, refl}
use Rattle.loss_world.specs.InTransit.{due_in}
use Rattle.fcp_framing.specs.Fields.{down_of}
use Rattle.endpoint_history.specs.Packets.{DownPacket, down_packet}
use Rattle.endpoint_history.specs.Agent.{AgentHistory, TakesDown, takes}
use Rattle.endpoint_agent.specs.State.{AgentState}
use Rattle.endpoint_agent.specs.Timely.{MayTake}
use Rattle.endpoint_agent.specs.Standing as agents
use Rattle.lane_rounds.specs.Standing.{spell_down}
use Rattle.lane_rounds.specs.Parts.{IsReadDown, Each, MayHear, hearing}
use Rattle.lane_rounds.proofs.Arriving.{with_each-more, none-yet, first-of, one-more, all-come}
use Rattle.lane_rounds.proofs.Hearing.{carried-begins, carried-asked, heard-one}
use Rattle.lane_rounds.proofs.rounds.hear_all.Goals as goal

pub loop-length-init : goal.loop-length-init
loop-length-init c =
    let was : AgentState = c.args.agent.now in
    let due = due_in c.args.world.now.flights c.args.round in
    record {
      same = record { me = refl; endpoints = refl; b = refl; g = refl; round = refl; is_made = refl };
      may_hear = c.requires.may_hear;
      stands = λ calls packets stood is each.
          none-yet (spell_down was.me) (IsReadDown was.me was.endpoints was.b) (λ heard. agents.AgentStandsFor was (hearing c.args.round heard calls)) due packets is each stood;
      carried = λ departures it. carried-begins c.args.world.now c.args.round departures it;
    }

pub take_down-requires-clause-may_take : goal.take_down-requires-clause-may_take
take_down-requires-clause-may_take c =
    let was : AgentState = c.args.agent.now in
    let agent : AgentState = c.loop-length.agent in
    let bytes = take c.in-Some.length c.arrive.new.buf in
    let inv = c.loop-length.invariant in
    let (calls, packets, stands, due, each, may) = inv.may_hear in
    let f = first-of (spell_down was.me) bytes (due_in c.loop-length.world.flights c.args.round) packets due c.in-Some.ensures.first in
    let read = subst (Each (IsReadDown was.me was.endpoints was.b)) f.parts each in
    let may' = subst (MayHear was.g c.args.round calls) f.parts may in
    let is : down_packet (down_of bytes) ≡ f.first = ap (λ bs. down_packet (down_of bs)) f.bytes_of ∙ read.0.back in (
      calls,
      stands,
      λ own it. subst (λ (g : ℕ). MayTake g calls c.args.round (down_packet (down_of bytes))) (sym inv.same.g)
          (subst (MayTake was.g calls c.args.round) (sym is) (may'.0 (subst (λ (p : DownPacket). takes calls p ≡ true) is it))),
    )

pub loop-length-preserved : goal.loop-length-preserved
loop-length-preserved c =
    let was : AgentState = c.args.agent.now in
    let agent : AgentState = c.loop-length.agent in
    let new : AgentState = c.take_down.new.self in
    let bytes = take c.in-Some.length c.arrive.new.buf in
    let inv = c.loop-length.invariant in
    let same = inv.same in
    let frame = c.take_down.ensures.frame in
    let before = due_in c.loop-length.world.flights c.args.round in
    let after = due_in c.arrive.new.self.flights c.args.round in
    let (calls, packets, stands, due, each, may) = inv.may_hear in
    let f = first-of (spell_down was.me) bytes before packets due c.in-Some.ensures.first in
    let read = subst (Each (IsReadDown was.me was.endpoints was.b)) f.parts each in
    let may' = subst (MayHear was.g c.args.round calls) f.parts may in
    record {
      same = record {
        me = ap (λ (s : AgentState). s.me) frame ∙ same.me;
        endpoints = ap (λ (s : AgentState). s.endpoints) frame ∙ same.endpoints;
        b = ap (λ (s : AgentState). s.b) frame ∙ same.b;
        g = ap (λ (s : AgentState). s.g) frame ∙ same.g;
        round = ap (λ (s : AgentState). s.round) frame ∙ same.round;
        is_made = ap (λ (s : AgentState). s.is_made) frame ∙ same.is_made;
      };
      may_hear = (
        TakesDown c.args.round f.first ∷ calls,
        f.rest,
        heard-one was agent new c.args.round bytes f.first calls same c.take_down.ensures.stands f.bytes_of read.0 stands,
        c.arrive.ensures.taken ∙ ap (drop 1) (due ∙ ap (map (spell_down was.me)) f.parts),
        read.1,
        may'.1,
      );
      stands = λ calls packets stood is each.
          one-more (spell_down was.me) (IsReadDown was.me was.endpoints was.b) (λ heard. agents.AgentStandsFor agent (hearing c.args.round heard calls)) (λ heard. agents.AgentStandsFor new (hearing c.args.round heard calls))
          before after packets bytes c.in-Some.ensures.first c.arrive.ensures.taken
          (λ heard p q b stood. subst (λ (h : AgentHistory). agents.AgentStandsFor new h) (sym (with_each-more (TakesDown c.args.round) heard p calls)) (heard-one was agent new c.args.round bytes p (hearing c.args.round heard calls) same c.take_down.ensures.stands b q stood))
          (inv.stands calls packets stood is each);
      carried = λ departures it. carried-asked c.loop-length.world c.arrive.new.self c.args.round departures c.arrive.ensures.stands (inv.carried departures it);
    }

pub returns-clause-stands : goal.returns-clause-stands
returns-clause-stands c = λ calls packets stood is each.
    let was : AgentState = c.args.agent.now in
    all-come (spell_down was.me) (IsReadDown was.me was.endpoints was.b) (λ heard. agents.AgentStandsFor c.loop-length.agent (hearing c.args.round heard calls))
    (due_in c.loop-length.world.flights c.args.round) packets c.in_default.ensures.first (c.loop-length.invariant.stands calls packets stood is each)

pub returns-clause-carried : goal.returns-clause-carried
returns-clause-carried c = λ departures it.
    carried-asked c.loop-length.world c.arrive.new.self c.args.round departures c.arrive.ensures.stands (c.loop-length.invariant.carried departures it)
