use Rattle.std.proofs.Common.{take, sym, ◌∙◌, subst, refl}
use Rattle.loss_world.specs.InTransit.{due_in}
use Rattle.endpoint_history.specs.Lane.{LaneHistory, TakesUp}
use Rattle.arbiter_lane.specs.State.{LaneState}
use Rattle.arbiter_lane.specs.Standing as lanes
use Rattle.lane_rounds.specs.Standing.{spell_up}
use Rattle.lane_rounds.specs.Parts.{IsReadUp, reading}
use Rattle.lane_rounds.proofs.Arriving.{with_each-more, none-yet, one-more, all-come}
use Rattle.lane_rounds.proofs.Hearing.{carried-begins, carried-asked, read-one}
use Rattle.lane_rounds.proofs.rounds.read_all.Goals as goal

pub loop-length-init : goal.loop-length-init
loop-length-init c =
    let was : LaneState = c.args.lane.now in
    record {
      same = record { endpoint = refl; endpoints = refl; b = refl; g = refl; round = refl; is_made = refl };
      stands = λ history allocations packets stood is each.
          none-yet (spell_up was.endpoint) (IsReadUp was.endpoint was.endpoints) (λ heard. lanes.LaneStandsFor was (reading c.args.round heard history) allocations) (due_in c.args.world.now.flights c.args.round) packets is each stood;
      carried = λ departures it. carried-begins c.args.world.now c.args.round departures it;
    }

pub loop-length-preserved : goal.loop-length-preserved
loop-length-preserved c =
    let was : LaneState = c.args.lane.now in
    let lane : LaneState = c.loop-length.lane in
    let new : LaneState = c.take_up.new.self in
    let bytes = take c.in-Some.length c.arrive.new.buf in
    let inv = c.loop-length.invariant in
    let same = inv.same in
    let took = c.take_up.ensures in
    record {
      same = record {
        endpoint = took.same.endpoint ∙ same.endpoint;
        endpoints = took.same.endpoints ∙ same.endpoints;
        b = took.same.b ∙ same.b;
        g = took.same.g ∙ same.g;
        round = took.same.round ∙ same.round;
        is_made = took.same.is_made ∙ same.is_made;
      };
      stands = λ history allocations packets stood is each.
          one-more (spell_up was.endpoint) (IsReadUp was.endpoint was.endpoints) (λ heard. lanes.LaneStandsFor lane (reading c.args.round heard history) allocations) (λ heard. lanes.LaneStandsFor new (reading c.args.round heard history) allocations)
          (due_in c.loop-length.world.flights c.args.round) (due_in c.arrive.new.self.flights c.args.round) packets bytes c.in-Some.ensures.first c.arrive.ensures.taken
          (λ heard p q b stood. subst (λ (h : LaneHistory). lanes.LaneStandsFor new h allocations) (sym (with_each-more (TakesUp c.args.round) heard p history)) (read-one was lane new c.args.round bytes p (reading c.args.round heard history) allocations same took.stands b q stood))
          (inv.stands history allocations packets stood is each);
      carried = λ departures it. carried-asked c.loop-length.world c.arrive.new.self c.args.round departures c.arrive.ensures.stands (inv.carried departures it);
    }

pub returns-clause-stands : goal.returns-clause-stands
returns-clause-stands c = λ history allocations packets stood is each.
    let was : LaneState = c.args.lane.now in
    all-come (spell_up was.endpoint) (IsReadUp was.endpoint was.endpoints) (λ heard. lanes.LaneStandsFor c.loop-length.lane (reading c.args.round heard history) allocations)
    (due_in c.loop-length.world.flights c.args.round) packets c.in_default.ensures.first (c.loop-length.invariant.stands history allocations packets stood is each)

pub returns-clause-carried : goal.returns-clause-carried
returns-clause-carried c = λ departures it.
    carried-asked c.loop-length.world c.arrive.new.self c.args.round departures c.arrive.ensures.stands (c.loop-length.invariant.carried departures it)
