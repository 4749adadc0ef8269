use Rattle.std.proofs.Common.{◌≡◌, ℕ, Option, map, take, sym, subst, refl}
use Rattle.std.specs.Prelude.{IsSome}
use Rattle.loss_world.specs.InTransit.{Held, with_packet, due_in}
use Rattle.endpoint_history.specs.Lane.{LaneHistory, TakesUp}
use Rattle.arbiter_lane.specs.State.{LaneState, IsSameLane}
use Rattle.arbiter_lane.specs.Standing as lanes
use Rattle.lane_rounds.specs.Standing.{HasCarried, spell_up}
use Rattle.lane_rounds.specs.Parts.{IsReadUp, reading, with_at_hand}
use Rattle.lane_rounds.proofs.Arriving.{with_each-more, at_hand-comes}
use Rattle.lane_rounds.proofs.Hearing.{carried-at_hand, read-one}
use Rattle.lane_rounds.proofs.rounds.read.Goals as goal

pub returns-in-Some-clause-stands : goal.returns-in-Some-clause-stands
returns-in-Some-clause-stands c = λ history allocations packets stood due each.
    let lane : LaneState = c.args.lane.now in
    let new : LaneState = c.take_up.new.self in
    let world : Held = c.args.world.now in
    let round = c.args.round in
    let bytes = take c.in-Some.length c.args.buf.now in
    let none = c.requires.alone (subst IsSome (sym c.in-Some.is) refl) in
    let same : IsSameLane lane lane = record { endpoint = refl; endpoints = refl; b = refl; g = refl; round = refl; is_made = refl } in
    at_hand-comes (spell_up lane.endpoint) (IsReadUp lane.endpoint lane.endpoints) (λ heard. lanes.LaneStandsFor lane (reading round heard history) allocations) (λ heard. lanes.LaneStandsFor new (reading round heard history) allocations)
    (due_in (with_packet round bytes world).flights round) packets bytes (c.packets_pass_at_once.ensures.due world round bytes none)
    (λ heard p q b stood. subst (λ (h : LaneHistory). lanes.LaneStandsFor new h allocations) (sym (with_each-more (TakesUp round) heard p history)) (read-one lane lane new round bytes p (reading round heard history) allocations same c.take_up.ensures.stands b q stood))
    (subst (λ (at_hand : Option ℕ). due_in (with_at_hand round at_hand c.args.buf.now world).flights round ≡ map (spell_up lane.endpoint) packets) c.in-Some.is due)
    each stood

pub returns-in-Some-clause-carried : goal.returns-in-Some-clause-carried
returns-in-Some-clause-carried c = λ departures it.
    let world : Held = c.args.world.now in
    let round = c.args.round in
    carried-at_hand c.packets_pass_at_once.ensures world round (take c.in-Some.length c.args.buf.now) departures
    (c.requires.alone (subst IsSome (sym c.in-Some.is) refl))
    (subst (λ (at_hand : Option ℕ). HasCarried (with_at_hand round at_hand c.args.buf.now world) round departures) c.in-Some.is it)

pub returns-in-None-clause-stands : goal.returns-in-None-clause-stands
returns-in-None-clause-stands c = λ history allocations packets stood due each.
    let lane : LaneState = c.args.lane.now in
    c.read_all.ensures.stands history allocations packets stood
    (subst (λ (at_hand : Option ℕ). due_in (with_at_hand c.args.round at_hand c.args.buf.now c.args.world.now).flights c.args.round ≡ map (spell_up lane.endpoint) packets) c.in-None.is due)
    each
