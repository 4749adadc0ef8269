use Rattle.std.proofs.Common.{◌≡◌, ℕ, List, [], ◌∷◌, ◌++◌, sym, ◌∙◌, ap, subst}
use Rattle.std.proofs.lemmas.List.{append-nil}
use Rattle.std.proofs.lemmas.Result.{on_ok_weaker}
use Rattle.arbiter_lane.specs.Standing as lanes
use Rattle.arbiter_lane.specs.Refusals.{up_refusal}
use Rattle.lane_rounds.specs.Refused.{with_arrival, numbered_refusal}
use Rattle.lane_rounds.proofs.Raw.{with_bytes-stands}
use Rattle.lane_rounds.proofs.rounds.read_one.Goals as goal

pub returns-in-Ok-clause-stands : goal.returns-in-Ok-clause-stands
returns-in-Ok-clause-stands c = λ history allocations stood.
    subst (λ (bytes : List ℕ). lanes.LaneStandsFor c.take_up.new.self (with_arrival c.args.lane.now.endpoint c.args.lane.now.endpoints c.args.round bytes history) allocations) c.bytes.ensures
    (with_bytes-stands c.args.lane.now c.take_up.new.self c.args.round c.bytes.result.now _ c.take_up.ensures.answer c.take_up.ensures.unchanged c.take_up.ensures.stands history allocations stood)

pub returns-in-Err-clause-stands : goal.returns-in-Err-clause-stands
returns-in-Err-clause-stands c = λ history allocations stood.
    subst (λ (bytes : List ℕ). lanes.LaneStandsFor c.take_up.new.self (with_arrival c.args.lane.now.endpoint c.args.lane.now.endpoints c.args.round bytes history) allocations) c.bytes.ensures
    (with_bytes-stands c.args.lane.now c.take_up.new.self c.args.round c.bytes.result.now _ c.take_up.ensures.answer c.take_up.ensures.unchanged c.take_up.ensures.stands history allocations stood)

pub returns-in-Ok-clause-refused : goal.returns-in-Ok-clause-refused
returns-in-Ok-clause-refused c = λ history allocations stood.
    let was = c.args.refused.now in
    let place = c.args.packet.now.place in
    sym (append-nil was)
    ∙ ap (λ r. was ++ numbered_refusal place r) (c.in-Ok.ensures.answer history allocations stood)
    ∙ ap (λ bytes. was ++ numbered_refusal place (up_refusal c.args.lane.now.endpoint c.args.lane.now.endpoints history bytes)) c.bytes.ensures

pub returns-in-Err-clause-refused : goal.returns-in-Err-clause-refused
returns-in-Err-clause-refused c =
    on_ok_weaker c.push.result
    (λ (pushed : c.push.new.self ≡ c.args.refused.now ++ (c.place.result, c.number_of.result) ∷ []) history allocations stood.
    let was = c.args.refused.now in
    pushed
    ∙ ap (λ place. was ++ (place, c.number_of.result) ∷ []) c.place.ensures
    ∙ ap (λ number. was ++ (c.args.packet.now.place, number) ∷ []) c.number_of.ensures
    ∙ ap (λ r. was ++ numbered_refusal c.args.packet.now.place r) (c.in-Err.ensures.answer history allocations stood)
    ∙ ap (λ bytes. was ++ numbered_refusal c.args.packet.now.place (up_refusal c.args.lane.now.endpoint c.args.lane.now.endpoints history bytes)) c.bytes.ensures)
    c.push.ensures.ok
