use Rattle.std.proofs.Common.{List, [], ◌∷◌, ◌∙◌, ap, subst, refl}
use Rattle.fcp_framing.specs.declared.packet.Told.{Told}
use Rattle.endpoint_history.specs.Lane.{MakesDown}
use Rattle.arbiter_lane.specs.Standing as lanes
use Rattle.front_desk.proofs.line.lane_in_round_0.Goals as goal

pub returns-clause-reads : goal.returns-clause-reads
returns-clause-reads c =
    let opened = c.in_ok-lane.ensures in
    let made = c.make_down-none_before_a_reset in
    record {
      endpoint_is = ap (λ lane. lane.endpoint) made.ensures.frame ∙ opened.endpoint;
      endpoints_are = ap (λ lane. lane.endpoints) made.ensures.frame ∙ opened.endpoints;
      round = ap (λ lane. lane.round) made.ensures.frame ∙ opened.stands.round;
      stands = subst (λ (told : List Told). lanes.LaneStandsFor made.new.self (MakesDown 0 told ∷ []) []) c.new.ensures (made.ensures.stands [] [] opened.stands);
      answers_are = refl;
    }
