use Rattle.std.proofs.Common.{[], sym, ◌∙◌, refl, arith}
use Rattle.lane_rounds.proofs.rounds.LaneRounds.open.Goals as goal

pub invariant_of-result : goal.invariant_of-result
invariant_of-result c = λ whole.
    let agent = c.in_ok-open.ensures in
    let lane = c.in_ok-open-2.ensures in
    let size = lane.b in (
      record {
        endpoint = agent.me ∙ sym lane.endpoint;
        endpoints = agent.endpoints ∙ sym lane.endpoints;
        b = agent.b ∙ sym lane.b;
        g = agent.g ∙ sym lane.g;
        slots = omega (arith, size, c.requires.most_slots);
        round = agent.stands.round ∙ sym lane.stands.round;
        up = agent.is_made;
        down = lane.is_made;
      },
      record {
        rounds = [];
        allocations = [];
        stands = record {
          agent = agent.stands;
          lane = lane.stands;
          down = record { calls = []; stands = c.in_ok-open-3.ensures.stands; handed = refl; asked = tt };
          up = record { calls = []; stands = c.in_ok-open-4.ensures.stands; handed = refl; asked = tt };
          downward = tt;
          upward = tt;
          within = tt;
          rises = tt;
          to = tt;
        };
      },
    )

pub returns-clause-stands : goal.returns-clause-stands
returns-clause-stands c =
    let agent = c.in_ok-open.ensures in
    let lane = c.in_ok-open-2.ensures in
    record {
      agent = agent.stands;
      lane = lane.stands;
      down = record { calls = []; stands = c.in_ok-open-3.ensures.stands; handed = refl; asked = tt };
      up = record { calls = []; stands = c.in_ok-open-4.ensures.stands; handed = refl; asked = tt };
      downward = tt;
      upward = tt;
      within = tt;
      rises = tt;
      to = tt;
    }
