-- What is read of a world, packet by packet, by the agent and by the lane.
use Rattle.std.proofs.Common.{◌≡◌, ℕ, ◌+◌, ◌≤◌, Bool, cond, List, [], ◌∷◌, sym, ◌∙◌, ap, subst, refl, arith}
use Rattle.std.proofs.lemmas.Bool.{le-leb}
use Rattle.loss_world.specs.Arrivals.{Departure}
use Rattle.loss_world.specs.History.{WorldCall, Departs, AsksFor, asked_of, WorldStandsFor}
use Rattle.loss_world.specs.AtOnce.{PacketsPassAtOnce}
use Rattle.loss_world.specs.InTransit.{Held, with_packet}
use Rattle.fcp_framing.specs.declared.packet.Told.{Told}
use Rattle.fcp_framing.specs.Fields.{up_of, down_of}
use Rattle.endpoint_history.specs.Reading.{AsksBelow}
use Rattle.endpoint_history.specs.Packets.{DownPacket, UpPacket, down_packet, up_packet, slots_to}
use Rattle.endpoint_history.specs.Agent.{AgentHistory, TakesDown}
use Rattle.endpoint_history.specs.Lane.{LaneHistory, TakesUp}
use Rattle.endpoint_history.specs.Counts.{Allocation}
use Rattle.endpoint_history.proofs.Reading.{below_next}
use Rattle.endpoint_agent.specs.declared.lines.FlowLine.{FlowLine}
use Rattle.endpoint_agent.specs.State.{AgentState}
use Rattle.endpoint_agent.specs.Standing as agents
use Rattle.endpoint_agent.specs.Refusals as agent_refusals
use Rattle.arbiter_lane.specs.State.{LaneState, IsSameLane}
use Rattle.arbiter_lane.specs.Standing as lanes
use Rattle.arbiter_lane.specs.Refusals as lane_refusals
use Rattle.lane_rounds.specs.Standing.{HasCarried, spell_down, spell_up}
use Rattle.lane_rounds.specs.Parts.{IsSameAgent, IsReadDown, IsReadUp}

-- ---- the world

asked_below : (round : ℕ) (history : List WorldCall) → AsksBelow (round + 1) history → asked_of history ≤ round
asked_below round [] below = omega arith
asked_below round (Departs packet ∷ history) below = asked_below round history below
asked_below round (AsksFor asked ∷ history) below = let low = below.0 in let rest = asked_below round history below.1 in omega arith

pub carried-begins : (world : Held) (round : ℕ) (sent : List Departure) → HasCarried world round sent → HasCarried world (round + 1) sent
carried-begins world round sent it = record { calls = it.calls; stands = it.stands; handed = it.handed; asked = below_next round it.calls it.asked }

pub carried-asked : (world next : Held) (round : ℕ) (sent : List Departure) →
    ((history : List WorldCall) → WorldStandsFor world history → asked_of history ≤ round → WorldStandsFor next (AsksFor round ∷ history)) →
    HasCarried world (round + 1) sent → HasCarried next (round + 1) sent
carried-asked world next round sent arrives it = record {
  calls = AsksFor round ∷ it.calls;
  stands = arrives it.calls it.stands (asked_below round it.calls it.asked);
  handed = it.handed;
  asked = (omega arith, it.asked);
}

-- what was at hand is gone once it is read
pub carried-at_hand : (passes : PacketsPassAtOnce) (world : Held) (round : ℕ) (bytes : List ℕ) (sent : List Departure) → world.flights ≡ [] →
    HasCarried (with_packet round bytes world) round sent → HasCarried world (round + 1) sent
carried-at_hand passes world round bytes sent none it =
    carried-asked (with_packet round bytes world) world round sent (λ history stands order. passes.gone world history round bytes none stands order)
    (carried-begins (with_packet round bytes world) round sent it)

-- ---- the agent

-- a packet that arrives is one more call
pub own-down : (was agent : AgentState) (bytes : List ℕ) (p : DownPacket) → IsSameAgent was agent → bytes ≡ spell_down was.me p → IsReadDown was.me was.endpoints was.b p →
    agent_refusals.IsOwn agent.me agent.endpoints agent.b bytes
own-down was agent bytes p same is it =
    subst (λ n. agent_refusals.IsOwn n agent.endpoints agent.b bytes) (sym same.me)
    (subst (λ n. agent_refusals.IsOwn was.me n agent.b bytes) (sym same.endpoints)
    (subst (λ n. agent_refusals.IsOwn was.me was.endpoints n bytes) (sym same.b)
    (subst (λ bs. agent_refusals.IsOwn was.me was.endpoints was.b bs) (sym is) it.own)))

pub heard-one : (was agent new : AgentState) (round : ℕ) (bytes : List ℕ) (p : DownPacket) (calls : AgentHistory) → IsSameAgent was agent →
    (agent_refusals.IsOwn agent.me agent.endpoints agent.b bytes → (calls : AgentHistory) → agents.AgentStandsFor agent calls → agents.AgentStandsFor new (TakesDown round (down_packet (down_of bytes)) ∷ calls)) →
    bytes ≡ spell_down was.me p → IsReadDown was.me was.endpoints was.b p → agents.AgentStandsFor agent calls → agents.AgentStandsFor new (TakesDown round p ∷ calls)
heard-one was agent new round bytes p calls same taken is it stands =
    subst (λ q. agents.AgentStandsFor new (TakesDown round q ∷ calls)) (ap (λ bs. down_packet (down_of bs)) is ∙ it.back) (taken (own-down was agent bytes p same is it) calls stands)

-- ---- the lane

pub read-one : (was lane new : LaneState) (round : ℕ) (bytes : List ℕ) (p : UpPacket) (history : LaneHistory) (allocations : List Allocation) → IsSameLane was lane →
    (lane_refusals.IsOwnUp lane.endpoint lane.endpoints bytes → (history : LaneHistory) (allocations : List Allocation) → lanes.LaneStandsFor lane history allocations → lanes.LaneStandsFor new (TakesUp round (up_packet (up_of bytes)) ∷ history) allocations) →
    bytes ≡ spell_up was.endpoint p → IsReadUp was.endpoint was.endpoints p → lanes.LaneStandsFor lane history allocations → lanes.LaneStandsFor new (TakesUp round p ∷ history) allocations
read-one was lane new round bytes p history allocations same taken is it stands =
    let own =
    subst (λ n. lane_refusals.IsOwnUp n lane.endpoints bytes) (sym same.endpoint)
    (subst (λ n. lane_refusals.IsOwnUp was.endpoint n bytes) (sym same.endpoints)
    (subst (λ bs. lane_refusals.IsOwnUp was.endpoint was.endpoints bs) (sym is) it.own)) in
    subst (λ q. lanes.LaneStandsFor new (TakesUp round q ∷ history) allocations) (ap (λ bs. up_packet (up_of bs)) is ∙ it.back) (taken own history allocations stands)
