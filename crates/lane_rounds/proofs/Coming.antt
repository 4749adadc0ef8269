-- What an agent asks of the allocations that it hears follows from how a lane makes them, whatever packets are forged upward.
use Rattle.std.proofs.Common.{◌≡◌, ◌≢◌, ◌⊎◌, ℕ, ◌+◌, ◌*◌, ◌<◌, ◌≤◌, Bool, true, false, cond, ◌&&◌, ◌==◌, List, [], ◌∷◌, ◌++◌, filter, sym, ◌∙◌, ap, subst, inl, inr, arith, mul-le-mul_right, mul-le-mul_left}
use Rattle.std.specs.List.{flat_map}
use Rattle.std.proofs.lemmas.Bool.{cases_Bool, and_parts, eqb-true, lt-leb}
use Rattle.list_facts.specs.Order.{sort_by}
use Rattle.ack_window.specs.Arrivals.{receive_verdict, is_fresh, is_number_taken}
use Rattle.ack_window.specs.Laws.{EachIsTakenOnce, TakingIsForGood}
use Rattle.ack_window.specs.Versions.{reorder_of}
use Rattle.ack_window.specs.declared.take_window.Taken.TheVariants.{Fresh}
use Rattle.fcp_framing.specs.declared.packet.Told.{Told}
use Rattle.endpoint_history.specs.Packets.{DownPacket, UpPacket, slots_to}
use Rattle.endpoint_history.specs.Agent.{AgentHistory, Boots, Asks, TakesDown, MakesUp, SendsDue, TakenDown, taken, takes, is_current, arrived, version_of, is_in_time, missed}
use Rattle.endpoint_history.specs.AgentLaws.{TakingBringsSlots}
use Rattle.endpoint_history.specs.Bounds.{TakenIsFew}
use Rattle.endpoint_history.specs.ForgedLaws.{ComesAfterTwoWindows, OneNumberForABatch}
use Rattle.endpoint_history.specs.Lane.{MakesDown, TakesUp, Records}
use Rattle.endpoint_history.specs.Rounds.{then_each}
use Rattle.endpoint_history.specs.Sending.{Slot, due}
use Rattle.endpoint_history.specs.Steps.{Step, OfAgent, OfLane, agent_of, lane_of, WasMadeDown, rounds_begun, RoundsRise, ArrivesFromLane}
use Rattle.endpoint_history.specs.Tellings.{Among, ToldWithin, ToldRises}
use Rattle.endpoint_history.proofs.NeverTaken.{WasMadeDown-later}
use Rattle.endpoint_history.proofs.Slots.{fresh_is}
use Rattle.endpoint_agent.specs.Timely.{BatchesAreApart}
use Rattle.lane_rounds.specs.Parts.{MayHear}

-- ---- what was taken was made, and its number was taken

taken-made : (g : ℕ) (steps : List Step) → ArrivesFromLane g steps → (t : TakenDown) → Among t (taken (agent_of steps)) → WasMadeDown g (lane_of steps) t.packet
taken-made g [] arrives t among = absurd among
taken-made g (OfLane event ∷ steps) arrives t among = WasMadeDown-later g event (lane_of steps) t.packet (taken-made g steps arrives t among)
taken-made g (OfAgent (Boots version) ∷ steps) arrives t among = absurd among
taken-made g (OfAgent (Asks to slots) ∷ steps) arrives t among = taken-made g steps arrives t among
taken-made g (OfAgent MakesUp ∷ steps) arrives t among = taken-made g steps arrives t among
taken-made g (OfAgent (SendsDue round) ∷ steps) arrives t among = taken-made g steps arrives t among
taken-made g (OfAgent (TakesDown round packet) ∷ steps) arrives t among =
    let one : TakenDown = record { round = round; packet = packet } in
    elim (cases_Bool (takes (agent_of steps) packet)) [
      | inl on ↦
          elim (subst (λ (b : Bool). Among t (cond b (one ∷ taken (agent_of steps)) (taken (agent_of steps)))) on among) [
            | inl same ↦ subst (λ (x : TakenDown). WasMadeDown g (lane_of steps) x.packet) same arrives.0
            | inr earlier ↦ taken-made g steps arrives.2 t earlier
          ]
      | inr off ↦ taken-made g steps arrives.2 t (subst (λ (b : Bool). Among t (cond b (one ∷ taken (agent_of steps)) (taken (agent_of steps)))) off among)
    ]

takes-parts : (history : AgentHistory) (packet : DownPacket) → takes history packet ≡ true →
    (is_current history packet ≡ true) × (receive_verdict (reorder_of (version_of history)) (arrived history) packet.seq ≡ Fresh)
unfolding takes
takes-parts history packet it =
    let verdict = receive_verdict (reorder_of (version_of history)) (arrived history) packet.seq in
    let both = and_parts (is_current history packet) (is_fresh verdict) it in
    (both.0, fresh_is verdict both.1)

taken-is : (once : EachIsTakenOnce) (good : TakingIsForGood) (history : AgentHistory) (t : TakenDown) → Among t (taken history) →
    is_number_taken (reorder_of (version_of history)) (arrived history) t.packet.seq ≡ true
taken-is once good [] t among = absurd among
taken-is once good (Boots version ∷ history) t among = absurd among
taken-is once good (Asks to slots ∷ history) t among = taken-is once good history t among
taken-is once good (MakesUp ∷ history) t among = taken-is once good history t among
taken-is once good (SendsDue round ∷ history) t among = taken-is once good history t among
taken-is once good (TakesDown round packet ∷ history) t among =
    let one : TakenDown = record { round = round; packet = packet } in
    let reorder = reorder_of (version_of history) in
    let before : Among t (taken history) → is_number_taken reorder (packet.seq ∷ arrived history) t.packet.seq ≡ true = λ a. good.taken reorder (packet.seq ∷ []) (arrived history) t.packet.seq (taken-is once good history t a) in
    elim (cases_Bool (takes history packet)) [
      | inl on ↦
          let parts = takes-parts history packet on in
          subst (λ (b : Bool). is_number_taken reorder (cond b (packet.seq ∷ arrived history) (arrived history)) t.packet.seq ≡ true) (sym parts.0)
          (elim (subst (λ (b : Bool). Among t (cond b (one ∷ taken history) (taken history))) on among) [
            | inl same ↦ subst (λ (x : TakenDown). is_number_taken reorder (packet.seq ∷ arrived history) x.packet.seq ≡ true) same (once.fresh reorder (arrived history) packet.seq parts.1)
            | inr earlier ↦ before earlier
          ])
      | inr off ↦
          let earlier = subst (λ (b : Bool). Among t (cond b (one ∷ taken history) (taken history))) off among in
          elim (is_current history packet) as (λ b. is_number_taken reorder (cond b (packet.seq ∷ arrived history) (arrived history)) t.packet.seq ≡ true) [
            | true ↦ before earlier
            | false ↦ taken-is once good history t earlier
          ]
    ]

-- ---- no two that are taken tell slots of one batch

-- the laws of the crates below that this needs
pub record Laws : Type 0 where
  pub late : ComesAfterTwoWindows
  pub one : OneNumberForABatch
  pub once : EachIsTakenOnce
  pub good : TakingIsForGood

-- a packet that is taken tells none of a batch of which an earlier one told
apart-before : (laws : Laws) (g : ℕ) (steps : List Step) (packet : DownPacket) → ArrivesFromLane g steps → RoundsRise (lane_of steps) → WasMadeDown g (lane_of steps) packet →
    takes (agent_of steps) packet ≡ true → packet.content.told ≢ [] → (t : TakenDown) → Among t (taken (agent_of steps)) → t.packet.content.told ≢ [] → t.packet.content.batch ≢ packet.content.batch
apart-before laws g steps packet arrives rise made it some t among told same =
    let history = agent_of steps in
    let verdict = takes-parts history packet it in
    let first = laws.once.first (reorder_of (version_of history)) (arrived history) packet.seq verdict.1 in
    let number = laws.one g (lane_of steps) t.packet packet rise (taken-made g steps arrives t among) made told some same in
    let came = taken-is laws.once laws.good history t among in
    let both : true ≡ false = sym came ∙ ap (λ (n : ℕ). is_number_taken (reorder_of (version_of history)) (arrived history) n) number.1 ∙ first in
    absurd (cc)

all-apart : (laws : Laws) (g : ℕ) (steps : List Step) → ArrivesFromLane g steps → RoundsRise (lane_of steps) → BatchesAreApart (taken (agent_of steps))
all-apart laws g [] arrives rise = tt
all-apart laws g (OfLane (MakesDown round told) ∷ steps) arrives rise = all-apart laws g steps arrives rise.1
all-apart laws g (OfLane (TakesUp round up) ∷ steps) arrives rise = all-apart laws g steps arrives rise
all-apart laws g (OfLane (Records round) ∷ steps) arrives rise = all-apart laws g steps arrives rise
all-apart laws g (OfAgent (Boots version) ∷ steps) arrives rise = tt
all-apart laws g (OfAgent (Asks to slots) ∷ steps) arrives rise = all-apart laws g steps arrives rise
all-apart laws g (OfAgent MakesUp ∷ steps) arrives rise = all-apart laws g steps arrives rise
all-apart laws g (OfAgent (SendsDue round) ∷ steps) arrives rise = all-apart laws g steps arrives rise
all-apart laws g (OfAgent (TakesDown round packet) ∷ steps) arrives rise =
    let one : TakenDown = record { round = round; packet = packet } in
    let earlier = all-apart laws g steps arrives.2 rise in
    elim (cases_Bool (takes (agent_of steps) packet)) [
      | inl on ↦
          subst (λ (b : Bool). BatchesAreApart (cond b (one ∷ taken (agent_of steps)) (taken (agent_of steps)))) (sym on)
          (λ some. apart-before laws g steps packet arrives.2 rise arrives.0 on some, earlier)
      | inr off ↦ subst (λ (b : Bool). BatchesAreApart (cond b (one ∷ taken (agent_of steps)) (taken (agent_of steps)))) (sym off) earlier
    ]

-- ---- packet by packet

pub from-lane-heard : (g round : ℕ) (packets : List DownPacket) (steps : List Step) → ArrivesFromLane g (then_each (λ packet. OfAgent (TakesDown round packet)) packets steps) → ArrivesFromLane g steps
from-lane-heard g round [] steps arrives = arrives
from-lane-heard g round (p ∷ packets) steps arrives = (from-lane-heard g round packets (OfAgent (TakesDown round p) ∷ steps) arrives).2

pub from-lane-read : (g round : ℕ) (packets : List UpPacket) (steps : List Step) → ArrivesFromLane g (then_each (λ packet. OfLane (TakesUp round packet)) packets steps) → ArrivesFromLane g steps
from-lane-read g round [] steps arrives = arrives
from-lane-read g round (p ∷ packets) steps arrives = from-lane-read g round packets (OfLane (TakesUp round p) ∷ steps) arrives

pub may-hear : (laws : Laws) (g round : ℕ) (packets : List DownPacket) (steps : List Step) → ArrivesFromLane g (then_each (λ packet. OfAgent (TakesDown round packet)) packets steps) →
    RoundsRise (lane_of steps) → MayHear g round (agent_of steps) packets
may-hear laws g round [] steps arrives rise = tt
may-hear laws g round (p ∷ packets) steps arrives rise =
    let here = from-lane-heard g round packets (OfAgent (TakesDown round p) ∷ steps) arrives in (
      λ it. record {
        late = λ some. laws.late g steps round p rise here.0 here.1 some;
        apart = (λ some. apart-before laws g steps p here.2 rise here.0 it some, all-apart laws g steps here.2 rise);
      },
      may-hear laws g round packets (OfAgent (TakesDown round p) ∷ steps) arrives rise,
    )
