-- What is recorded was asked for or missed.
use Rattle.std.proofs.Common.{◌≡◌, ℕ, ◌+◌, ◌≤◌, Bool, true, false, cond, ◌==◌, List, [], ◌∷◌, Some, sym, ◌∙◌, ap, subst, refl, inl, inr, arith}
use Rattle.std.specs.Prelude.{sum_by, map, filter}
use Rattle.std.proofs.lemmas.Bool.{cases_eq, cases_Bool, eq-eqb, ne_eqb, and_parts}
use Rattle.std.proofs.lemmas.List.Sums.{sum_by-cons}
use Rattle.std.specs.List.{range_with_len}
use Rattle.ack_window.specs.Ends.{Numbered, content_of}
use Rattle.ack_window.specs.Sends.{Event, newest_of}
use Rattle.fcp_framing.specs.declared.packet.Demand.{Demand}
use Rattle.endpoint_history.specs.Packets.{Telling, Resets, Requests, slots_to}
use Rattle.endpoint_history.specs.Agent as agent
use Rattle.endpoint_history.specs.Agent.{AgentEvent, AgentHistory, Boots, Asks, TakesDown, MakesUp, SendsDue, TakenDown, until, slots_taken}
use Rattle.endpoint_history.specs.Confirmed.{total_named}
use Rattle.endpoint_history.specs.Lane as lane
use Rattle.endpoint_history.specs.Lane.{LaneEvent, LaneHistory, MakesDown, TakesUp, Records}
use Rattle.endpoint_history.specs.Counts as counts
use Rattle.endpoint_history.specs.Steps.{OfAgent, OfLane, agent_of, lane_of}
use Rattle.endpoint_history.specs.BothEnds.{End, lane_end, Joined}
use Rattle.endpoint_history.specs.SlotLaws.{RecordedIsTotal, TotalsAgree, InTimeIsAsked}
use Rattle.endpoint_history.specs.Windows.{Windows}
use Rattle.endpoint_history.proofs.AgentEnd.{until-cases, until-now, made-is_of}
use Rattle.endpoint_history.proofs.LaneEnd as lane_proofs
use Rattle.endpoint_history.proofs.LaneEnd.{end-stays, end-restarts}
use Rattle.endpoint_history.proofs.BothEnds.{ComesFromAgent, ends_agree}
use Rattle.endpoint_history.proofs.SlotSums.{sum_by-split}
use Rattle.endpoint_history.proofs.Slots.{taken_and_lost_are_told}

-- a total grows within a boot
pub total-grows : (g : ℕ) (event : AgentEvent) (history : AgentHistory) (dst : ℕ) → agent.epoch_of (event ∷ history) ≡ agent.epoch_of history → agent.total g history dst ≤ agent.total g (event ∷ history) dst
unfolding agent.total
total-grows g (Boots version) history dst stays = absurd (omega arith)
total-grows g (SendsDue round) history dst stays = omega arith
total-grows g MakesUp history dst stays = omega arith
total-grows g (Asks to slots) history dst stays =
    elim (to == dst) as (λ b. agent.asked history dst + agent.missed g history dst ≤ cond b (agent.asked history dst + slots) (agent.asked history dst) + agent.missed g history dst) [ true ↦ omega arith | false ↦ omega arith ]
total-grows g (TakesDown round packet) history dst stays =
    elim (cases_Bool (agent.takes history packet)) [
      | inr left ↦ rw left (omega arith)
      | inl taken ↦
          let more = sum_by-cons (λ (t : TakenDown). cond (agent.is_in_time g t) 0 (slots_to dst t.packet.content.told)) (record { round = round; packet = packet }) (agent.taken history) in
          rw taken (omega arith)
    ]

-- a request names no more
named-within : (total : ℕ → ℕ) (test : Demand → Bool) (dsts : List ℕ) (dst : ℕ) → total_named dst (filter test (map (λ d. record { dst = d; total = total d }) dsts)) ≤ total dst
named-within total test [] dst = omega arith
named-within total test (d ∷ dsts) dst =
    let rest = named-within total test dsts dst in
    let others = total_named dst (filter test (map (λ n. record { dst = n; total = total n }) dsts)) in
    elim (test (record { dst = d; total = total d })) as (λ b. total_named dst (cond b (record { dst = d; total = total d } ∷ filter test (map (λ n. record { dst = n; total = total n }) dsts)) (filter test (map (λ n. record { dst = n; total = total n }) dsts))) ≤ total dst) [
      | false ↦ rest
      | true ↦
          elim (cases_eq d dst) [
            | inl same ↦ let is = ap total same in rw (eq-eqb d dst same) (omega arith)
            | inr other ↦ rw (ne_eqb d dst other) rest
          ]
    ]

unconfirmed-within : (endpoints g : ℕ) (history : AgentHistory) (sent : List (Event (List Demand))) (dst : ℕ) → total_named dst (agent.unconfirmed endpoints g history sent) ≤ agent.total g history dst
unfolding agent.unconfirmed
unconfirmed-within endpoints g history sent dst = named-within (λ d. agent.total g history d) _ (range_with_len 0 endpoints) dst

-- every request of a boot names at most the boot's total
pub named-total : (endpoints g : ℕ) (history : AgentHistory) (number : ℕ) (demands : List Demand) (dst : ℕ) → content_of (agent.numbers endpoints g history) number ≡ Some demands → total_named dst demands ≤ agent.total g history dst
named-total endpoints g [] number demands dst is = absurd (cc)
named-total endpoints g (Boots version ∷ history) number demands dst is = absurd (cc)
named-total endpoints g (Asks to slots ∷ history) number demands dst is = omega (arith, named-total endpoints g history number demands dst is, total-grows g (Asks to slots) history dst refl)
named-total endpoints g (SendsDue round ∷ history) number demands dst is = omega (arith, named-total endpoints g history number demands dst is, total-grows g (SendsDue round) history dst refl)
named-total endpoints g (TakesDown round packet ∷ history) number demands dst is =
    let before : content_of (agent.numbers endpoints g history) number ≡ Some demands =
    elim (cases_Bool (agent.is_current history packet)) [ inl current ↦ rw current at is | inr other ↦ rw other at is ] in
    omega (arith, named-total endpoints g history number demands dst before, total-grows g (TakesDown round packet) history dst refl)
named-total endpoints g (MakesUp ∷ history) number demands dst is =
    let sent = agent.numbers endpoints g history in
    let grows = total-grows g MakesUp history dst refl in
    elim (cases_Bool (agent.sends_new history sent)) [
      | inr again ↦ omega (arith, grows, named-total endpoints g history number demands dst (rw again at is))
      | inl new ↦
          let it = rw new at is in
          elim (cases_eq number (newest_of sent + 1)) [
            | inl latest ↦
                let here : Some (agent.unconfirmed endpoints g history sent) ≡ Some demands = subst (λ (b : Bool). cond b (Some (agent.unconfirmed endpoints g history sent)) (content_of sent number) ≡ Some demands) (eq-eqb number (newest_of sent + 1) latest) it in
                let same : agent.unconfirmed endpoints g history sent ≡ demands = cc in
                let within = unconfirmed-within endpoints g history sent dst in
                let named = ap (λ ds. total_named dst ds) same in
                omega arith
            | inr other ↦
                let earlier : content_of sent number ≡ Some demands = subst (λ (b : Bool). cond b (Some (agent.unconfirmed endpoints g history sent)) (content_of sent number) ≡ Some demands) (ne_eqb number (newest_of sent + 1) other) it in
                omega (arith, grows, named-total endpoints g history number demands dst earlier)
          ]
    ]

-- ---- both ends

agent-recorded : (endpoints g : ℕ) (lane_history : LaneHistory) (event : AgentEvent) (history : AgentHistory) →
    Joined endpoints g history (lane_end g lane_history) → RecordedIsTotal g history lane_history → RecordedIsTotal g (event ∷ history) lane_history
agent-recorded endpoints g lane_history event history j recorded dst =
    elim (until-cases (lane.epoch_of lane_history) event history j.epochs) [
      | inl same ↦ subst (λ (h : AgentHistory). counts.recorded lane_history dst ≤ agent.total g h dst) (sym same) (recorded dst)
      | inr present ↦
          let before = subst (λ (h : AgentHistory). counts.recorded lane_history dst ≤ agent.total g h dst) present.before (recorded dst) in
          let grows = total-grows g event history dst present.stays in
          subst (λ (h : AgentHistory). counts.recorded lane_history dst ≤ agent.total g h dst) (sym present.after) (omega arith)
    ]

takes-parts : (lane_history : LaneHistory) (packet : Numbered (List Demand)) → lane.takes lane_history packet ≡ true → lane.is_current lane_history packet ≡ true
unfolding lane.takes
takes-parts lane_history packet h = (and_parts (lane.is_current lane_history packet) _ h).0

lane-recorded : (w : Windows) (endpoints g : ℕ) (history : AgentHistory) (event : LaneEvent) (lane_history : LaneHistory) → ComesFromAgent endpoints g history event →
    RecordedIsTotal g history lane_history → RecordedIsTotal g history (event ∷ lane_history)
lane-recorded w endpoints g history (Records round) lane_history comes recorded = recorded
lane-recorded w endpoints g history (MakesDown round told) lane_history comes recorded = recorded
lane-recorded w endpoints g history (TakesUp round (Resets epoch version)) lane_history comes recorded =
    λ dst. elim (cases_Bool (lane.restarts lane_history epoch)) [
      | inl new ↦ rw new (omega arith)
      | inr old ↦
          let stays = ap (λ (e : End Telling). e.epoch) (end-stays g round epoch version lane_history old) in
          rw old (subst (λ (n : ℕ). counts.recorded lane_history dst ≤ agent.total g (until n history) dst) (sym stays) (recorded dst))
    ]
lane-recorded w endpoints g history (TakesUp round (Requests packet)) lane_history comes recorded =
    λ dst. elim (cases_Bool (lane.takes lane_history packet)) [
      | inr left ↦ rw left (recorded dst)
      | inl takes ↦
          let parts = lane_proofs.current-parts lane_history packet (takes-parts lane_history packet takes) in
          let made = made-is_of w endpoints g history (Requests packet) comes in
          let named = named-total endpoints g (until packet.epoch history) packet.seq packet.content dst made.2.content in
          let here = subst (λ (n : ℕ). total_named dst packet.content ≤ agent.total g (until n history) dst) parts.0 named in
          let before = recorded dst in
          rw takes (omega arith)
    ]

pub totals_agree : (w : Windows) → TotalsAgree
totals_agree w endpoints g [] arrives = λ dst. omega arith
totals_agree w endpoints g (OfAgent (Boots version) ∷ steps) arrives = agent-recorded endpoints g (lane_of steps) (Boots version) (agent_of steps) (ends_agree w endpoints g steps arrives) (totals_agree w endpoints g steps arrives)
totals_agree w endpoints g (OfAgent (Asks dst slots) ∷ steps) arrives = agent-recorded endpoints g (lane_of steps) (Asks dst slots) (agent_of steps) (ends_agree w endpoints g steps arrives) (totals_agree w endpoints g steps arrives)
totals_agree w endpoints g (OfAgent (TakesDown round packet) ∷ steps) arrives = agent-recorded endpoints g (lane_of steps) (TakesDown round packet) (agent_of steps) (ends_agree w endpoints g steps arrives.1) (totals_agree w endpoints g steps arrives.1)
totals_agree w endpoints g (OfAgent MakesUp ∷ steps) arrives = agent-recorded endpoints g (lane_of steps) MakesUp (agent_of steps) (ends_agree w endpoints g steps arrives) (totals_agree w endpoints g steps arrives)
totals_agree w endpoints g (OfAgent (SendsDue round) ∷ steps) arrives = agent-recorded endpoints g (lane_of steps) (SendsDue round) (agent_of steps) (ends_agree w endpoints g steps arrives) (totals_agree w endpoints g steps arrives)
totals_agree w endpoints g (OfLane (MakesDown round told) ∷ steps) arrives = lane-recorded w endpoints g (agent_of steps) (MakesDown round told) (lane_of steps) tt (totals_agree w endpoints g steps arrives)
totals_agree w endpoints g (OfLane (TakesUp round packet) ∷ steps) arrives = lane-recorded w endpoints g (agent_of steps) (TakesUp round packet) (lane_of steps) arrives.0 (totals_agree w endpoints g steps arrives.1)
totals_agree w endpoints g (OfLane (Records round) ∷ steps) arrives = lane-recorded w endpoints g (agent_of steps) (Records round) (lane_of steps) tt (totals_agree w endpoints g steps arrives)

-- ---- slots in time are asked for

pub total-is : (g : ℕ) (history : AgentHistory) (dst : ℕ) → agent.total g history dst ≡ agent.asked history dst + agent.missed g history dst
unfolding agent.total
total-is g history dst = refl

pub in_time_is_asked : (w : Windows) → InTimeIsAsked
in_time_is_asked w endpoints g steps arrives owed dst =
    let history = agent_of steps in
    let lane_history = lane_of steps in
    let j = ends_agree w endpoints g steps arrives in
    let split = sum_by-split (λ (t : TakenDown). agent.is_in_time g t) (λ (t : TakenDown). slots_to dst t.packet.content.told) (agent.taken history) in
    elim (cases_eq (lane.epoch_of lane_history) (agent.epoch_of history)) [
      | inl same ↦
          let now : until (lane.epoch_of lane_history) history ≡ history = ap (λ n. until n history) same ∙ until-now history in
          let taken = subst (λ (h : AgentHistory). slots_taken h dst + counts.lost g lane_history dst ≤ counts.told g lane_history dst) now (taken_and_lost_are_told w endpoints g steps arrives dst) in
          let recorded = subst (λ (h : AgentHistory). counts.recorded lane_history dst ≤ agent.total g h dst) now (totals_agree w endpoints g steps arrives dst) in
          let within = owed dst in
          let sum = total-is g history dst in
          omega arith
      | inr other ↦
          let epochs = j.epochs in
          let none = (j.untouched (agent.epoch_of history) (omega arith) (omega arith)).taken in
          let empty : agent.taken history ≡ [] = ap agent.taken (sym (until-now history)) ∙ none in
          let nothing = ap (λ ts. sum_by (λ (t : TakenDown). cond (agent.is_in_time g t) (slots_to dst t.packet.content.told) 0) ts) empty in
          omega arith
    ]
