-- Slots, at both ends.
use Rattle.std.proofs.Common.{◌≡◌, ℕ, ◌+◌, true, false, ◌&&◌, cond, nat_lt, List, [], ◌∷◌, Option, Some, None, sym, ◌∙◌, ap, subst, refl, inl, inr, arith}
use Rattle.std.proofs.lemmas.Bool.{cases_Bool, ltb-true}
use Rattle.std.proofs.lemmas.List.Sums.{sum_by-cons}
use Rattle.ack_window.specs.declared.acknowledgement.Decision.{Decision}
use Rattle.ack_window.specs.declared.acknowledgement.Decision.TheVariants.{Acknowledged, Lost}
use Rattle.ack_window.specs.declared.take_window.Taken.{Taken}
use Rattle.ack_window.specs.declared.take_window.Taken.TheVariants.{Fresh, Repeat, Old}
use Rattle.ack_window.specs.Acknowledgement.{is_found_lost}
use Rattle.ack_window.specs.Arrivals.{receive_verdict, is_fresh, is_number_taken}
use Rattle.ack_window.specs.Ends.{content_of}
use Rattle.ack_window.specs.Sends.{Event, newest_of, decision_of}
use Rattle.ack_window.specs.Versions.{reorder_of, span_of}
use Rattle.endpoint_history.specs.Packets.{Telling, DownPacket, Resets, Requests, slots_to}
use Rattle.endpoint_history.specs.Agent as agent
use Rattle.endpoint_history.specs.Agent.{AgentEvent, AgentHistory, Boots, Asks, TakesDown, MakesUp, SendsDue, TakenDown, until, slots_taken}
use Rattle.endpoint_history.specs.Lane as lane
use Rattle.endpoint_history.specs.Lane.{LaneEvent, LaneHistory, MakesDown, TakesUp, Records}
use Rattle.endpoint_history.specs.Counts as counts
use Rattle.endpoint_history.specs.Counts.{slots_in}
use Rattle.endpoint_history.specs.Steps.{Step, OfAgent, OfLane, agent_of, lane_of, ArrivesFromOther}
use Rattle.endpoint_history.specs.BothEnds.{End, lane_end, Joined}
use Rattle.endpoint_history.specs.SlotLaws.{EachSlotIsTakenOnce, TakenAndLostAreTold, SlotsAgree}
use Rattle.endpoint_history.specs.Windows.{Windows}
use Rattle.endpoint_history.proofs.AgentEnd.{until-cases, current-parts, takes-current, made-is_of}
use Rattle.endpoint_history.proofs.LaneEnd.{made-was_made, end-stays, end-restarts}
use Rattle.endpoint_history.proofs.BothEnds.{ComesFromLane, ComesFromAgent, ends_agree}
use Rattle.endpoint_history.proofs.SlotSums.{slots_in-nothing, slots_in-reads, slots_in-sends, slots_in-same, slots_in-one, slots_in-apart}

pub fresh_is : (t : Taken) → is_fresh t ≡ true → t ≡ Fresh
fresh_is Fresh h = refl
fresh_is Repeat h = absurd (cc)
fresh_is Old h = absurd (cc)

-- ---- a number arrives

once-fresh : (w : Windows) (reorder : ℕ) (arrived : List ℕ) (sent : List (Event Telling)) (number : ℕ) (content : Telling) (dst : ℕ) → content_of sent number ≡ Some content →
    receive_verdict reorder arrived number ≡ Fresh →
    slots_in (is_number_taken reorder (number ∷ arrived)) sent dst ≡ slots_in (is_number_taken reorder arrived) sent dst + slots_to dst content.told
once-fresh w reorder arrived sent number content dst is fresh =
    slots_in-one w (is_number_taken reorder arrived) (is_number_taken reorder (number ∷ arrived)) sent dst number content is (w.once.first reorder arrived number fresh)
    (w.once.fresh reorder arrived number fresh)
    (λ other differs. sym (w.once.other reorder number arrived other (λ h. differs (sym h))))

once-stale : (w : Windows) (reorder : ℕ) (arrived : List ℕ) (sent : List (Event Telling)) (number : ℕ) (dst : ℕ) → is_fresh (receive_verdict reorder arrived number) ≡ false →
    slots_in (is_number_taken reorder (number ∷ arrived)) sent dst ≡ slots_in (is_number_taken reorder arrived) sent dst
once-stale w reorder arrived sent number dst stale =
    slots_in-same w (is_number_taken reorder (number ∷ arrived)) (is_number_taken reorder arrived) sent dst (λ n counted known. w.once.stale reorder number arrived n stale)

pub takes-fresh : (history : AgentHistory) (packet : DownPacket) → agent.is_current history packet ≡ true →
    agent.takes history packet ≡ is_fresh (receive_verdict (reorder_of (agent.version_of history)) (agent.arrived history) packet.seq)
unfolding agent.takes
takes-fresh history packet current = rw current refl

present-once : (w : Windows) (g : ℕ) (lane_history : LaneHistory) (event : AgentEvent) (history : AgentHistory) → ComesFromLane g lane_history event →
    lane.epoch_of lane_history ≡ agent.epoch_of history → lane.version_of lane_history ≡ agent.version_of history → agent.epoch_of (event ∷ history) ≡ agent.epoch_of history →
    ((dst : ℕ) → slots_taken history dst ≡ slots_in (is_number_taken (reorder_of (lane.version_of lane_history)) (agent.arrived history)) (lane.numbers g lane_history) dst) →
    (dst : ℕ) → slots_taken (event ∷ history) dst ≡ slots_in (is_number_taken (reorder_of (lane.version_of lane_history)) (agent.arrived (event ∷ history))) (lane.numbers g lane_history) dst
present-once w g lane_history (Boots version) history comes here same stays once dst = absurd (omega arith)
present-once w g lane_history (Asks to slots) history comes here same stays once dst = once dst
present-once w g lane_history (SendsDue round) history comes here same stays once dst = once dst
present-once w g lane_history MakesUp history comes here same stays once dst = once dst
present-once w g lane_history (TakesDown round packet) history comes here same stays once dst =
    let v = lane.version_of lane_history in
    let sent = lane.numbers g lane_history in
    elim (cases_Bool (agent.is_current history packet)) [
      | inr other ↦ rw (other, takes-current history packet other) (once dst)
      | inl current ↦
          let parts = current-parts history packet current in
          let is = (made-was_made w g lane_history packet comes).of_end (parts.0 ∙ sym here) in
          let as_judged = takes-fresh history packet current ∙ ap (λ n. is_fresh (receive_verdict (reorder_of n) (agent.arrived history) packet.seq)) (sym same) in
          elim (cases_Bool (is_fresh (receive_verdict (reorder_of v) (agent.arrived history) packet.seq))) [
            | inl fresh ↦
                let takes : agent.takes history packet ≡ true = as_judged ∙ fresh in
                rw (current, takes)
                (let more = once-fresh w (reorder_of v) (agent.arrived history) sent packet.seq packet.content dst is.2.content (fresh_is _ fresh) in
                let pushed = sum_by-cons (λ (t : TakenDown). slots_to dst t.packet.content.told) (record { round = round; packet = packet }) (agent.taken history) in
                let before = once dst in
                omega arith)
            | inr stale ↦
                let leaves : agent.takes history packet ≡ false = as_judged ∙ stale in
                rw (current, leaves) (once dst ∙ sym (once-stale w (reorder_of v) (agent.arrived history) sent packet.seq dst stale))
          ]
    ]

agent-once : (w : Windows) (endpoints g : ℕ) (lane_history : LaneHistory) (event : AgentEvent) (history : AgentHistory) → ComesFromLane g lane_history event →
    Joined endpoints g history (lane_end g lane_history) → EachSlotIsTakenOnce g history lane_history → EachSlotIsTakenOnce g (event ∷ history) lane_history
agent-once w endpoints g lane_history event history comes j once =
    let e = lane.epoch_of lane_history in
    let v = lane.version_of lane_history in
    let P : AgentHistory → Type 0 = λ h. (dst : ℕ) → slots_taken h dst ≡ slots_in (is_number_taken (reorder_of v) (agent.arrived h)) (lane.numbers g lane_history) dst in
    elim (until-cases e event history j.epochs) [
      | inl same ↦ subst P (sym same) once
      | inr present ↦
          subst P (sym present.after)
          (present-once w g lane_history event history comes (sym present.here) (j.version ∙ ap agent.version_of present.before) present.stays (subst P present.before once))
    ]

lane-once : (w : Windows) (endpoints g : ℕ) (history : AgentHistory) (event : LaneEvent) (lane_history : LaneHistory) → ComesFromAgent endpoints g history event →
    Joined endpoints g history (lane_end g lane_history) → EachSlotIsTakenOnce g history lane_history → EachSlotIsTakenOnce g history (event ∷ lane_history)
lane-once w endpoints g history (Records round) lane_history comes j once = once
lane-once w endpoints g history (MakesDown round told) lane_history comes j once =
    let v = lane.version_of lane_history in
    let sent = lane.numbers g lane_history in
    let arrived = agent.arrived (until (lane.epoch_of lane_history) history) in
    let above = j.down.none_above in
    λ dst. elim (cases_Bool (nat_lt 0 (lane.epoch_of lane_history) && lane.may_send lane_history sent)) [
      | inr again ↦ rw again (once dst)
      | inl new ↦
          let push = slots_in-sends w (is_number_taken (reorder_of v) arrived) (lane.telling_in g lane_history round told) sent dst in
          let none = ap (λ b. cond b (slots_to dst (lane.telling_in g lane_history round told).told) 0) (w.come.above (reorder_of v) arrived (newest_of sent + 1) (omega arith)) in
          let before = once dst in
          rw new (omega arith)
    ]
lane-once w endpoints g history (TakesUp round (Requests packet)) lane_history comes j once =
    λ dst. elim (cases_Bool (lane.is_current lane_history packet)) [
      | inr other ↦ rw other (once dst)
      | inl current ↦ rw current (once dst ∙ sym (slots_in-reads w (is_number_taken (reorder_of (lane.version_of lane_history)) (agent.arrived (until (lane.epoch_of lane_history) history))) packet.ack (lane.numbers g lane_history) dst))
    ]
lane-once w endpoints g history (TakesUp round (Resets epoch version)) lane_history comes j once =
    let P : End Telling → Type 0 = λ e. (dst : ℕ) → slots_taken (until e.epoch history) dst ≡ slots_in (is_number_taken (reorder_of e.version) (agent.arrived (until e.epoch history))) e.sent dst in
    elim (cases_Bool (lane.restarts lane_history epoch)) [
      | inr old ↦ subst P (sym (end-stays g round epoch version lane_history old)) once
      | inl new ↦
          let greater = ltb-true (lane.epoch_of lane_history) epoch new in
          let is = made-is_of w endpoints g history (Resets epoch version) comes in
          let u = j.untouched epoch greater is.0 in
          subst P (sym (end-restarts g round epoch version lane_history new))
          (λ dst. rw u.taken (sym (slots_in-nothing w (is_number_taken (reorder_of version) (agent.arrived (until epoch history))) dst)))
    ]

pub each_is_taken_once : (w : Windows) (endpoints g : ℕ) (steps : List Step) → ArrivesFromOther endpoints g steps → EachSlotIsTakenOnce g (agent_of steps) (lane_of steps)
each_is_taken_once w endpoints g [] arrives = λ dst. sym (slots_in-nothing w (is_number_taken 4 []) dst)
each_is_taken_once w endpoints g (OfAgent (Boots version) ∷ steps) arrives = agent-once w endpoints g (lane_of steps) (Boots version) (agent_of steps) tt (ends_agree w endpoints g steps arrives) (each_is_taken_once w endpoints g steps arrives)
each_is_taken_once w endpoints g (OfAgent (Asks dst slots) ∷ steps) arrives = agent-once w endpoints g (lane_of steps) (Asks dst slots) (agent_of steps) tt (ends_agree w endpoints g steps arrives) (each_is_taken_once w endpoints g steps arrives)
each_is_taken_once w endpoints g (OfAgent (TakesDown round packet) ∷ steps) arrives = agent-once w endpoints g (lane_of steps) (TakesDown round packet) (agent_of steps) arrives.0 (ends_agree w endpoints g steps arrives.1) (each_is_taken_once w endpoints g steps arrives.1)
each_is_taken_once w endpoints g (OfAgent MakesUp ∷ steps) arrives = agent-once w endpoints g (lane_of steps) MakesUp (agent_of steps) tt (ends_agree w endpoints g steps arrives) (each_is_taken_once w endpoints g steps arrives)
each_is_taken_once w endpoints g (OfAgent (SendsDue round) ∷ steps) arrives = agent-once w endpoints g (lane_of steps) (SendsDue round) (agent_of steps) tt (ends_agree w endpoints g steps arrives) (each_is_taken_once w endpoints g steps arrives)
each_is_taken_once w endpoints g (OfLane (MakesDown round told) ∷ steps) arrives = lane-once w endpoints g (agent_of steps) (MakesDown round told) (lane_of steps) tt (ends_agree w endpoints g steps arrives) (each_is_taken_once w endpoints g steps arrives)
each_is_taken_once w endpoints g (OfLane (TakesUp round packet) ∷ steps) arrives = lane-once w endpoints g (agent_of steps) (TakesUp round packet) (lane_of steps) arrives.0 (ends_agree w endpoints g steps arrives.1) (each_is_taken_once w endpoints g steps arrives.1)
each_is_taken_once w endpoints g (OfLane (Records round) ∷ steps) arrives = lane-once w endpoints g (agent_of steps) (Records round) (lane_of steps) tt (ends_agree w endpoints g steps arrives) (each_is_taken_once w endpoints g steps arrives)

-- ---- taken and lost

lost_is : (d : Option Decision) → is_found_lost d ≡ true → d ≡ Some Lost
lost_is None h = absurd (cc)
lost_is (Some Acknowledged) h = absurd (cc)
lost_is (Some Lost) h = refl

pub taken_and_lost_are_told : (w : Windows) (endpoints g : ℕ) (steps : List Step) → ArrivesFromOther endpoints g steps → TakenAndLostAreTold g (agent_of steps) (lane_of steps)
taken_and_lost_are_told w endpoints g steps arrives dst =
    let history = agent_of steps in
    let lane_history = lane_of steps in
    let v = lane.version_of lane_history in
    let sent = lane.numbers g lane_history in
    let j = ends_agree w endpoints g steps arrives in
    let once = each_is_taken_once w endpoints g steps arrives dst in
    let apart = slots_in-apart w (is_number_taken (reorder_of v) (agent.arrived (until (lane.epoch_of lane_history) history))) (counts.decides is_found_lost lane_history sent) sent dst
    (λ number counted found. j.down.lost number counted (lost_is (decision_of (reorder_of v) (span_of v) sent number) found)) in
    omega arith

pub slots_agree : (w : Windows) → SlotsAgree
slots_agree w endpoints g steps arrives = (each_is_taken_once w endpoints g steps arrives, taken_and_lost_are_told w endpoints g steps arrives)
