-- Both ends agree after every call.
use Rattle.std.proofs.Common.{◌≡◌, ℕ, ◌+◌, ◌<◌, ◌≤◌, ◌&&◌, nat_lt, List, [], ◌∷◌, sym, ◌∙◌, subst, refl, inl, inr, arith}
use Rattle.std.proofs.lemmas.Bool.{cases_Bool, cases_lt, ltb-true}
use Rattle.ack_window.specs.Ends.{IsOf}
use Rattle.ack_window.specs.Sends.{Event}
use Rattle.ack_window.specs.Versions.{reorder_of, span_of}
use Rattle.endpoint_history.specs.Packets.{Telling, Resets, Requests}
use Rattle.endpoint_history.specs.Agent as agent
use Rattle.endpoint_history.specs.Agent.{AgentEvent, AgentHistory, Boots, Asks, TakesDown, MakesUp, SendsDue, until}
use Rattle.endpoint_history.specs.Lane as lane
use Rattle.endpoint_history.specs.Lane.{LaneEvent, LaneHistory, MakesDown, TakesUp, Records}
use Rattle.endpoint_history.specs.Steps.{OfAgent, OfLane, agent_of, lane_of, WasMadeUp, WasMadeDown}
use Rattle.endpoint_history.specs.BothEnds.{AgreeAt, End, lane_end, IsUntouched, Joined}
use Rattle.endpoint_history.specs.NumberLaws.{EndsAgree}
use Rattle.endpoint_history.specs.Windows.{Windows}
use Rattle.endpoint_history.proofs.AgentEnd.{until-here, until-cases, epoch-grows, current-parts, not_current, takes-current, may-sends_new, none-sends_new, made-is_of}
use Rattle.endpoint_history.proofs.LaneEnd as lane_proofs
use Rattle.endpoint_history.proofs.LaneEnd.{WasMade, made-was_made, end-stays, end-restarts, may-sends}

-- ---- a call of the agent

-- the packet that it takes, if it takes one, was made by the lane
abbrev pub ComesFromLane : ℕ → LaneHistory → AgentEvent → Type 0
ComesFromLane g history (TakesDown round packet) = WasMadeDown g history packet
ComesFromLane g history _ = Unit {0}

-- a boot above the lane's epoch stays untouched
untouched-call : (w : Windows) (endpoints g : ℕ) (lane_history : LaneHistory) (event : AgentEvent) (history : AgentHistory) → ComesFromLane g lane_history event →
    lane.epoch_of lane_history < agent.epoch_of history → agent.epoch_of (event ∷ history) ≡ agent.epoch_of history →
    IsUntouched endpoints g history → IsUntouched endpoints g (event ∷ history)
untouched-call w endpoints g lane_history (Boots version) history comes above stays u = absurd (omega arith)
untouched-call w endpoints g lane_history (Asks dst slots) history comes above stays u = record { taken = u.taken; arrived = u.arrived; sent = u.sent }
untouched-call w endpoints g lane_history (SendsDue round) history comes above stays u = record { taken = u.taken; arrived = u.arrived; sent = u.sent }
untouched-call w endpoints g lane_history MakesUp history comes above stays u =
    record { taken = u.taken; arrived = u.arrived; sent = rw (none-sends_new history (agent.numbers endpoints g history) u.taken) u.sent }
untouched-call w endpoints g lane_history (TakesDown round packet) history comes above stays u =
    let known = (made-was_made w g lane_history packet comes).known in
    let other = not_current history packet (omega arith) in
    record { taken = rw (takes-current history packet other) u.taken; arrived = rw other u.arrived; sent = rw other u.sent }

untouched-boot : (endpoints g : ℕ) (event : AgentEvent) (history : AgentHistory) → agent.epoch_of history < agent.epoch_of (event ∷ history) → IsUntouched endpoints g (event ∷ history)
untouched-boot endpoints g (Boots version) history new = record { taken = refl; arrived = refl; sent = refl }
untouched-boot endpoints g (Asks dst slots) history new = absurd (omega arith)
untouched-boot endpoints g (TakesDown round packet) history new = absurd (omega arith)
untouched-boot endpoints g MakesUp history new = absurd (omega arith)
untouched-boot endpoints g (SendsDue round) history new = absurd (omega arith)

epoch-next : (event : AgentEvent) (history : AgentHistory) → agent.epoch_of (event ∷ history) ≤ agent.epoch_of history + 1
epoch-next (Boots version) history = omega arith
epoch-next (Asks dst slots) history = omega arith
epoch-next (TakesDown round packet) history = omega arith
epoch-next MakesUp history = omega arith
epoch-next (SendsDue round) history = omega arith

-- what a call of the present boot keeps
pub record Present (endpoints g version : ℕ) (history : AgentHistory) (sent : List (Event Telling)) (arrived : List ℕ) : Type 0 where
  pub same : version ≡ agent.version_of history
  pub down : AgreeAt version sent (agent.arrived history)
  pub up : AgreeAt version (agent.numbers endpoints g history) arrived

present-call : (w : Windows) (endpoints g : ℕ) (lane_history : LaneHistory) (event : AgentEvent) (history : AgentHistory) → ComesFromLane g lane_history event →
    lane.epoch_of lane_history ≡ agent.epoch_of history → agent.epoch_of (event ∷ history) ≡ agent.epoch_of history →
    Present endpoints g (lane.version_of lane_history) history (lane.numbers g lane_history) (lane.arrived lane_history) →
    Present endpoints g (lane.version_of lane_history) (event ∷ history) (lane.numbers g lane_history) (lane.arrived lane_history)
present-call w endpoints g lane_history (Boots version) history comes here stays p = absurd (omega arith)
present-call w endpoints g lane_history (Asks dst slots) history comes here stays p = record { same = p.same; down = p.down; up = p.up }
present-call w endpoints g lane_history (SendsDue round) history comes here stays p = record { same = p.same; down = p.down; up = p.up }
present-call w endpoints g lane_history MakesUp history comes here stays p =
    let v = lane.version_of lane_history in
    let sent = agent.numbers endpoints g history in
    record {
      same = p.same;
      down = p.down;
      up = elim (cases_Bool (agent.sends_new history sent)) [
        | inr again ↦ rw again p.up
        | inl new ↦
            rw new
            (w.up.sends (reorder_of v) (span_of v) sent (lane.arrived lane_history) (agent.unconfirmed endpoints g history sent) p.up
            (rw p.same (may-sends_new history sent new)))
      ];
    }
present-call w endpoints g lane_history (TakesDown round packet) history comes here stays p =
    let v = lane.version_of lane_history in
    elim (cases_Bool (agent.is_current history packet)) [
      | inr other ↦ record { same = p.same; down = rw other p.down; up = rw other p.up }
      | inl current ↦
          let parts = current-parts history packet current in
          let is = (made-was_made w g lane_history packet comes).of_end (parts.0 ∙ sym here) in
          record {
            same = p.same;
            down = rw current (w.down.arrives (reorder_of v) (span_of v) (lane.numbers g lane_history) (agent.arrived history) packet.seq p.down is.2.known);
            up = rw current (w.up.reads (reorder_of v) (span_of v) (agent.numbers endpoints g history) (lane.arrived lane_history) packet.ack p.up is.2.reads);
          }
    ]

agent-call : (w : Windows) (endpoints g : ℕ) (lane_history : LaneHistory) (event : AgentEvent) (history : AgentHistory) → ComesFromLane g lane_history event →
    Joined endpoints g history (lane_end g lane_history) → Joined endpoints g (event ∷ history) (lane_end g lane_history)
agent-call w endpoints g lane_history event history comes j =
    let e = lane.epoch_of lane_history in
    let v = lane.version_of lane_history in
    let now : Present endpoints g v (until e (event ∷ history)) (lane.numbers g lane_history) (lane.arrived lane_history) =
    elim (until-cases e event history j.epochs) [
      | inl same ↦
          subst (λ (h : AgentHistory). Present endpoints g v h (lane.numbers g lane_history) (lane.arrived lane_history)) (sym same)
          (record { same = j.version; down = j.down; up = j.up })
      | inr present ↦
          subst (λ (h : AgentHistory). Present endpoints g v h (lane.numbers g lane_history) (lane.arrived lane_history)) (sym present.after)
          (present-call w endpoints g lane_history event history comes (sym present.here) present.stays
          (subst (λ (h : AgentHistory). Present endpoints g v h (lane.numbers g lane_history) (lane.arrived lane_history)) present.before
          (record { same = j.version; down = j.down; up = j.up })))
    ] in
    record {
      epochs = grown;
      untouched = λ epoch above begun. untouched epoch above begun;
      version = now.same;
      down = now.down;
      up = now.up;
    }
  where
    grown : lane.epoch_of lane_history ≤ agent.epoch_of (event ∷ history)
    grown = elim (until-cases (agent.epoch_of history) event history (omega arith)) [
      | inl same ↦ let known = j.epochs in let grows = epoch-grows event history in omega arith
      | inr present ↦ let known = j.epochs in let stays = present.stays in omega arith
    ]

    untouched : (epoch : ℕ) → lane.epoch_of lane_history < epoch → epoch ≤ agent.epoch_of (event ∷ history) → IsUntouched endpoints g (until epoch (event ∷ history))
    untouched epoch above begun =
        elim (cases_lt (agent.epoch_of history) epoch) [
          | inl new ↦
              let next = epoch-next event history in
              let here : agent.epoch_of (event ∷ history) ≡ epoch = omega arith in
              subst (λ (h : AgentHistory). IsUntouched endpoints g h) (sym (until-here epoch event history here)) (untouched-boot endpoints g event history (omega arith))
          | inr old ↦
              elim (until-cases epoch event history old) [
                | inl same ↦ subst (λ (h : AgentHistory). IsUntouched endpoints g h) (sym same) (j.untouched epoch above old)
                | inr present ↦
                    let here = present.here in
                    subst (λ (h : AgentHistory). IsUntouched endpoints g h) (sym present.after)
                    (untouched-call w endpoints g lane_history event history comes (omega arith) present.stays
                    (subst (λ (h : AgentHistory). IsUntouched endpoints g h) present.before (j.untouched epoch above old)))
              ]
        ]

-- ---- a call of the lane

abbrev pub ComesFromAgent : ℕ → ℕ → AgentHistory → LaneEvent → Type 0
ComesFromAgent endpoints g history (TakesUp round up) = WasMadeUp endpoints g history up
ComesFromAgent endpoints g history _ = Unit {0}

lane-call : (w : Windows) (endpoints g : ℕ) (history : AgentHistory) (event : LaneEvent) (lane_history : LaneHistory) → ComesFromAgent endpoints g history event →
    Joined endpoints g history (lane_end g lane_history) → Joined endpoints g history (lane_end g (event ∷ lane_history))
lane-call w endpoints g history (Records round) lane_history comes j = record { epochs = j.epochs; untouched = j.untouched; version = j.version; down = j.down; up = j.up }
lane-call w endpoints g history (MakesDown round told) lane_history comes j =
    let v = lane.version_of lane_history in
    let sent = lane.numbers g lane_history in
    record {
      epochs = j.epochs;
      untouched = j.untouched;
      version = j.version;
      down = elim (cases_Bool (nat_lt 0 (lane.epoch_of lane_history) && lane.may_send lane_history sent)) [
        | inr again ↦ rw again j.down
        | inl new ↦
            rw new
            (w.down.sends (reorder_of v) (span_of v) sent (agent.arrived (until (lane.epoch_of lane_history) history)) (lane.telling_in g lane_history round told) j.down
            (may-sends lane_history sent new))
      ];
      up = j.up;
    }
lane-call w endpoints g history (TakesUp round (Resets epoch version)) lane_history comes j =
    elim (cases_Bool (lane.restarts lane_history epoch)) [
      | inr old ↦ subst (λ (e : End Telling). Joined endpoints g history e) (sym (end-stays g round epoch version lane_history old)) j
      | inl new ↦
          let greater = ltb-true (lane.epoch_of lane_history) epoch new in
          let is = made-is_of w endpoints g history (Resets epoch version) comes in
          let known = is.0 in
          let u = j.untouched epoch greater known in
          subst (λ (e : End Telling). Joined endpoints g history e) (sym (end-restarts g round epoch version lane_history new))
          (record {
            epochs = known;
            untouched = λ later above begun. j.untouched later (omega arith) begun;
            version = is.1;
            down = rw u.arrived (w.down.nothing (reorder_of version) (span_of version));
            up = rw u.sent (w.up.nothing (reorder_of version) (span_of version));
          })
    ]
lane-call w endpoints g history (TakesUp round (Requests packet)) lane_history comes j =
    let v = lane.version_of lane_history in
    let boot = until (lane.epoch_of lane_history) history in
    elim (cases_Bool (lane.is_current lane_history packet)) [
      | inr other ↦ record { epochs = j.epochs; untouched = j.untouched; version = j.version; down = rw other j.down; up = rw other j.up }
      | inl current ↦
          let parts = lane_proofs.current-parts lane_history packet current in
          let made = made-is_of w endpoints g history (Requests packet) comes in
          let is : IsOf (reorder_of v) (span_of v) (agent.numbers endpoints g boot) (agent.arrived boot) packet =
          rw j.version (subst (λ (e : ℕ). IsOf (reorder_of (agent.version_of (until e history))) (span_of (agent.version_of (until e history))) (agent.numbers endpoints g (until e history)) (agent.arrived (until e history)) packet) parts.0 made.2) in
          record {
            epochs = j.epochs;
            untouched = j.untouched;
            version = j.version;
            down = rw current (w.down.reads (reorder_of v) (span_of v) (lane.numbers g lane_history) (agent.arrived boot) packet.ack j.down is.reads);
            up = rw current (w.up.arrives (reorder_of v) (span_of v) (agent.numbers endpoints g boot) (lane.arrived lane_history) packet.seq j.up is.known);
          }
    ]

-- ---- all calls

joined-nothing : (w : Windows) (endpoints g : ℕ) → Joined endpoints g [] (lane_end g [])
joined-nothing w endpoints g = record {
  epochs = omega arith;
  untouched = λ epoch above begun. record { taken = refl; arrived = refl; sent = refl };
  version = refl;
  down = w.down.nothing 4 64;
  up = w.up.nothing 4 64;
}

pub ends_agree : (w : Windows) → EndsAgree
ends_agree w endpoints g [] arrives = joined-nothing w endpoints g
ends_agree w endpoints g (OfAgent (Boots version) ∷ steps) arrives = agent-call w endpoints g (lane_of steps) (Boots version) (agent_of steps) tt (ends_agree w endpoints g steps arrives)
ends_agree w endpoints g (OfAgent (Asks dst slots) ∷ steps) arrives = agent-call w endpoints g (lane_of steps) (Asks dst slots) (agent_of steps) tt (ends_agree w endpoints g steps arrives)
ends_agree w endpoints g (OfAgent (TakesDown round packet) ∷ steps) arrives = agent-call w endpoints g (lane_of steps) (TakesDown round packet) (agent_of steps) arrives.0 (ends_agree w endpoints g steps arrives.1)
ends_agree w endpoints g (OfAgent MakesUp ∷ steps) arrives = agent-call w endpoints g (lane_of steps) MakesUp (agent_of steps) tt (ends_agree w endpoints g steps arrives)
ends_agree w endpoints g (OfAgent (SendsDue round) ∷ steps) arrives = agent-call w endpoints g (lane_of steps) (SendsDue round) (agent_of steps) tt (ends_agree w endpoints g steps arrives)
ends_agree w endpoints g (OfLane (MakesDown round told) ∷ steps) arrives = lane-call w endpoints g (agent_of steps) (MakesDown round told) (lane_of steps) tt (ends_agree w endpoints g steps arrives)
ends_agree w endpoints g (OfLane (TakesUp round packet) ∷ steps) arrives = lane-call w endpoints g (agent_of steps) (TakesUp round packet) (lane_of steps) arrives.0 (ends_agree w endpoints g steps arrives.1)
ends_agree w endpoints g (OfLane (Records round) ∷ steps) arrives = lane-call w endpoints g (agent_of steps) (Records round) (lane_of steps) tt (ends_agree w endpoints g steps arrives)
