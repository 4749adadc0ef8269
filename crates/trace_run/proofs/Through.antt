-- What the calls of a round leave of a history.
use Rattle.std.proofs.Common.{◌≡◌, ℕ, zero, suc, List, [], ◌∷◌, length, refl, sym, ap, ◌∙◌, subst}
use Rattle.fcp_framing.specs.declared.packet.Told.{Told}
use Rattle.endpoint_history.specs.Packets.{UpPacket, DownPacket}
use Rattle.endpoint_history.specs.Agent.{AgentEvent, AgentHistory, Boots, Asks, TakesDown, MakesUp}
use Rattle.endpoint_history.specs.Lane.{LaneHistory, MakesDown, TakesUp}
use Rattle.endpoint_history.specs.Steps.{Step, OfAgent, OfLane, agent_of, lane_of}
use Rattle.endpoint_history.specs.Rounds.{Round, PlayedEnds, arriving, then_each, begun, posted_down, heard, posted_up, read}
use Rattle.endpoint_history.proofs.Rounds.{agent-lane, lane-agent}
use Rattle.trace_run.specs.Run.{Setting, replayed}

-- ---- calls of one end leave the other as it is

-- what each of some calls leaves of an agent, all of them leave
pub agent-kept : {X Y : Type 0} (of : AgentHistory → Y) (event : X → AgentEvent) → ((x : X) (h : AgentHistory) → of (event x ∷ h) ≡ of h) →
    (xs : List X) (steps : List Step) → of (agent_of (then_each (λ x. OfAgent (event x)) xs steps)) ≡ of (agent_of steps)
agent-kept of event stays [] steps = refl
agent-kept of event stays (x ∷ xs) steps = agent-kept of event stays xs (OfAgent (event x) ∷ steps) ∙ stays x (agent_of steps)

-- the agent reads nothing after its upward packet
pub agent_of-read : (endpoints g number : ℕ) (round : Round) (before : PlayedEnds) →
    agent_of (read endpoints g number round before) ≡ MakesUp ∷ agent_of (heard endpoints g number round before)
agent_of-read endpoints g number round before =
    let heard_steps : List Step = heard endpoints g number round before in
    let ups : List UpPacket = arriving (posted_up endpoints g number round before) number in
    agent-lane (λ packet. TakesUp number packet) round.raw (then_each (λ packet. OfLane (TakesUp number packet)) ups (OfAgent MakesUp ∷ heard_steps))
    ∙ agent-lane (λ packet. TakesUp number packet) ups (OfAgent MakesUp ∷ heard_steps)

-- ---- what no call of a lane changes in a round

module _ {X : Type 0} (of : LaneHistory → X) (makes : (round : ℕ) (told : List Told) (h : LaneHistory) → of (MakesDown round told ∷ h) ≡ of h)
    (takes : (round : ℕ) (packet : UpPacket) (h : LaneHistory) → of (TakesUp round packet ∷ h) ≡ of h) where
  reads : (number : ℕ) (packets : List UpPacket) (steps : List Step) → of (lane_of (then_each (λ packet. OfLane (TakesUp number packet)) packets steps)) ≡ of (lane_of steps)
  reads number [] steps = refl
  reads number (p ∷ packets) steps = reads number packets (OfLane (TakesUp number p) ∷ steps) ∙ takes number p (lane_of steps)

  pub kept : (endpoints g number : ℕ) (round : Round) (before : PlayedEnds) → of (lane_of (read endpoints g number round before)) ≡ of (lane_of before.steps)
  kept endpoints g number round before =
      let booted : List Step = then_each (λ version. OfAgent (Boots version)) round.boots before.steps in
      let begun_steps : List Step = begun endpoints g number round before in
      let told_steps : List Step = OfLane (MakesDown number round.told) ∷ begun_steps in
      let heard_steps : List Step = heard endpoints g number round before in
      let downs : List DownPacket = arriving (posted_down endpoints g number round before) number in
      let ups : List UpPacket = arriving (posted_up endpoints g number round before) number in
      reads number round.raw (then_each (λ packet. OfLane (TakesUp number packet)) ups (OfAgent MakesUp ∷ heard_steps))
      ∙ (reads number ups (OfAgent MakesUp ∷ heard_steps)
      ∙ (ap of (lane-agent (λ packet. TakesDown number packet) downs told_steps)
      ∙ (makes number round.told (lane_of begun_steps)
      ∙ ap of (lane-agent (λ (a : ℕ × ℕ). Asks a.0 a.1) round.asks booted ∙ lane-agent (λ version. Boots version) round.boots before.steps))))

-- ---- what every call of a lane keeps in a round

module _ (P : LaneHistory → Type 0) (takes : (round : ℕ) (packet : UpPacket) (h : LaneHistory) → P h → P (TakesUp round packet ∷ h)) where
  passes : (number : ℕ) (packets : List UpPacket) (steps : List Step) → P (lane_of steps) → P (lane_of (then_each (λ packet. OfLane (TakesUp number packet)) packets steps))
  passes number [] steps holds = holds
  passes number (p ∷ packets) steps holds = passes number packets (OfLane (TakesUp number p) ∷ steps) (takes number p (lane_of steps) holds)

  pub through : (endpoints g number : ℕ) (round : Round) (before : PlayedEnds) → ((h : LaneHistory) → h ≡ lane_of before.steps → P h → P (MakesDown number round.told ∷ h)) →
      P (lane_of before.steps) → P (lane_of (read endpoints g number round before))
  through endpoints g number round before makes holds =
      let booted : List Step = then_each (λ version. OfAgent (Boots version)) round.boots before.steps in
      let begun_steps : List Step = begun endpoints g number round before in
      let told_steps : List Step = OfLane (MakesDown number round.told) ∷ begun_steps in
      let heard_steps : List Step = heard endpoints g number round before in
      let downs : List DownPacket = arriving (posted_down endpoints g number round before) number in
      let ups : List UpPacket = arriving (posted_up endpoints g number round before) number in
      let same : lane_of begun_steps ≡ lane_of before.steps = lane-agent (λ (a : ℕ × ℕ). Asks a.0 a.1) round.asks booted ∙ lane-agent (λ version. Boots version) round.boots before.steps in
      let told : P (lane_of told_steps) = makes (lane_of begun_steps) same (subst P (sym same) holds) in
      passes number round.raw (then_each (λ packet. OfLane (TakesUp number packet)) ups (OfAgent MakesUp ∷ heard_steps))
      (passes number ups (OfAgent MakesUp ∷ heard_steps) (subst P (sym (lane-agent (λ packet. TakesDown number packet) downs told_steps)) told))

pub rounds_length : (setting : Setting) (rounds endpoint : ℕ) → length ((replayed setting rounds).rounds endpoint) ≡ rounds
rounds_length setting zero endpoint = refl
rounds_length setting (suc rounds) endpoint = ap suc (rounds_length setting rounds endpoint)
