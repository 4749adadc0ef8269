-- How often an agent booted.
use Rattle.std.proofs.Common.{◌≡◌, ◌+◌, ℕ, zero, suc, List, [], ◌∷◌, length, refl, ap, ◌∙◌, arith}
use Rattle.endpoint_history.specs.Packets.{DownPacket}
use Rattle.endpoint_history.specs.Agent.{AgentHistory, Boots, Asks, TakesDown, epoch_of}
use Rattle.endpoint_history.specs.Lane.{MakesDown}
use Rattle.endpoint_history.specs.Steps.{Step, OfAgent, OfLane, agent_of}
use Rattle.endpoint_history.specs.Rounds.{Round, PlayedEnds, arriving, then_each, begun, posted_down, heard}
use Rattle.trace_run.specs.Run.{replayed}
use Rattle.trace_run.specs.Histories.{played_after}
use Rattle.trace_run.specs.Agents.{EpochsCountBoots}
use Rattle.trace_run.proofs.Through.{agent-kept, agent_of-read}
use Rattle.trace_run.proofs.Applicable.{round_after}

boots-count : (boots : List ℕ) (steps : List Step) → epoch_of (agent_of (then_each (λ version. OfAgent (Boots version)) boots steps)) ≡ epoch_of (agent_of steps) + length boots
boots-count [] steps = omega arith
boots-count (version ∷ boots) steps = let rest = boots-count boots (OfAgent (Boots version) ∷ steps) in omega arith

heard-booted : (endpoints g number : ℕ) (round : Round) (before : PlayedEnds) → epoch_of (agent_of (heard endpoints g number round before)) ≡ epoch_of (agent_of before.steps) + length round.boots
heard-booted endpoints g number round before =
    let booted : List Step = then_each (λ version. OfAgent (Boots version)) round.boots before.steps in
    let told_steps : List Step = OfLane (MakesDown number round.told) ∷ begun endpoints g number round before in
    let downs : List DownPacket = arriving (posted_down endpoints g number round before) number in
    agent-kept (λ (h : AgentHistory). epoch_of h) (λ packet. TakesDown number packet) (λ x h. refl) downs told_steps
    ∙ (agent-kept (λ (h : AgentHistory). epoch_of h) (λ (a : ℕ × ℕ). Asks a.0 a.1) (λ x h. refl) round.asks booted
    ∙ boots-count round.boots before.steps)

pub epochs_count_boots : EpochsCountBoots
epochs_count_boots setting zero endpoint = refl
epochs_count_boots setting (suc rounds) endpoint =
    let number : ℕ = length ((replayed setting rounds).rounds endpoint) in
    let round : Round = round_after setting rounds endpoint in
    let before = epochs_count_boots setting rounds endpoint in
    let now = heard-booted setting.endpoints setting.g number round (played_after setting rounds endpoint) in
    let same = ap (λ (h : AgentHistory). epoch_of h) (agent_of-read setting.endpoints setting.g number round (played_after setting rounds endpoint)) in
    omega arith
