-- What an agent was asked for.
use Rattle.std.proofs.Common.{◌≡◌, ◌≢◌, ◌≤◌, ◌+◌, ◌==◌, ℕ, zero, suc, List, [], ◌∷◌, length, cond, Bool, true, false, All, refl, ap, inl, inr, arith}
use Rattle.std.specs.Prelude.{sum_by}
use Rattle.std.proofs.lemmas.Bool.{cases_eq, ne_eqb}
use Rattle.std.proofs.lemmas.List.Elements.{All-head, All-tail}
use Rattle.std.proofs.lemmas.List.Sums.{sum_by-cons}
use Rattle.endpoint_history.specs.Packets.{DownPacket}
use Rattle.endpoint_history.specs.Agent.{AgentHistory, Boots, Asks, TakesDown, asked}
use Rattle.endpoint_history.specs.Lane.{MakesDown}
use Rattle.endpoint_history.specs.Steps.{Step, OfAgent, OfLane, agent_of}
use Rattle.endpoint_history.specs.Rounds.{Round, PlayedEnds, arriving, then_each, begun, posted_down, heard}
use Rattle.trace_run.specs.Run.{FromOutside, Setting, replayed}
use Rattle.trace_run.specs.Histories.{played_after, agent_after}
use Rattle.trace_run.specs.Recorded.{asked_in}
use Rattle.trace_run.proofs.Through.{agent-kept, agent_of-read}
use Rattle.trace_run.proofs.Applicable.{round_after}

abbrev asked_of : ℕ → List (ℕ × ℕ) → ℕ
asked_of dst asks = sum_by (λ (a : ℕ × ℕ). cond (a.0 == dst) a.1 0) asks

add_if : (c : Bool) (n more : ℕ) → cond c (n + more) n ≡ n + cond c more 0
add_if true n more = refl
add_if false n more = omega arith

asks-add : (dst : ℕ) (asks : List (ℕ × ℕ)) (steps : List Step) →
    asked (agent_of (then_each (λ (a : ℕ × ℕ). OfAgent (Asks a.0 a.1)) asks steps)) dst ≡ asked (agent_of steps) dst + asked_of dst asks
asks-add dst [] steps = omega arith
asks-add dst (a ∷ asks) steps =
    let rest = asks-add dst asks (OfAgent (Asks a.0 a.1) ∷ steps) in
    let here = add_if (a.0 == dst) (asked (agent_of steps) dst) a.1 in
    let push = sum_by-cons (λ (x : ℕ × ℕ). cond (x.0 == dst) x.1 0) a asks in
    omega arith

boots-forget : (dst : ℕ) (boots : List ℕ) (steps : List Step) →
    asked (agent_of (then_each (λ version. OfAgent (Boots version)) boots steps)) dst ≤ asked (agent_of steps) dst
boots-forget dst [] steps = omega arith
boots-forget dst (version ∷ boots) steps = let rest = boots-forget dst boots (OfAgent (Boots version) ∷ steps) in omega arith

heard-asks : (endpoints g number : ℕ) (round : Round) (before : PlayedEnds) (dst : ℕ) →
    asked (agent_of (heard endpoints g number round before)) dst ≤ asked (agent_of before.steps) dst + asked_of dst round.asks
heard-asks endpoints g number round before dst =
    let booted : List Step = then_each (λ version. OfAgent (Boots version)) round.boots before.steps in
    let told_steps : List Step = OfLane (MakesDown number round.told) ∷ begun endpoints g number round before in
    let downs : List DownPacket = arriving (posted_down endpoints g number round before) number in
    let kept = agent-kept (λ (h : AgentHistory). asked h dst) (λ packet. TakesDown number packet) (λ x h. refl) downs told_steps in
    let more = asks-add dst round.asks booted in
    let fewer = boots-forget dst round.boots before.steps in
    omega arith

-- no more than in all rounds so far
pub asked-within : (setting : Setting) (rounds endpoint dst : ℕ) → asked (agent_after setting rounds endpoint) dst ≤ asked_in setting.outside rounds endpoint dst
asked-within setting zero endpoint dst = omega arith
asked-within setting (suc rounds) endpoint dst =
    let number : ℕ = length ((replayed setting rounds).rounds endpoint) in
    let before = asked-within setting rounds endpoint dst in
    let round : Round = round_after setting rounds endpoint in
    let now = heard-asks setting.endpoints setting.g number round (played_after setting rounds endpoint) dst in
    let same = ap (λ (h : AgentHistory). asked h dst) (agent_of-read setting.endpoints setting.g number round (played_after setting rounds endpoint)) in
    omega arith

pub heard-asked : (setting : Setting) (rounds endpoint dst : ℕ) →
    asked (agent_of (heard setting.endpoints setting.g (length ((replayed setting rounds).rounds endpoint)) (round_after setting rounds endpoint) (played_after setting rounds endpoint))) dst
    ≤ asked_in setting.outside (suc rounds) endpoint dst
heard-asked setting rounds endpoint dst =
    let before = asked-within setting rounds endpoint dst in
    let now = heard-asks setting.endpoints setting.g (length ((replayed setting rounds).rounds endpoint)) (round_after setting rounds endpoint) (played_after setting rounds endpoint) dst in
    omega arith

pub asked-grows : (outside : FromOutside) (rounds all src dst : ℕ) → rounds ≤ all → asked_in outside rounds src dst ≤ asked_in outside all src dst
asked-grows outside zero all src dst within = omega arith
asked-grows outside (suc rounds) zero src dst within = absurd (omega arith)
asked-grows outside (suc rounds) (suc all) src dst within = elim (cases_eq rounds all) [
  | inl same ↦ let is = ap (λ n. asked_in outside (suc n) src dst) same in omega arith
  | inr less ↦ let before = asked-grows outside (suc rounds) all src dst (omega arith) in omega arith
]

-- no asks to an endpoint itself
pub none-asked : (endpoint : ℕ) (asks : List (ℕ × ℕ)) → All (λ (a : ℕ × ℕ). a.0 ≢ endpoint) asks → asked_of endpoint asks ≡ 0
none-asked endpoint [] apart = refl
none-asked endpoint (a ∷ asks) apart =
    let P : ℕ × ℕ → Type 0 = λ x. x.0 ≢ endpoint in
    let here = ap (λ (c : Bool). cond {A = ℕ} c a.1 0) (ne_eqb a.0 endpoint (All-head P a asks apart)) in
    let rest = none-asked endpoint asks (All-tail P a asks apart) in
    let push = sum_by-cons (λ (x : ℕ × ℕ). cond (x.0 == endpoint) x.1 0) a asks in
    omega arith

pub none-asked-in : (outside : FromOutside) (rounds endpoint : ℕ) → ((round : ℕ) → All (λ (a : ℕ × ℕ). a.0 ≢ endpoint) (outside.asks round endpoint)) → asked_in outside rounds endpoint endpoint ≡ 0
none-asked-in outside zero endpoint apart = refl
none-asked-in outside (suc rounds) endpoint apart =
    let before = none-asked-in outside rounds endpoint apart in
    let now = none-asked endpoint (outside.asks rounds endpoint) (apart rounds) in
    omega arith
