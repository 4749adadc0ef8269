-- A packet is made, whole.
use Rattle.std.proofs.Common.{◌≡◌, ℕ, ◌+◌, ◌≤◌, Bool, true, false, cond, ◌&&◌, List, ◌∷◌, length, refl, sym, ◌∙◌, ap, subst, inl, inr, arith}
use Rattle.std.proofs.lemmas.Bool.{cases_Bool, and_left}
use Rattle.ack_window.specs.Sends.{Event, Sends}
use Rattle.ack_window.specs.Versions.{reorder_of, span_of}
use Rattle.ack_window.specs.Windows.{Sender, HasDone}
use Rattle.fcp_framing.specs.declared.packet.Demand.{Demand}
use Rattle.endpoint_history.specs.Agent.{AgentHistory, MakesUp, version_of, sends_new, unconfirmed, numbers}
use Rattle.endpoint_history.specs.AgentLaws.{TakingBringsSlots}
use Rattle.endpoint_agent.specs.declared.lines.FlowLine.{FlowLine}
use Rattle.endpoint_agent.specs.Carrying.{bare_numbers, greatest_acknowledged}
use Rattle.endpoint_agent.specs.Lines.{demand_at, unconfirmed_in}
use Rattle.endpoint_agent.specs.Standing.{AgentStandsFor}
use Rattle.endpoint_agent.specs.State.{AgentState, line_at, IsSound}
use Rattle.endpoint_agent.proofs.Bare.{bare-newest, bare-greatest, newest-counted}
use Rattle.endpoint_agent.proofs.Calls.{may_of, may-is, sends_new-by, StandsFor-again, StandsFor-new}
use Rattle.endpoint_agent.proofs.Confirmed.{demand_of}
use Rattle.endpoint_agent.proofs.Sound.{Sound-makes}
use Rattle.endpoint_agent.proofs.Totals.{unconfirmed-by_number}

-- ---- a reset

pub resets : (agent : AgentState) (history : AgentHistory) → IsSound agent → AgentStandsFor agent history → agent.has_begun ≡ false → AgentStandsFor (record agent { is_made = true }) (MakesUp ∷ history)
resets agent history sound stands begun =
    StandsFor-again agent history stands (sends_new-by agent history stands sound.sent_version ∙ and_left agent.has_begun (may_of agent.sent) begun)

pub Sound-resets : (agent : AgentState) → IsSound agent → agent.is_made ≡ false → IsSound (record agent { is_made = true })
Sound-resets agent sound once = Sound-makes agent agent.sent agent.named sound refl (few-more agent sound once)
  where
    few-more : (a : AgentState) → IsSound a → a.is_made ≡ false → a.sent.outstanding.newest ≤ a.round + 1
    few-more a s once = let e = subst (λ (b : Bool). a.sent.outstanding.newest ≤ a.round + cond b 1 0) once s.numbers in omega (arith, e)

-- ---- a request

named-is : (taking : TakingBringsSlots) (agent : AgentState) (history : AgentHistory) → IsSound agent → AgentStandsFor agent history
    → unconfirmed_in agent.acknowledged (length agent.lines) agent.lines ≡ unconfirmed agent.endpoints agent.g history (numbers agent.endpoints agent.g history)
named-is taking agent history sound stands =
    let lines = agent.lines in
    let sent = numbers agent.endpoints agent.g history in
    ap (λ (n : ℕ). unconfirmed_in agent.acknowledged n lines) sound.as_many
    ∙ sym (unconfirmed-by_number taking agent.endpoints agent.g history agent.acknowledged (λ k. (line_at lines k).carried_from) (demand_at lines)
    (stands.acknowledged ∙ bare-greatest (reorder_of agent.version) (span_of agent.version) sent
    ∙ ap (λ (v : ℕ). greatest_acknowledged (reorder_of v) (span_of v) sent) stands.version)
    (λ k below. ap (λ (l : FlowLine). l.carried_from) (stands.lines k below))
    (λ k below. ap (λ (l : FlowLine). demand_of k (l.asked + l.missed)) (stands.lines k below)))

-- what is sent where a new number may be sent, and where none may
pub record IsRenewed (agent : AgentState) (sent : Sender (Unit {0})) (named : List Demand) : Type 0 where
  pub again : may_of agent.sent ≡ false → (sent ≡ agent.sent) × (named ≡ agent.named)
  pub number : may_of agent.sent ≡ true → sent.outstanding.newest ≡ agent.sent.outstanding.newest + 1
  pub named_now : may_of agent.sent ≡ true → named ≡ unconfirmed_in agent.acknowledged (length agent.lines) agent.lines
  pub stands : may_of agent.sent ≡ true → (events : List (Event (Unit {0}))) → HasDone agent.sent events → HasDone sent (Sends tt ∷ events)
  pub version : sent.version ≡ agent.sent.version

pub record IsMade (agent : AgentState) (history : AgentHistory) : Type 0 where
  pub sound : IsSound agent
  pub stands : AgentStandsFor agent (MakesUp ∷ history)
  pub counted : 1 ≤ agent.sent.outstanding.newest

renewed : (taking : TakingBringsSlots) (agent : AgentState) (history : AgentHistory) (sent : Sender (Unit {0})) (named : List Demand) → IsSound agent → agent.is_made ≡ false → AgentStandsFor agent history → agent.has_begun ≡ true
    → IsRenewed agent sent named → may_of agent.sent ≡ true → IsMade (record agent { sent = sent; named = named; is_made = true }) history
renewed taking agent history sent named sound once stands begun is may =
    let new : sends_new history (numbers agent.endpoints agent.g history) ≡ true =
    sends_new-by agent history stands sound.sent_version ∙ ap (λ (b : Bool). b && may_of agent.sent) begun ∙ may in
    let number = is.number may in
    let low = subst (λ (b : Bool). agent.sent.outstanding.newest ≤ agent.round + cond b 1 0) once sound.numbers in
    record {
      sound = Sound-makes agent sent named sound is.version (omega (arith, number, low));
      stands = StandsFor-new agent history sent named stands new (is.stands may (bare_numbers agent.endpoints agent.g history) stands.sent) (is.named_now may ∙ named-is taking agent history sound stands);
      counted = omega (arith, number);
    }

repeated : (agent : AgentState) (history : AgentHistory) → IsSound agent → agent.is_made ≡ false → AgentStandsFor agent history → agent.has_begun ≡ true
    → may_of agent.sent ≡ false → IsMade (record agent { is_made = true }) history
repeated agent history sound once stands begun closed =
    let sent = numbers agent.endpoints agent.g history in
    let again : sends_new history sent ≡ false =
    sends_new-by agent history stands sound.sent_version ∙ ap (λ (b : Bool). b && may_of agent.sent) begun ∙ closed in
    let full = sym (may-is agent history stands sound.sent_version) ∙ closed in
    let some = newest-counted (reorder_of (version_of history)) (span_of (version_of history)) sent full in
    let newest = stands.sent.newest ∙ bare-newest sent in
    record {
      sound = Sound-resets agent sound once;
      stands = StandsFor-again agent history stands again;
      counted = omega (arith, some, newest);
    }

pub made : (taking : TakingBringsSlots) (agent : AgentState) (history : AgentHistory) (sent : Sender (Unit {0})) (named : List Demand) → IsSound agent → agent.is_made ≡ false → AgentStandsFor agent history → agent.has_begun ≡ true
    → IsRenewed agent sent named → IsMade (record agent { sent = sent; named = named; is_made = true }) history
made taking agent history sent named sound once stands begun is = elim (cases_Bool (may_of agent.sent)) [
  | inl may ↦ renewed taking agent history sent named sound once stands begun is may
  | inr closed ↦
      let (same, names) = is.again closed in
      subst (λ (a : AgentState). IsMade a history) (λ i. record agent { sent = sym same i; named = sym names i; is_made = true }) (repeated agent history sound once stands begun closed)
]
