-- The end of a round, whole.
use Rattle.std.proofs.Common.{◌≡◌, ℕ, ◌+◌, ◌-◌, ◌*◌, ◌%◌, ◌<◌, Bool, false, cond, List, [], ◌∷◌, set, sym, ◌∙◌, ap, subst, arith}
use Rattle.std.proofs.lemmas.Bool.{le-leb}
use Rattle.std.proofs.lemmas.List.Elements.{All-map}
use Rattle.fcp_framing.specs.declared.packet.Told.{Told}
use Rattle.endpoint_history.specs.Agent.{AgentHistory, SendsDue, taken, asked}
use Rattle.endpoint_history.specs.Sending.{Slot, slots_of_telling, due, sent_of, sends, sent_in}
use Rattle.endpoint_agent.specs.declared.lines.FlowLine.{FlowLine}
use Rattle.endpoint_agent.specs.Lines.{with_sent, slots_from_first, left_in}
use Rattle.endpoint_agent.specs.Standing.{AgentStandsFor}
use Rattle.endpoint_agent.specs.State.{AgentState, line_at, batch_place, first_waiting, waits_of, IsSound}
use Rattle.endpoint_agent.proofs.Calls.{sent_in-is, StandsFor-ends}
use Rattle.endpoint_agent.proofs.Due.{Waits, Waits-early, Waits-ends, due-early}
use Rattle.endpoint_agent.proofs.Walking.{to, slot_at, sent_of-agree}

abbrev left : ℕ → ℕ → AgentHistory → ℕ → ℕ
left b g history dst = asked history dst - sends b g history dst

-- ---- in the first rounds

pub sends-early : (b g : ℕ) (history : AgentHistory) (round : ℕ) → round < 2 * g + 2 → sent_in b g history round ≡ []
sends-early b g history round early = sent_in-is b g history round ∙ ap (sent_of (left b g history)) (due-early b g history round early)

pub with-none : (line : FlowLine) → line ≡ with_sent 0 line
with-none line =
    let e : line.sent ≡ line.sent + 0 = omega arith in
    λ i. record { asked = line.asked; sent = e i; missed = line.missed; carried_from = line.carried_from }

pub ends-early : (agent : AgentState) (history : AgentHistory) (round : ℕ) → AgentStandsFor agent history → round ≡ agent.round → round < 2 * agent.g + 2
    → AgentStandsFor (record agent { round = round + 1; is_made = false }) (SendsDue round ∷ history)
ends-early agent history round stands now early =
    StandsFor-ends agent history round agent.lines agent.waiting stands now
    (λ dst below. with-none (line_at agent.lines dst) ∙ ap (λ (slots : List Slot). with_sent (to dst slots) (line_at agent.lines dst)) (sym (sends-early agent.b agent.g history round early)))
    (Waits-early agent.b agent.g round agent.waiting (taken history) early
    (subst (λ (r : ℕ). Waits agent.b agent.g r agent.waiting (taken history)) (sym now) stands.waiting))

-- ---- in each later one

-- what is walked
abbrev pub walked : AgentState → ℕ → List Slot
walked agent batch = sent_of (left_in agent.lines) (slots_from_first (batch * agent.b + 1) (batch_place agent.waiting batch))

pub walked-is : (agent : AgentState) (history : AgentHistory) (round batch : ℕ) → AgentStandsFor agent history → IsSound agent → round ≡ agent.round → batch + 2 * agent.g + 2 ≡ round
    → walked agent batch ≡ sent_in agent.b agent.g history round
walked-is agent history round batch stands sound now is =
    let b = agent.b in
    let g = agent.g in
    let first = batch * b + 1 in
    let told = batch_place agent.waiting batch in
    let start : first_waiting g agent.round ≡ batch = omega (arith, now, is) in
    let waits : waits_of g agent.round agent.waiting batch ≡ told =
    ap (λ (c : Bool). cond c told []) (le-leb batch (first_waiting g agent.round + 2) (omega (arith, start))) in
    let all_due : slots_from_first first told ≡ due b g history round =
    ap (λ (xs : List Told). slots_of_telling b (record { batch = batch; told = xs })) (sym waits)
    ∙ stands.waiting batch (omega (arith, start))
    ∙ ap (due b g history) is in
    sent_of-agree (left_in agent.lines) (left b g history) agent.endpoints (slots_from_first first told)
    (λ dst below. ap (λ (l : FlowLine). l.asked - l.sent) (stands.lines dst below))
    (All-map (λ (s : Slot). s.dst < agent.endpoints) (slot_at first) told (sound.waiting (batch % 3)))
    ∙ ap (sent_of (left b g history)) all_due
    ∙ sym (sent_in-is b g history round)

pub ends-late : (agent : AgentState) (history : AgentHistory) (round batch : ℕ) (lines : List FlowLine) (waiting : List (List Told)) → AgentStandsFor agent history → IsSound agent → round ≡ agent.round → batch + 2 * agent.g + 2 ≡ round
    → ((dst : ℕ) → line_at lines dst ≡ with_sent (to dst (walked agent batch)) (line_at agent.lines dst)) → waiting ≡ set agent.waiting (batch % 3) []
    → AgentStandsFor (record agent { lines = lines; waiting = waiting; round = round + 1; is_made = false }) (SendsDue round ∷ history)
ends-late agent history round batch lines waiting stands sound now is counted freed =
    StandsFor-ends agent history round lines waiting stands now
    (λ dst below. counted dst ∙ ap (λ (slots : List Slot). with_sent (to dst slots) (line_at agent.lines dst)) (walked-is agent history round batch stands sound now is))
    (subst (λ (w : List (List Told)). Waits agent.b agent.g (round + 1) w (taken history)) (sym freed)
    (Waits-ends agent.b agent.g round batch agent.waiting (taken history) sound.three is
    (subst (λ (r : ℕ). Waits agent.b agent.g r agent.waiting (taken history)) (sym now) stands.waiting)))
