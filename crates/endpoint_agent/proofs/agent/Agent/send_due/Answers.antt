use Rattle.std.proofs.Common.{◌≡◌, ℕ, ◌+◌, ◌-◌, ◌*◌, ◌%◌, ◌<◌, false, List, [], ◌∷◌, length, set, sym, ◌∙◌, ap, subst, arith, length-set}
use Rattle.std.proofs.lemmas.List.{with_items_is}
use Rattle.std.proofs.lemmas.List.Elements.{All-nil}
use Rattle.fcp_framing.specs.declared.packet.Told.{Told}
use Rattle.endpoint_history.specs.Agent.{SendsDue}
use Rattle.endpoint_history.specs.Sending.{Slot, sent_of, sent_in}
use Rattle.endpoint_agent.specs.declared.lines.FlowLine.{FlowLine}
use Rattle.endpoint_agent.specs.contracts.agent.Agent.{the_view}
use Rattle.endpoint_agent.specs.Lines.{slots_sent, with_sent, slots_from_first, left_in}
use Rattle.endpoint_agent.specs.Standing.{AgentStandsFor, HasHistory}
use Rattle.endpoint_agent.specs.State.{AgentState, line_at, batch_place, IsSound}
use Rattle.endpoint_agent.proofs.Ends.{sends-early, ends-early, walked, walked-is, ends-late, with-none}
use Rattle.endpoint_agent.proofs.Sound.{Below, Below-set, Sound-ends, Kept-makes, Kept-ends}
use Rattle.endpoint_agent.proofs.Walking.{to}
use Rattle.endpoint_agent.proofs.agent.Agent.send_due.Goals as goal

-- ---- in the first rounds

pub invariant_of-self : goal.invariant_of-self
invariant_of-self c =
    let agent : AgentState = the_view c.self.inside in
    let (sound, calls, same) = c.self.invariant in
    let (history, stands) = calls in
    let now : c.args.round ≡ agent.round = c.requires.round ∙ sym (ap (λ (a : AgentState). a.round) c.self.view_is) in
    let early : c.args.round < 2 * agent.g + 2 = omega (arith, c.if-round-wait.true, c.from.ensures) in (
      Sound-ends agent c.args.round agent.lines agent.waiting (λ dst. 0) sound now c.requires.rounds (λ i. length agent.lines) (λ dst. with-none (line_at agent.lines dst)) sound.three sound.waiting,
      (SendsDue c.args.round ∷ history, ends-early agent history c.args.round stands now early),
      Kept-makes agent _ c.self.inside.request.seq c.self.inside.unconfirmed same.marked (λ i. agent.lines) (omega arith) same.number,
    )

pub returns-then-round-wait-clause-sends : goal.returns-then-round-wait-clause-sends
returns-then-round-wait-clause-sends c = λ history stands.
    let now = c.args.self.now in
    let g : c.self.inside.g ≡ now.g = ap (λ (a : AgentState). a.g) c.self.view_is in
    let early : c.args.round < 2 * now.g + 2 = omega (arith, c.if-round-wait.true, c.from.ensures, g) in
    ap slots_sent c.requires.empty ∙ sym (sends-early now.b now.g history c.args.round early)

pub returns-then-round-wait-clause-stands : goal.returns-then-round-wait-clause-stands
returns-then-round-wait-clause-stands c = λ history stands.
    let agent : AgentState = the_view c.self.inside in
    let now : c.args.round ≡ agent.round = c.requires.round ∙ sym (ap (λ (a : AgentState). a.round) c.self.view_is) in
    let early : c.args.round < 2 * agent.g + 2 = omega (arith, c.if-round-wait.true, c.from.ensures) in
    ends-early agent history c.args.round (subst (λ (a : AgentState). AgentStandsFor a history) (sym c.self.view_is) stands) now early

-- ---- in each later one

pub invariant_of-self-2 : goal.invariant_of-self-2
invariant_of-self-2 c =
    let agent : AgentState = the_view c.self.inside in
    let (sound, calls, same) = c.self.invariant in
    let (history, stands) = calls in
    let round = c.args.round in
    let batch = round - (2 * c.from.result + 2) in
    let lines = c.send_batch.new.lines in
    let now : round ≡ agent.round = c.requires.round ∙ sym (ap (λ (a : AgentState). a.round) c.self.view_is) in
    let is : batch + 2 * agent.g + 2 ≡ round = omega (arith, c.if-round-wait.false, c.from.ensures) in
    let value = c.deref_mut.ensures.value in
    let walk : sent_of (left_in c.deref_mut.result.now) (slots_from_first (batch * c.from-2.result + 1) (batch_place agent.waiting batch)) ≡ walked agent batch =
    ap (λ (ls : List FlowLine). sent_of (left_in ls) (slots_from_first (batch * c.from-2.result + 1) (batch_place agent.waiting batch))) value
    ∙ ap (λ (n : ℕ). sent_of (left_in agent.lines) (slots_from_first (batch * n + 1) (batch_place agent.waiting batch))) c.from-2.ensures in
    let counted : (dst : ℕ) → line_at lines dst ≡ with_sent (to dst (walked agent batch)) (line_at agent.lines dst) = λ dst.
    c.send_batch.ensures.counted dst
    ∙ ap (λ (slots : List Slot). with_sent (to dst slots) (line_at c.deref_mut.result.now dst)) walk
    ∙ ap (λ (ls : List FlowLine). with_sent (to dst (walked agent batch)) (line_at ls dst)) value in
    let freed = c.send_batch.ensures.waiting in
    let long : length lines ≡ length agent.lines = c.send_batch.ensures.length ∙ ap (λ (ls : List FlowLine). length ls) value in
    let whole = with_items_is c.self.inside.lines lines (c.send_batch.ensures.length ∙ c.deref_mut.ensures.len) in
    let waiting = set agent.waiting (batch % 3) [] in
    let below : Below agent.endpoints waiting = Below-set agent.endpoints agent.waiting (batch % 3) [] (omega (arith, sound.three)) sound.waiting (All-nil (λ (t : Told). t.dst < agent.endpoints)) in
    let three : length waiting ≡ 3 = length-set agent.waiting (batch % 3) [] ∙ sound.three in
    let both = subst (λ (a : AgentState). IsSound a × HasHistory a) (λ i. record agent { lines = sym whole i; waiting = sym freed i; round = round + 1; is_made = false }) (
      Sound-ends agent round lines waiting (λ dst. to dst (walked agent batch)) sound now c.requires.rounds long counted three below,
      (SendsDue round ∷ history, ends-late agent history round batch lines waiting stands sound now is counted (λ i. waiting)),
    ) in (
      both.0,
      both.1,
      Kept-ends agent _ c.self.inside.request.seq c.self.inside.unconfirmed (λ dst. to dst (walked agent batch)) same (λ i. agent.sent) (λ i. agent.acknowledged) (λ dst. ap (λ (ls : List FlowLine). line_at ls dst) whole ∙ counted dst),
    )

pub returns-clause-sends : goal.returns-clause-sends
returns-clause-sends c = λ history stands.
    let agent : AgentState = the_view c.self.inside in
    let (sound, calls, same) = c.self.invariant in
    let round = c.args.round in
    let batch = round - (2 * c.from.result + 2) in
    let now : round ≡ agent.round = c.requires.round ∙ sym (ap (λ (a : AgentState). a.round) c.self.view_is) in
    let is : batch + 2 * agent.g + 2 ≡ round = omega (arith, c.if-round-wait.false, c.from.ensures) in
    let walk : sent_of (left_in c.deref_mut.result.now) (slots_from_first (batch * c.from-2.result + 1) (batch_place agent.waiting batch)) ≡ walked agent batch =
    ap (λ (ls : List FlowLine). sent_of (left_in ls) (slots_from_first (batch * c.from-2.result + 1) (batch_place agent.waiting batch))) c.deref_mut.ensures.value
    ∙ ap (λ (n : ℕ). sent_of (left_in agent.lines) (slots_from_first (batch * n + 1) (batch_place agent.waiting batch))) c.from-2.ensures in
    c.send_batch.ensures.sent ∙ walk
    ∙ walked-is agent history round batch (subst (λ (a : AgentState). AgentStandsFor a history) (sym c.self.view_is) stands) sound now is
    ∙ ap (λ (a : AgentState). sent_in a.b a.g history round) c.self.view_is

pub returns-clause-stands : goal.returns-clause-stands
returns-clause-stands c = λ history stands.
    let agent : AgentState = the_view c.self.inside in
    let (sound, calls, same) = c.self.invariant in
    let round = c.args.round in
    let batch = round - (2 * c.from.result + 2) in
    let lines = c.send_batch.new.lines in
    let now : round ≡ agent.round = c.requires.round ∙ sym (ap (λ (a : AgentState). a.round) c.self.view_is) in
    let is : batch + 2 * agent.g + 2 ≡ round = omega (arith, c.if-round-wait.false, c.from.ensures) in
    let value = c.deref_mut.ensures.value in
    let walk : sent_of (left_in c.deref_mut.result.now) (slots_from_first (batch * c.from-2.result + 1) (batch_place agent.waiting batch)) ≡ walked agent batch =
    ap (λ (ls : List FlowLine). sent_of (left_in ls) (slots_from_first (batch * c.from-2.result + 1) (batch_place agent.waiting batch))) value
    ∙ ap (λ (n : ℕ). sent_of (left_in agent.lines) (slots_from_first (batch * n + 1) (batch_place agent.waiting batch))) c.from-2.ensures in
    let counted : (dst : ℕ) → line_at lines dst ≡ with_sent (to dst (walked agent batch)) (line_at agent.lines dst) = λ dst.
    c.send_batch.ensures.counted dst
    ∙ ap (λ (slots : List Slot). with_sent (to dst slots) (line_at c.deref_mut.result.now dst)) walk
    ∙ ap (λ (ls : List FlowLine). with_sent (to dst (walked agent batch)) (line_at ls dst)) value in
    let whole = with_items_is c.self.inside.lines lines (c.send_batch.ensures.length ∙ c.deref_mut.ensures.len) in
    subst (λ (a : AgentState). AgentStandsFor a (SendsDue round ∷ history))
    (λ i. record agent { lines = sym whole i; waiting = sym c.send_batch.ensures.waiting i; round = round + 1; is_made = false })
    (ends-late agent history round batch lines (set agent.waiting (batch % 3) []) (subst (λ (a : AgentState). AgentStandsFor a history) (sym c.self.view_is) stands) sound now is counted (λ i. set agent.waiting (batch % 3) []))
