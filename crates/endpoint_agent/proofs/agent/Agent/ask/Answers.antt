use Rattle.std.proofs.Common.{◌≡◌, ℕ, ◌+◌, ◌<◌, ◌≤◌, Bool, cond, ◌∷◌, set, length, sym, ◌∙◌, ap, subst, arith, length-set}
use Rattle.std.proofs.lemmas.Bool.{ne_eqb}
use Rattle.std.proofs.lemmas.List.{get_or_default}
use Rattle.endpoint_history.specs.Agent.{Asks}
use Rattle.endpoint_agent.specs.declared.lines.FlowLine.{FlowLine}
use Rattle.endpoint_agent.specs.contracts.agent.Agent.{the_view}
use Rattle.endpoint_agent.specs.Lines.{with_asked}
use Rattle.endpoint_agent.specs.Standing.{AgentStandsFor}
use Rattle.endpoint_agent.specs.State.{AgentState, line_at}
use Rattle.endpoint_agent.proofs.Calls.{line_at-asks, StandsFor-asks}
use Rattle.endpoint_agent.proofs.Sound.{Sound-asks, Kept-asks}
use Rattle.endpoint_agent.proofs.Walking.{no_line}
use Rattle.endpoint_agent.proofs.agent.Agent.ask.Goals as goal

asked_line : (found : FlowLine) (n seq newest : ℕ) → 0 < n → seq ≡ newest →
    record { asked = found.asked + n; sent = found.sent; missed = found.missed; carried_from = seq + 1 } ≡ with_asked (newest + 1) n found
asked_line found n seq newest some same =
    ap (λ (k : ℕ). record { asked = found.asked + n; sent = found.sent; missed = found.missed; carried_from = k + 1 }) same
    ∙ ap (λ (b : Bool). record { asked = found.asked + n; sent = found.sent; missed = found.missed; carried_from = cond b found.carried_from (newest + 1) })
    (sym (ne_eqb n 0 (λ e. omega (arith, e, some))))

pub invariant_of-self : goal.invariant_of-self
invariant_of-self c =
    let agent = the_view c.self.inside in
    let (sound, calls, same) = c.self.invariant in
    let (history, stands) = calls in
    let dst = c.args.dst in
    let n = c.args.n in
    let found = c.index_mut-line.result.now in
    let line : FlowLine = record { asked = found.asked + n; sent = found.sent; missed = found.missed; carried_from = c.self.inside.request.seq + 1 } in
    let me : agent.me ≡ c.args.self.now.me = ap (λ (a : AgentState). a.me) c.self.view_is in
    let endpoints : agent.endpoints ≡ c.args.self.now.endpoints = ap (λ (a : AgentState). a.endpoints) c.self.view_is in
    let within : dst < length agent.lines = omega (arith, c.requires.destination, endpoints, sound.as_many) in
    let read : found ≡ line_at agent.lines dst = c.index_mut-line.ensures.value ∙ get_or_default agent.lines dst found no_line within in
    let asks = line_at-asks agent.lines dst n (agent.sent.outstanding.newest + 1) line within (asked_line found n c.self.inside.request.seq agent.sent.outstanding.newest c.if-n-gt0.true same.number ∙ ap (with_asked (agent.sent.outstanding.newest + 1) n) read) in (
      Sound-asks agent dst n (agent.sent.outstanding.newest + 1) (set agent.lines dst line) sound (λ e. c.requires.other (e ∙ me))
          (subst (λ (a : AgentState). (line_at a.lines dst).asked + n ≤ 100000000) (sym c.self.view_is) c.requires.most) (length-set agent.lines dst line) asks,
      (Asks dst n ∷ history, StandsFor-asks agent history dst n (set agent.lines dst line) stands asks),
      Kept-asks agent c.self.inside.request.seq dst n c.self.inside.unconfirmed c.set.new.self (set agent.lines dst line) same c.set.ensures asks,
    )

pub returns-then-n-gt0-clause-stands : goal.returns-then-n-gt0-clause-stands
returns-then-n-gt0-clause-stands c = λ history stands.
    let agent = the_view c.self.inside in
    let (sound, calls, same) = c.self.invariant in
    let dst = c.args.dst in
    let n = c.args.n in
    let found = c.index_mut-line.result.now in
    let line : FlowLine = record { asked = found.asked + n; sent = found.sent; missed = found.missed; carried_from = c.self.inside.request.seq + 1 } in
    let endpoints : agent.endpoints ≡ c.args.self.now.endpoints = ap (λ (a : AgentState). a.endpoints) c.self.view_is in
    let within : dst < length agent.lines = omega (arith, c.requires.destination, endpoints, sound.as_many) in
    let read : found ≡ line_at agent.lines dst = c.index_mut-line.ensures.value ∙ get_or_default agent.lines dst found no_line within in
    let asks = line_at-asks agent.lines dst n (agent.sent.outstanding.newest + 1) line within (asked_line found n c.self.inside.request.seq agent.sent.outstanding.newest c.if-n-gt0.true same.number ∙ ap (with_asked (agent.sent.outstanding.newest + 1) n) read) in
    StandsFor-asks agent history dst n (set agent.lines dst line) (subst (λ (a : AgentState). AgentStandsFor a history) (sym c.self.view_is) stands) asks
