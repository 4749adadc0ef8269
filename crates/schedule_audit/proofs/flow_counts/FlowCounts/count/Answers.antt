use Rattle.std.proofs.Common.{◌≡◌, ◌∙◌, ◌+◌, ◌*◌, ap, cond, subst, ◌<◌, ℕ, length, sym, arith}
use Rattle.std.proofs.lemmas.List.{get_or_default}
use Rattle.std.proofs.lemmas.Nat.{mul-add-lt}
use Rattle.greedy_rules.specs.Flows.{same_flow}
use Rattle.schedule_audit.specs.FlowNumbers.{Numbers, flow_number_of}
use Rattle.schedule_audit.proofs.NumberPlaces.{number-set, number-at}
use Rattle.schedule_audit.proofs.flow_counts.FlowCounts.count.Goals as goal

pub returns-clause-numbers : goal.returns-clause-numbers
returns-clause-numbers c = λ other.
    let endpoints = c.self.inside.endpoints in
    let cells = c.self.inside.cells.items in
    let flow = c.args.flow in
    let place = flow.src * endpoints + flow.dst in
    let before = c.index_mut.result.now in
    let same = ap (λ (t : Numbers). t.endpoints) c.self.view_is in
    let src = subst (λ (n : ℕ). flow.src < n) (sym same) c.requires.src in
    let dst = subst (λ (n : ℕ). flow.dst < n) (sym same) c.requires.dst in
    let within : place < length cells = omega (arith, c.self.invariant, mul-add-lt flow.src endpoints flow.dst endpoints src dst) in
    let cell : before ≡ flow_number_of c.args.self.now flow =
    c.index_mut.ensures.value ∙ (get_or_default cells place before 0 within ∙ (sym (number-at endpoints cells flow src dst) ∙ ap (λ (t : Numbers). flow_number_of t flow) c.self.view_is)) in
    number-set endpoints cells flow (before + 1) other c.self.invariant src dst
    ∙ (ap (λ (t : Numbers). cond (same_flow flow other) (before + 1) (flow_number_of t other)) c.self.view_is ∙ ap (λ (n : ℕ). cond (same_flow flow other) (n + 1) (flow_number_of c.args.self.now other)) cell)
