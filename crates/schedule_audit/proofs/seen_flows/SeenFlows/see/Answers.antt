use Rattle.std.proofs.Common.{◌∙◌, ap, cond, subst, ◌<◌, ℕ, sym}
use Rattle.greedy_rules.specs.Flows.{same_flow}
use Rattle.schedule_audit.specs.FlowNumbers.{Numbers, flow_number_of}
use Rattle.schedule_audit.proofs.NumberPlaces.{number-set}
use Rattle.schedule_audit.proofs.seen_flows.SeenFlows.see.Goals as goal

pub returns-clause-numbers : goal.returns-clause-numbers
returns-clause-numbers c = λ other.
    let same = ap (λ (t : Numbers). t.endpoints) c.self.view_is in
    number-set c.self.inside.endpoints c.self.inside.cells.items c.args.flow 1 other c.self.invariant
    (subst (λ (n : ℕ). c.args.flow.src < n) (sym same) c.requires.src) (subst (λ (n : ℕ). c.args.flow.dst < n) (sym same) c.requires.dst)
    ∙ ap (λ (t : Numbers). cond (same_flow c.args.flow other) 1 (flow_number_of t other)) c.self.view_is
