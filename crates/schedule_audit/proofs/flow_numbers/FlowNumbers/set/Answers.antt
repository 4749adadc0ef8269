use Rattle.std.proofs.Common.{◌∙◌, ap, cond, subst, ◌<◌, ℕ, sym}
use Rattle.greedy_rules.specs.Flows.{same_flow}
use Rattle.schedule_audit.specs.FlowNumbers.{Numbers, flow_number_of}
use Rattle.schedule_audit.proofs.NumberPlaces.{number-set}
use Rattle.schedule_audit.proofs.flow_numbers.FlowNumbers.set.Goals as goal

pub returns-clause-numbers : goal.returns-clause-numbers
returns-clause-numbers c = λ other.
    let same = ap (λ (t : Numbers). t.endpoints) c.self.view_is in
    number-set c.self.inside.endpoints c.self.inside.cells.items c.args.flow c.args.number other c.self.invariant
    (subst (λ (n : ℕ). c.args.flow.src < n) (sym same) c.requires.src) (subst (λ (n : ℕ). c.args.flow.dst < n) (sym same) c.requires.dst)
    ∙ ap (λ (t : Numbers). cond (same_flow c.args.flow other) c.args.number (flow_number_of t other)) c.self.view_is
