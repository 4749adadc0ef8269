use Rattle.std.proofs.Common.{◌<◌, ℕ, length, cond, sym, ap, ◌∙◌, arith}
use Rattle.std.proofs.lemmas.Option.{get_or_from_slice_get}
use Rattle.greedy_rules.specs.Flows.{same_flow}
use Rattle.schedule_audit.specs.FlowNumbers.{flow_number_of}
use Rattle.schedule_audit.proofs.NeedSteps.{needs-more}
use Rattle.schedule_audit.proofs.figures.needs_of.Goals as goal

pub loop-at-preserved : goal.loop-at-preserved
loop-at-preserved c =
    let items = c.args.list.now.items in
    let at = c.loop-at.at in
    let item = c.item-item.result in
    let old = c.loop-at.left in
    let within : at < length items = omega (arith, c.loop-at-test.true, c.len-at-end.ensures) in
    record {
      needs = needs-more items at item old c.set.new.self c.requires.once within (sym (get_or_from_slice_get items at item item c.item-item.ensures)) c.loop-at.invariant.needs
          (λ other. c.set.ensures.numbers other ∙ ap (λ (n : ℕ). cond (same_flow item.flow other) n (flow_number_of old other)) c.from.ensures);
      endpoints = c.set.ensures.endpoints ∙ c.loop-at.invariant.endpoints;
    }
