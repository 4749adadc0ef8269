use Rattle.std.proofs.Common.{◌≡◌, ◌<◌, ◌≤◌, ◌+◌, ℕ, length, get_or, cond, ◌&&◌, sym, subst, arith}
use Rattle.std.proofs.lemmas.Option.{get_or_from_slice_get}
use Rattle.greedy_rules.specs.declared.flows.Entry.{Entry}
use Rattle.greedy_rules.specs.Flows.{same_flow}
use Rattle.schedule_audit.specs.FlowNumbers.{flow_number_of}
use Rattle.schedule_audit.specs.Entered.{AreSized}
use Rattle.schedule_audit.proofs.EntrySteps.{enters-more}
use Rattle.schedule_audit.proofs.ledger.Ledger.enter.Goals as goal

pub loop-at-preserved : goal.loop-at-preserved
loop-at-preserved c =
    let entries = c.args.batch.now.entries in
    let at = c.loop-at.at in
    let entry = c.entry-entry.result in
    let old = c.loop-at.self in
    let within : at < length entries = omega (arith, c.loop-at-test.true, c.len-at-end.ensures.entries) in
    let is : entry ≡ get_or entries at entry = sym (get_or_from_slice_get entries at entry entry c.entry-entry.ensures) in
    let small : entry.add ≤ 4294967295 = c.enter_one.ensures.small in
    record {
      enters = enters-more entries at entry c.args.slots.now c.args.self.now old c.enter_one.new.self c.len-at-end.ensures.rising within (subst (λ (e : Entry). e.add ≤ 4294967295) is small) c.loop-at.invariant.enters
          (λ other. subst (λ (e : Entry). flow_number_of c.enter_one.new.self.seen other ≡ cond (same_flow e.flow other) 1 (flow_number_of old.seen other)) is (c.enter_one.ensures.seen other))
          (λ other. subst (λ (e : Entry). flow_number_of c.enter_one.new.self.added other ≡ cond (same_flow e.flow other) (flow_number_of old.added e.flow + e.add) (flow_number_of old.added other)) is (c.enter_one.ensures.added other))
          (λ other. subst (λ (e : Entry). flow_number_of c.enter_one.new.self.cleared other ≡ cond (e.clear && same_flow e.flow other) (flow_number_of c.args.slots.now e.flow) (flow_number_of old.cleared other)) is (c.enter_one.ensures.cleared other));
      sized = subst (λ (n : ℕ). AreSized n c.enter_one.new.self) c.loop-at.invariant.sized.seen c.enter_one.ensures.sized;
    }
