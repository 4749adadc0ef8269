use Rattle.std.proofs.Common.{◌≡◌, ℕ, sym, ◌∙◌, subst}
use Rattle.greedy_rules.specs.Demands.{Demands, HasEachFlowOnce, AreBelow}
use Rattle.window_allocation.specs.Needs.{Needs}
use Rattle.window_allocation.specs.Standing.{Allocated, HasAllocated}
use Rattle.window_allocation.specs.WindowLists.{demands_of}
use Rattle.window_allocation.proofs.ListLemmas.{own_list, whole_is}
use Rattle.window_allocation.proofs.WindowLemmas.{list_below}
use Rattle.window_allocation.proofs.allocation.Allocation.write_needs.Goals as goal

pub leave-requires : goal.leave-requires
leave-requires c = record { is = own_list c.self.inside.endpoints c.self.inside.list c.self.invariant.1 }

pub write_needs-requires-clause-once : goal.write_needs-requires-clause-once
write_needs-requires-clause-once c =
    let (net, most, batches, has) = c.requires.stands in
    let Has : Allocated → Type 0 = λ half. HasAllocated net most batches half in
    let whole : demands_of c.self.inside.list ≡ c.leave.new.self.list = sym c.leave.ensures.same ∙ whole_is c.leave.new.self c.leave.ensures.whole in
    subst (λ (d : Demands). HasEachFlowOnce d.items) whole (subst Has (sym c.self.view_is) has).before.once

pub write_needs-requires-clause-below : goal.write_needs-requires-clause-below
write_needs-requires-clause-below c =
    let (net, most, batches, has) = c.requires.stands in
    let Has : Allocated → Type 0 = λ half. HasAllocated net most batches half in
    let whole : demands_of c.self.inside.list ≡ c.leave.new.self.list = sym c.leave.ensures.same ∙ whole_is c.leave.new.self c.leave.ensures.whole in
    subst (λ (d : Demands). AreBelow c.self.inside.endpoints d.items) whole
    (subst (λ (n : ℕ). AreBelow n (demands_of c.self.inside.list).items) c.self.invariant.0 (list_below net most batches _ (subst Has (sym c.self.view_is) has) c.recorded_batches_may_be_applied.ensures.all))

pub returns-clause-needs : goal.returns-clause-needs
returns-clause-needs c =
    let whole : demands_of c.leave.new.self ≡ c.leave.new.self.list = whole_is c.leave.new.self c.leave.ensures.whole in
    subst (λ (d : Demands). Needs c.self.inside.ring.endpoints d.items c.write_needs.new.needs) (sym whole)
    (subst (λ (n : ℕ). Needs n c.leave.new.self.list.items c.write_needs.new.needs) (sym c.self.invariant.0) c.write_needs.ensures)
