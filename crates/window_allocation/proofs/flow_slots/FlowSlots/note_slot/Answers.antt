use Rattle.std.proofs.Common.{◌<◌, ◌+◌, ℕ, [], None, length, arith, sym, ap, ◌∙◌, subst}
use Rattle.greedy_rules.specs.Schedule.{slot_in}
use Rattle.greedy_rules.specs.SlotTable.{IsSlotOf}
use Rattle.window_allocation.specs.declared.flow_slots.FlowSlots.{FlowSlots}
use Rattle.window_allocation.proofs.SlotLemmas.{cell_is}
use Rattle.window_allocation.proofs.SlotWords.{NameFlowsBelow, source_noted, source_idle}
use Rattle.window_allocation.proofs.flow_slots.FlowSlots.note_slot.Goals as goal
use Rattle.window_allocation.proofs.flow_slots.FlowSlots.note_slot.Goals.{in-Some, in_default}

pub loop-src-preserved : goal.loop-src-preserved
loop-src-preserved c =
    let n : ℕ = c.args.self.now.endpoints in
    let row = slot_in c.args.out.now.slots c.args.slot in
    let is : IsSlotOf c.args.out.now.endpoints row = c.slots-slots.ensures.each c.args.slot [] c.requires.slot in
    let old = c.args.self.now.words.items in
    let below : c.loop-src.src < length c.row-row.result.now = omega (arith, c.loop-src-test.true, c.loop-src.auto.src-end, c.row-row.ensures.count, c.requires.endpoints) in
    let sends = cell_is c.loop-src.src c.row-row.result.now row None below c.row-row.ensures.flows in
    elim c.match-row-src.branch [
      | in-Some w ↦ record {
        endpoints = ap (λ (s : FlowSlots). s.endpoints) w.self-is ∙ (w.note_flow.ensures.endpoints ∙ c.loop-src.invariant.endpoints);
        named = subst (λ (s : FlowSlots). NameFlowsBelow n c.args.slot row (c.loop-src.src + 1) old s.words.items) (sym w.self-is)
            (source_noted n c.loop-src.self.endpoints c.args.slot c.loop-src.src w.in-Some.dst row old c.loop-src.self.words.items w.note_flow.new.self.words.items is.rising (sym w.in-Some.is ∙ sends) c.loop-src.invariant.endpoints
            c.loop-src.invariant.named w.note_flow.ensures.named);
      }
      | in_default w ↦ record {
        endpoints = ap (λ (s : FlowSlots). s.endpoints) w.self-is ∙ c.loop-src.invariant.endpoints;
        named = subst (λ (s : FlowSlots). NameFlowsBelow n c.args.slot row (c.loop-src.src + 1) old s.words.items) (sym w.self-is)
            (source_idle n c.args.slot c.loop-src.src row old c.loop-src.self.words.items is.rising (sym w.in_default.is ∙ sends) c.loop-src.invariant.named);
      }
    ]
