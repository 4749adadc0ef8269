use Rattle.std.proofs.Common.{◌≡◌, ◌<◌, ◌≤◌, ◌+◌, ◌*◌, ◌++◌, [], List, ℕ, length, take, get_or, sym, ap, ◌∙◌, subst, arith}
use Rattle.greedy_rules.specs.declared.flows.Flow.{Flow}
use Rattle.greedy_rules.specs.SlotTable.{flows_from, IsSlotOf}
use Rattle.clos_topology.specs.Network.{Network, endpoints_of}
use Rattle.schedule_audit.specs.Lines.{Place}
use Rattle.schedule_audit.specs.Wrong.{slot_places_from}
use Rattle.schedule_audit.specs.Judged.{AreBefore}
use Rattle.schedule_audit.specs.Walked.{in_slot, JudgesStand, FlowsAreBetween}
use Rattle.schedule_audit.proofs.WalkSteps.{same-text}
use Rattle.schedule_audit.proofs.RoundSteps.{slots-step, slots-before}
use Rattle.schedule_audit.proofs.passing.walk.Goals as goal

pub walk_row-requires-clause-flows : goal.walk_row-requires-clause-flows
walk_row-requires-clause-flows c =
    let slots = c.args.table.now.slots in
    let offset = c.loop-offset.offset in
    let within : offset < length slots = omega (arith, c.loop-offset-test.true, c.requires.slots) in
    let one : IsSlotOf c.args.table.now.endpoints (get_or slots offset []) = c.slots-slots.ensures.each offset [] within in
    let ends : c.args.table.now.endpoints ≡ endpoints_of c.loop-offset.judges.net = c.requires.endpoints ∙ ap (λ (net : Network). endpoints_of net) (sym c.loop-offset.invariant.text.net) in
    subst (λ (fs : List Flow). FlowsAreBetween (endpoints_of c.loop-offset.judges.net) fs) (sym (c.row.ensures.flows ∙ ap (λ (n : ℕ). get_or slots n []) c.from-in-loop-offset.ensures))
    (subst (λ (n : ℕ). FlowsAreBetween n (get_or slots offset [])) ends one.in_range)

pub walk_row-requires-clause-stands : goal.walk_row-requires-clause-stands
walk_row-requires-clause-stands c =
    let slots = c.args.table.now.slots in
    let offset = c.loop-offset.offset in
    let so_far = c.requires.stands in
    let few : c.args.table.now.endpoints ≤ 65536 = omega (arith, c.requires.endpoints, so_far.2.sizes) in (
      so_far.0 ++ slot_places_from c.args.first_slot (take offset slots),
      subst (λ (n : ℕ). AreBefore ((c.args.first_slot + n) * 65536) (so_far.0 ++ slot_places_from c.args.first_slot (take offset slots))) (sym c.from.ensures)
          (slots-before c.args.table.now.endpoints c.args.first_slot offset so_far.0 slots few (omega (arith, c.loop-offset-test.true, c.requires.slots)) c.slots-slots.ensures.each so_far.1),
      c.loop-offset.invariant.stands so_far.0 so_far.1 so_far.2,
    )

pub loop-offset-preserved : goal.loop-offset-preserved
loop-offset-preserved c =
    let slots = c.args.table.now.slots in
    let offset = c.loop-offset.offset in
    let first = c.args.first_slot in
    let within : offset < length slots = omega (arith, c.loop-offset-test.true, c.requires.slots) in
    let flows = flows_from 0 c.row.result.now in
    let is : flows ≡ get_or slots offset [] = c.row.ensures.flows ∙ ap (λ (n : ℕ). get_or slots n []) c.from-in-loop-offset.ensures in
    record {
      stands = λ visited before stands.
          let few : c.args.table.now.endpoints ≤ 65536 = omega (arith, c.requires.endpoints, stands.sizes) in
          subst (λ (ps : List Place). JudgesStand ps c.walk_row.new.judges)
          (ap (λ (n : ℕ). (visited ++ slot_places_from first (take offset slots)) ++ in_slot (first + n) flows) c.from.ensures ∙ slots-step first offset visited slots flows within is)
          (c.walk_row.ensures.stands (visited ++ slot_places_from first (take offset slots))
          (subst (λ (n : ℕ). AreBefore ((first + n) * 65536) (visited ++ slot_places_from first (take offset slots))) (sym c.from.ensures)
          (slots-before c.args.table.now.endpoints first offset visited slots few (omega (arith, within)) c.slots-slots.ensures.each before))
          (c.loop-offset.invariant.stands visited before stands));
      text = same-text c.args.judges.now c.loop-offset.judges c.walk_row.new.judges c.loop-offset.invariant.text c.walk_row.ensures.text;
    }
