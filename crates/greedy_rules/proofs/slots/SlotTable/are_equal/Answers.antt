use Rattle.std.proofs.Common.{sym, ap, ◌∙◌}
use Rattle.greedy_rules.specs.Schedule.{slot_in}
use Rattle.greedy_rules.specs.SlotTable.{Slots}
use Rattle.greedy_rules.proofs.SlotRows.{equal_rows}
use Rattle.greedy_rules.proofs.slots.SlotTable.are_equal.Goals as goal

pub returns-then-eq : goal.returns-then-eq
returns-then-eq c = λ same.
    ap (λ (t : Slots). slot_in t.slots c.args.slot) (sym c.self.view_is)
    ∙ (equal_rows c.row.result.now c.row-then-eq.result.now _ _ c.eq-then-eq.result c.row.ensures.flows c.row-then-eq.ensures.flows c.eq-then-eq.ensures same
    ∙ ap (λ (t : Slots). slot_in t.slots c.args.other) c.self.view_is)
