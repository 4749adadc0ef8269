use Rattle.std.proofs.Common.{ℕ, List, sym, ap, ◌∙◌, arith}
use Rattle.greedy_rules.specs.declared.flows.Flow.{Flow}
use Rattle.greedy_rules.specs.Schedule.{slot_in}
use Rattle.greedy_rules.specs.SlotTable.{Slots, destination_of}
use Rattle.greedy_rules.proofs.RowLemmas.{destination-at}
use Rattle.greedy_rules.proofs.slots.SlotTable.to.Goals as goal

pub returns : goal.returns
returns c =
    let src : ℕ = c.args.src in
    let row = c.row.result.now in
    sym (destination-at 0 src src row (omega arith)) ∙ ap (λ (flows : List Flow). destination_of flows src) (c.row.ensures.flows ∙ ap (λ (t : Slots). slot_in t.slots c.args.slot) c.self.view_is)
