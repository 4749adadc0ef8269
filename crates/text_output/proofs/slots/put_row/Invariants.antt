use Rattle.std.proofs.Common.{◌*◌, map, take}
use Rattle.greedy_rules.specs.SlotTable.{flows_from}
use Rattle.edge_colouring.specs.Cores.{core_in}
use Rattle.text_output.specs.Text.{text_of, slot_line}
use Rattle.text_output.specs.Output.{Passed}
use Rattle.text_output.proofs.slots.put_row.Given as goal

abbrev pub invariant-loop-at : goal.invariant-loop-at
invariant-loop-at g l =
    Passed l.initial.output l.output (text_of (map (slot_line l.number (core_in l.cores)) (flows_from 0 (take (l.at * 64) l.row))))
