use Rattle.std.proofs.Common.{◌*◌, List, ◌++◌, take}
use Rattle.greedy_rules.specs.SlotTable.{flows_from}
use Rattle.schedule_audit.specs.Lines.{Place}
use Rattle.schedule_audit.specs.Judged.{AreBefore}
use Rattle.schedule_audit.specs.Walked.{in_slot, StandApart, IsSameText}
use Rattle.schedule_audit.proofs.passing.hold_row.Given as goal

abbrev pub invariant-loop-src : goal.invariant-loop-src
invariant-loop-src l = record {
  stands : (held counted : List Place) → AreBefore (l.slot * 65536) held → StandApart held counted l.fn.judges → StandApart (held ++ in_slot l.slot (flows_from 0 (take l.src l.row))) counted l.judges;
  text : IsSameText l.fn.judges l.judges;
}
