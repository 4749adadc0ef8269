use Rattle.std.proofs.Common.{◌*◌, List, ◌++◌, take}
use Rattle.schedule_audit.specs.Lines.{Place}
use Rattle.schedule_audit.specs.Wrong.{slot_places_from}
use Rattle.schedule_audit.specs.Judged.{AreBefore}
use Rattle.schedule_audit.specs.Walked.{JudgesStand, IsSameText}
use Rattle.schedule_audit.proofs.passing.walk.Given as goal

abbrev pub invariant-loop-offset : goal.invariant-loop-offset
invariant-loop-offset l = record {
  stands : (visited : List Place) → AreBefore (l.first_slot * 65536) visited → JudgesStand visited l.fn.judges → JudgesStand (visited ++ slot_places_from l.first_slot (take l.offset l.table.slots)) l.judges;
  text : IsSameText l.fn.judges l.judges;
}
