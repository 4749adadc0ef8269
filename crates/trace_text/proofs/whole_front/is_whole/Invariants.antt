use Rattle.std.proofs.Common.{◌≡◌, ◌<◌, ◌++◌, List, length, true}
use Rattle.trace_text.specs.Fields.{Record}
use Rattle.trace_text.specs.Lines.{records_in}
use Rattle.trace_text.proofs.FrontFacts.{LastIsClosed}
use Rattle.trace_text.proofs.whole_front.is_whole.Given as goal

abbrev pub invariant-loop-records : goal.invariant-loop-records
invariant-loop-records l = (given : List Record) × (records_in l.front ≡ given ++ l.records.value) × (l.is_between ≡ true → LastIsClosed given × (0 < length given))

abbrev pub decreases-loop-records : goal.decreases-loop-records
decreases-loop-records l = length l.records.value
