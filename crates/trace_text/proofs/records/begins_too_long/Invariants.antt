use Rattle.std.proofs.Common.{◌-◌, length}
use Rattle.trace_text.proofs.records.begins_too_long.Given as goal

abbrev pub decreases-loop-size : goal.decreases-loop-size
decreases-loop-size l = length l.text - l.size
