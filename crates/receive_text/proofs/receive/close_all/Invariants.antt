use Rattle.std.proofs.Common.{vec_len}
use Rattle.receive_text.proofs.Closing.{AreClosed}
use Rattle.receive_text.proofs.receive.close_all.Given as goal

abbrev pub decreases-loop-filling : goal.decreases-loop-filling
decreases-loop-filling l = vec_len l.fillings

abbrev pub invariant-loop-filling : goal.invariant-loop-filling
invariant-loop-filling l = AreClosed l.fn.desk l.fn.fillings.items l.desk l.fillings.items
