use Rattle.std.proofs.Common.{◌≢◌, ◌<◌, ℕ}
use Rattle.report_text.specs.Names.{IsRefusal}
use Rattle.report_text.specs.Names.{answer_name as name_of}
use Rattle.report_text.proofs.names.number_named.Given as goal

abbrev pub invariant-loop-number : goal.invariant-loop-number
invariant-loop-number l = (k : ℕ) → k < l.number → IsRefusal k → l.name ≢ name_of k
