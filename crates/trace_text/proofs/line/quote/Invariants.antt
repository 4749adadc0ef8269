use Rattle.std.proofs.Common.{◌≡◌, take, true}
use Rattle.std.specs.List.{list_all}
use Rattle.trace_text.specs.Lines.{is_unquoted}
use Rattle.trace_text.proofs.line.quote.Given as goal

abbrev pub invariant-loop-at : goal.invariant-loop-at
invariant-loop-at l = list_all is_unquoted (take l.at l.text) ≡ true
