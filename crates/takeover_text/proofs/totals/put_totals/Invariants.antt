use Rattle.std.proofs.Common.{length, take}
use Rattle.std.specs.List.{flat_map, range_with_len}
use Rattle.text_output.specs.Output.{Passed}
use Rattle.text_output.specs.Text.{text_of}
use Rattle.takeover_text.specs.Lines.{totals_of}
use Rattle.takeover_text.specs.Progress.{log_after}
use Rattle.takeover_text.proofs.totals.put_totals.Given as goal

abbrev pub invariant-loop-src : goal.invariant-loop-src
invariant-loop-src g l =
    Passed l.initial.output l.output (text_of (flat_map (totals_of l.script.pair (log_after l.script (length l.script.events))) (take l.src (range_with_len 0 l.script.pair.endpoints))))
