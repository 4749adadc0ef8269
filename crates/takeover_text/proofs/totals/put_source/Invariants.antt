use Rattle.std.proofs.Common.{length, take}
use Rattle.std.specs.List.{flat_map, range_with_len}
use Rattle.text_output.specs.Output.{Passed}
use Rattle.text_output.specs.Text.{text_of}
use Rattle.takeover_text.specs.Lines.{total_line}
use Rattle.takeover_text.specs.Progress.{log_after}
use Rattle.takeover_text.proofs.totals.put_source.Given as goal

abbrev pub invariant-loop-dst : goal.invariant-loop-dst
invariant-loop-dst g l =
    Passed l.initial.output l.output (text_of (flat_map (total_line l.script.pair (log_after l.script (length l.script.events)) l.src) (take l.dst (range_with_len 0 l.script.pair.endpoints))))
