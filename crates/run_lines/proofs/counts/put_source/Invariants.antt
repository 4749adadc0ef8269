use Rattle.clos_topology.specs.NetSlots.{SlotCores}
use Rattle.window_engine.specs.Standing.{StandsForReplay, run_of}
use Rattle.run_lines.specs.Text.{text_of, count_lines, each_destination}
use Rattle.text_output.specs.Output.{Passed}
use Rattle.run_lines.proofs.counts.put_source.Given as goal

abbrev pub invariant-loop-dst : goal.invariant-loop-dst
invariant-loop-dst g l =
    (cores : SlotCores) → StandsForReplay l.trace cores l.engine →
    Passed l.initial.output l.output (text_of (each_destination (count_lines (run_of l.trace cores l.engine) l.trace) l.src 0 l.dst))
