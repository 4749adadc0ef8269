use Rattle.run_lines.specs.Text.{text_of, flow_lines, each_destination}
use Rattle.text_output.specs.Output.{Passed}
use Rattle.run_lines.proofs.flows.put_source.Given as goal

abbrev pub invariant-loop-dst : goal.invariant-loop-dst
invariant-loop-dst g l =
    Passed l.initial.output l.output (text_of (each_destination (flow_lines l.engine.b l.trace) l.src 0 l.dst))
