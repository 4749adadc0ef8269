use Rattle.std.proofs.Common.{take}
use Rattle.std.specs.List.{flat_map}
use Rattle.text_output.specs.Text.{text_of}
use Rattle.text_output.specs.Output.{Passed}
use Rattle.receive_text.specs.ReceiveText.{answer_lines, endpoints_in}
use Rattle.receive_text.proofs.write.put_all_answers.Given as goal

abbrev pub invariant-loop-endpoint : goal.invariant-loop-endpoint
invariant-loop-endpoint g l = Passed l.initial.output l.output (text_of (flat_map (answer_lines l.trace) (take l.endpoint (endpoints_in l.trace))))
