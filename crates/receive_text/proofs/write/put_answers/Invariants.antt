use Rattle.std.proofs.Common.{map, take, length}
use Rattle.std.specs.List.{range_with_len}
use Rattle.text_output.specs.Text.{text_of}
use Rattle.text_output.specs.Output.{Passed}
use Rattle.receive_text.specs.ReceiveText.{answer_line, answers_to}
use Rattle.receive_text.proofs.write.put_answers.Given as goal

abbrev pub invariant-loop-at : goal.invariant-loop-at
invariant-loop-at g l =
    Passed l.initial.output l.output (text_of (map (answer_line l.endpoint (answers_to l.trace l.endpoint)) (take l.at (range_with_len 0 (length (answers_to l.trace l.endpoint))))))
