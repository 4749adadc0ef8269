use Rattle.std.proofs.Common.{sym}
use Rattle.std.proofs.lemmas.List.{append-nil}
use Rattle.text_output.specs.Text.{line_text}
use Rattle.text_output.proofs.OutputLemmas.{Passes-after}
use Rattle.text_output.proofs.output.Output.put_last_line.Goals as goal

pub returns : goal.returns
returns g c = record {
  passes = Passes-after c.in_ok-put_line.ensures c.flush.ensures.passes (sym (append-nil (line_text c.args.line.now)));
  empty = c.flush.ensures.empty;
}
