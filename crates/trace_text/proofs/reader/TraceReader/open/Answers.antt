use Rattle.std.proofs.Common.{refl}
use Rattle.trace_text.proofs.PieceFacts.{none-given}
use Rattle.trace_text.proofs.reader.TraceReader.open.Goals as goal

pub returns : goal.returns
returns c = (refl, rw c.new-2.ensures.items (none-given c.args.command c.in_ok-new.field-0 c.in_ok-new.ensures))
