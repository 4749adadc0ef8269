use Rattle.std.proofs.Common.{[]}
use Rattle.ack_window.specs.Versions.{reorder_of, span_of}
use Rattle.ack_window.proofs.Taking.{stands-nothing}
use Rattle.ack_window.proofs.take_window.TakeWindow.new.Goals as goal

pub invariant_of-result : goal.invariant_of-result
invariant_of-result c = ([], stands-nothing (reorder_of c.args.version) (span_of c.args.version))

pub returns-clause-stands : goal.returns-clause-stands
returns-clause-stands c = stands-nothing (reorder_of c.args.version) (span_of c.args.version)
