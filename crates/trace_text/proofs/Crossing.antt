-- A trace may be read in several threads.
use denote.Param.Send.{IsSync, sendable}
use Rattle.std.proofs.Crossing.{crosses}
use Rattle.trace_text.specs.contracts.trace.Trace as Trace

pub trace_sync : IsSync Trace.the_row
trace_sync = search (sendable, crosses) depth 100 fits 20000
