-- How what went wrong in a part of a run is answered by the whole.
use Rattle.trace_text.specs.declared.fault.TraceRefused.{TraceRefused}
use Rattle.trace_text.specs.declared.fault.TraceRefused.TheVariants as trace
use Rattle.fastpass_run.specs.declared.outcome.Failure.{Failure}
use Rattle.fastpass_run.specs.declared.outcome.Failure.TheVariants.{Row, Read, Write, Memory, Big, Bad}
use Rattle.text_output.specs.declared.output.Stop.{Stop}
use Rattle.text_output.specs.declared.output.Stop.TheVariants as stop
use Rattle.fastpass_run.specs.declared.transfer.ReadRefused.{ReadRefused}
use Rattle.fastpass_run.specs.declared.transfer.ReadRefused.TheVariants as read
use Rattle.schedule_audit.specs.declared.auditor.AuditRefused.{AuditRefused}
use Rattle.schedule_audit.specs.declared.auditor.AuditRefused.TheVariants as audit

abbrev pub failure_of_read : ReadRefused → Failure
failure_of_read read.Failed = Read
failure_of_read read.Big = Big
failure_of_read read.Memory = Memory

abbrev pub failure_of_trace : TraceRefused → Failure
failure_of_trace (trace.Row row fault) = Row row fault
failure_of_trace trace.Memory = Memory

abbrev pub failure_of_stop : Stop → Failure
failure_of_stop stop.Write = Write
failure_of_stop stop.Memory = Memory

abbrev pub failure_of_audit : AuditRefused → Failure
failure_of_audit (audit.Bad line) = Bad line
failure_of_audit audit.Memory = Memory
