-- The numbers by which a program names the faults of a trace. This project's own profile.
use Rattle.std.specs.Prelude.{ℕ}
use Rattle.trace_text.specs.declared.fault.Fault.{Fault}
use Rattle.trace_text.specs.declared.fault.Fault.TheVariants as fault

abbrev pub fault_number : Fault → ℕ
fault_number fault.NoNet = 1
fault_number fault.Kind = 2
fault_number fault.Fields = 3
fault_number fault.Number = 4
fault_number fault.Range = 5
fault_number fault.SelfFlow = 6
fault_number fault.Order = 7
fault_number fault.Sum = 8
fault_number fault.NoEnd = 9
fault_number fault.NotHere = 10
fault_number fault.TwoFates = 11
