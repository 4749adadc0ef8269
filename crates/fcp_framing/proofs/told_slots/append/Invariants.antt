use Rattle.std.proofs.Common.{◌≡◌, ◌++◌, map, take}
use Rattle.fcp_framing.specs.Fields.{told_in_bytes}
use Rattle.fcp_framing.proofs.told_slots.append.Given as goal

abbrev pub invariant-loop-entry : goal.invariant-loop-entry
invariant-loop-entry l = l.told.items ≡ l.initial.told.items ++ map told_in_bytes (take l.entry-index l.entries)
