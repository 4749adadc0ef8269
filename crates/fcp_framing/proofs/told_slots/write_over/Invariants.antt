use Rattle.std.proofs.Common.{◌≡◌, length, map, take}
use Rattle.fcp_framing.specs.Fields.{told_in_bytes}
use Rattle.fcp_framing.proofs.told_slots.write_over.Given as goal

abbrev pub invariant-loop-at : goal.invariant-loop-at
invariant-loop-at l = (take l.at l.places ≡ map told_in_bytes (take l.at l.entries)) × (length l.places ≡ length l.entries)
