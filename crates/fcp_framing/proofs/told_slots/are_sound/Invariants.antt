use Rattle.std.proofs.Common.{◌≡◌, map, drop}
use Rattle.fcp_framing.specs.Fields.{told_in_bytes}
use Rattle.fcp_framing.specs.Refusals.{lines_are_sound}
use Rattle.fcp_framing.proofs.SoundLines.{sound_from}
use Rattle.fcp_framing.proofs.told_slots.are_sound.Given as goal

abbrev pub invariant-loop-entry : goal.invariant-loop-entry
invariant-loop-entry l =
    sound_from l.endpoints l.endpoint l.slots l.least (map told_in_bytes (drop l.entry-index l.entries)) ≡ lines_are_sound l.endpoints l.endpoint l.slots (map told_in_bytes l.entries)
