use Rattle.std.proofs.Common.{◌≡◌, map, drop}
use Rattle.fcp_framing.specs.declared.packet.Told.{Told as ToldItem}
use Rattle.fcp_framing.specs.Fields.{told_in_bytes}
use Rattle.fcp_framing.specs.Refusals.{is_rising}
use Rattle.fcp_framing.proofs.Rising.{rises_from}
use Rattle.fcp_framing.proofs.told_slots.rises.Given as goal

abbrev pub invariant-loop-entry : goal.invariant-loop-entry
invariant-loop-entry l = rises_from l.least (map (λ (told : ToldItem). told.offset) (map told_in_bytes (drop l.entry-index l.entries))) ≡ is_rising (map (λ (told : ToldItem). told.offset) (map told_in_bytes l.entries))
