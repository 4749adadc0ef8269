use Rattle.std.proofs.Common.{map}
use Rattle.fcp_framing.specs.declared.packet.Told.{Told as ToldItem}
use Rattle.fcp_framing.specs.Fields.{told_in_bytes}
use Rattle.fcp_framing.proofs.Rising.{rises_from-none}
use Rattle.fcp_framing.proofs.told_slots.rises.Goals as goal

pub loop-entry-init : goal.loop-entry-init
loop-entry-init c = rises_from-none (map (λ (told : ToldItem). told.offset) (map told_in_bytes c.args.entries.now))
