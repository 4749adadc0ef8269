use Rattle.std.proofs.Common.{map}
use Rattle.fcp_framing.specs.Fields.{told_in_bytes}
use Rattle.fcp_framing.proofs.SoundLines.{sound_from-none}
use Rattle.fcp_framing.proofs.told_slots.are_sound.Goals as goal

pub loop-entry-init : goal.loop-entry-init
loop-entry-init c = sound_from-none c.args.endpoints c.args.endpoint c.args.slots (map told_in_bytes c.args.entries.now)
