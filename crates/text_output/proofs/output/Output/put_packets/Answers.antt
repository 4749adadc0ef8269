use Rattle.std.proofs.Common.{refl}
use Rattle.text_output.proofs.OutputLemmas.{Passes-stopped}
use Rattle.text_output.proofs.output.Output.put_packets.Goals as goal

pub returns-in_err-make_room_for : goal.returns-in_err-make_room_for
returns-in_err-make_room_for g c = Passes-stopped _ c.in_err-make_room_for.ensures.passes c.from_residual.ensures.1 refl
