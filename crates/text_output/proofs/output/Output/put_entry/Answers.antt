use Rattle.std.proofs.Common.{refl}
use Rattle.text_output.proofs.OutputLemmas.{Passes-stopped}
use Rattle.text_output.proofs.output.Output.put_entry.Goals as goal

pub returns-in_err-make_room : goal.returns-in_err-make_room
returns-in_err-make_room g c = Passes-stopped _ c.in_err-make_room.ensures.passes c.from_residual.ensures.1 refl
