use Rattle.fcp_framing.proofs.SpellingLaws.{have_one_spelling}
use Rattle.fcp_framing.proofs.laws.packets_have_one_spelling.Goals as goal

pub returns : goal.returns
returns c = have_one_spelling
