use Rattle.fcp_framing.proofs.SpellingLaws.{are_read_back}
use Rattle.fcp_framing.proofs.laws.what_is_encoded_is_read_back.Goals as goal

pub returns : goal.returns
returns c = are_read_back
