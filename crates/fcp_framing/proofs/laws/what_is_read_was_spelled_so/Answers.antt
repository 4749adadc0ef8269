use Rattle.fcp_framing.proofs.SpellingLaws.{were_spelled_so}
use Rattle.fcp_framing.proofs.laws.what_is_read_was_spelled_so.Goals as goal

pub returns : goal.returns
returns c = were_spelled_so
