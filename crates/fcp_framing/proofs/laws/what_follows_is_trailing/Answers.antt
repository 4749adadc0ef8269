use Rattle.fcp_framing.proofs.SpellingLaws.{refuse_what_follows}
use Rattle.fcp_framing.proofs.laws.what_follows_is_trailing.Goals as goal

pub returns : goal.returns
returns c = refuse_what_follows
