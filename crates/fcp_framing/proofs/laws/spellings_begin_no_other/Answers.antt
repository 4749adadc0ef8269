use Rattle.fcp_framing.proofs.SpellingLaws.{begin_no_other}
use Rattle.fcp_framing.proofs.laws.spellings_begin_no_other.Goals as goal

pub returns : goal.returns
returns c = begin_no_other
