use Rattle.fcp_framing.proofs.SpellingLaws.{spell_one_packet}
use Rattle.fcp_framing.proofs.laws.bytes_spell_one_packet.Goals as goal

pub returns : goal.returns
returns c = spell_one_packet
