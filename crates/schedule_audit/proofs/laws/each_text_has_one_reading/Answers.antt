use Rattle.schedule_audit.proofs.FirstLines.{each_text_has_one_reading}
use Rattle.schedule_audit.proofs.laws.each_text_has_one_reading.Goals as goal

pub returns : goal.returns
returns c = each_text_has_one_reading
