-- The worked audits.
use Rattle.schedule_audit.proofs.Examples.{worked_audits}
use Rattle.schedule_audit.proofs.laws.small_audits.Goals as goal

pub returns : goal.returns
returns c = worked_audits
