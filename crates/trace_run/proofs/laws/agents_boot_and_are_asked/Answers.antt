-- Agents.
use Rattle.trace_run.proofs.Agents.{epochs_count_boots}
use Rattle.trace_run.proofs.Asked.{asked-within}
use Rattle.trace_run.proofs.laws.agents_boot_and_are_asked.Goals as goal

pub returns : goal.returns
returns c = record { epochs = epochs_count_boots; asked = asked-within }
