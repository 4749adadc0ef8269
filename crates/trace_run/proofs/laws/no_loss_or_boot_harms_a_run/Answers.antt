-- No loss or boot harms.
use Rattle.trace_run.specs.Sends.{ToldIsOwedInEachRound}
use Rattle.trace_run.proofs.Allocations.{told_is_owed_in_each_round}
use Rattle.trace_run.proofs.Sends.{no_packet_is_forged}
use Rattle.trace_run.proofs.Unharmed.{no_loss_or_boot_harms_a_run}
use Rattle.trace_run.proofs.laws.no_loss_or_boot_harms_a_run.Goals as goal

pub returns : goal.returns
returns c =
    let owed_is : ToldIsOwedInEachRound = told_is_owed_in_each_round c.ledger_and_rest_agree.ensures.owed c.what_is_told_is_allocated.ensures.told c.every_run_is_applicable.ensures.slots in
    record { unforged = no_packet_is_forged c.ends_hold.ensures; owed = owed_is; harmless = no_loss_or_boot_harms_a_run c.schedules_hold.ensures c.ends_hold.ensures owed_is }
