-- All of it.
use Rattle.trace_run.proofs.Shown.{every_replay_shows}
use Rattle.trace_run.proofs.laws.every_replay_shows.Goals as goal

pub returns : goal.returns
returns c =
    let run = c.every_run_is_applicable.ensures in
    let sends = c.every_send_is_scheduled.ensures in
    every_replay_shows c.schedules_hold.ensures c.every_slot_is_a_maximal_matching.ensures c.every_slot_keeps_its_limits.ensures.all run.batches run.slots
    sends.scheduled sends.once c.every_flow_is_counted.ensures c.ledger_and_rest_agree.ensures.adds c.no_loss_or_boot_harms_a_run.ensures.harmless
