-- What is sent.
use Rattle.trace_run.proofs.Sends.{sent_is_what_each_round_sends, every_send_is_scheduled, no_slot_is_sent_twice}
use Rattle.trace_run.proofs.laws.every_send_is_scheduled.Goals as goal

pub returns : goal.returns
returns c =
    let s = c.schedules_hold.ensures in
    let ends = c.ends_hold.ensures in
    record { rounds = sent_is_what_each_round_sends; scheduled = every_send_is_scheduled s ends; once = no_slot_is_sent_twice s ends }
