-- No loss or boot harms.
use Rattle.endpoint_history.proofs.Unharmed.{no_loss_or_boot_harms}
use Rattle.endpoint_history.proofs.laws.no_loss_or_boot_harms.Goals as goal

pub returns : goal.returns
returns c =
    no_loss_or_boot_harms c.both_ends_agree.ensures.never_sent c.both_ends_agree.ensures.taken_once c.slots_in_time_are_sent.ensures.sends c.slots_in_time_are_sent.ensures.none_passed
    c.rounds_are_calls.ensures.arrive c.rounds_are_calls.ensures.order
