-- Replays.
use Rattle.own_texts.proofs.ReplayLines.{no_replay_has_a_bad_line}
use Rattle.own_texts.proofs.laws.no_replay_has_a_bad_line.Goals as goal

pub returns : goal.returns
returns c =
    no_replay_has_a_bad_line c.slots_hold.ensures c.ends_hold.ensures c.runs_hold.ensures c.each_text_is_read.ensures c.each_text_has_one_reading.ensures
    c.a_text_of_batches_has_no_bad_line.ensures
