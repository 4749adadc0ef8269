-- What may be played, and what is told.
use Rattle.replay_rounds.proofs.MayPlay.{every_round_may_be_played}
use Rattle.replay_rounds.proofs.Published.{what_is_told_is_published}
use Rattle.replay_rounds.proofs.laws.rounds_may_be_played.Goals as goal

pub returns : goal.returns
returns c =
    let agents = c.agents_boot_and_are_asked.ensures in
    record {
      rounds = every_round_may_be_played c.what_is_read_was_spelled_so.ensures c.packets_are_framed_alike.ensures agents.epochs agents.asked c.what_is_told_is_allocated.ensures.room
          c.what_is_told_keeps_the_rules.ensures;
      told = what_is_told_is_published c.windows_make_the_schedule.ensures.next;
    }
