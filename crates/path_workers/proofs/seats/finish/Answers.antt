use Rattle.path_workers.proofs.PlayLemmas.{begins_to_play, plays_on}
use Rattle.path_workers.proofs.seats.finish.Goals as goal

pub loop-init : goal.loop-init
loop-init g c = record { queue = c.requires.queue; playing = begins_to_play c.args.slots.now.slots _ c.args.painter.now c.requires.may }

pub loop-preserved : goal.loop-preserved
loop-preserved g c = record {
  queue = c.take_last.ensures.queue;
  playing = plays_on c.args.slots.now.slots _ _ _ _ _ _ c.in-Some-take_last.job c.loop.invariant.playing c.in-Some-take_last.ensures.taken c.take_up.ensures.painted c.take_up.ensures.keeps c.take_up.ensures.row c.take_up.ensures.number;
}
