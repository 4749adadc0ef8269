use Rattle.std.proofs.Common.{◌≡◌, List, sym, subst}
use Rattle.crossbeam_queue.specs.Passes.{Pass, view, IsPassOf}
use Rattle.greedy_rules.specs.declared.flows.Flow.{Flow}
use Rattle.path_workers.specs.declared.jobs.Job.{Job}
use Rattle.path_workers.specs.declared.jobs.Hand.{Hand}
use Rattle.path_workers.specs.declared.painter.Painter.{Painter}
use Rattle.path_workers.specs.declared.seats.Seat.{Seat}
use Rattle.path_workers.specs.Seats.{SeatHasPlayed}
use Rattle.path_workers.proofs.PlayLemmas.{begins_to_play, plays_on, has_played, IsPlaying}
use Rattle.path_workers.proofs.seats.work.Goals as goal
use Rattle.path_workers.proofs.seats.work.Goals.{in-None, in-Some+in-Some-take+then-not-take_up}

pub loop-init : goal.loop-init
loop-init g c = record { queue = c.requires.queue; playing = begins_to_play c.args.slots.now.slots _ c.args.seat.painter c.requires.may.painter }

pub loop-preserved : goal.loop-preserved
loop-preserved g c = record {
  queue = c.take.ensures.queue;
  playing = plays_on c.args.slots.now.slots _ _ _ _ _ _ c.in-Some-take.job c.loop.invariant.playing c.in-Some-take.ensures.taken c.take_up.ensures.painted c.take_up.ensures.keeps c.take_up.ensures.row c.take_up.ensures.number;
}

pub returns : goal.returns
returns g c =
    let slots : List (List Flow) = c.args.slots.now.slots in
    let done : (painter : Painter) (pass : Pass Job Hand) → c.match-next.painter ≡ painter → c.match-next.pass ≡ pass → IsPassOf c.args.queue.now pass → IsPlaying slots (view c.args.seat.pass) c.args.seat.painter (view pass) painter
    → SeatHasPlayed slots c.args.seat (record { painter = c.match-next.painter; pass = c.match-next.pass }) =
    λ painter pass painter_is pass_is queue playing.
    subst (λ (s : Seat). SeatHasPlayed slots c.args.seat s) (λ i. record { painter = sym painter_is i; pass = sym pass_is i })
    (has_played slots c.args.seat (record { painter = painter; pass = pass }) _ c.requires.queue.0 queue.0 queue.1 playing) in
    elim c.match-next.branch [
      | in-None w ↦ done _ _ w.painter-is w.pass-is c.loop.invariant.queue c.loop.invariant.playing
      | in-Some+in-Some-take+then-not-take_up w ↦ done _ _ w.painter-is w.pass-is w.take.ensures.queue
          (plays_on slots _ _ _ _ _ _ w.in-Some-take.job c.loop.invariant.playing w.in-Some-take.ensures.taken w.take_up.ensures.painted w.take_up.ensures.keeps w.take_up.ensures.row w.take_up.ensures.number)
    ]
