use Rattle.std.proofs.Common.{◌≡◌, ◌<◌, List, [], sym, ◌∙◌, subst, arith}
use Rattle.crossbeam_queue.specs.Passes.{view}
use Rattle.greedy_rules.specs.declared.flows.Flow.{Flow}
use Rattle.path_workers.specs.declared.seats.Seat.{Seat}
use Rattle.path_workers.specs.Jobs.{hand}
use Rattle.path_workers.specs.Painters.{MayPaint}
use Rattle.path_workers.specs.Seats.{SeatHasPlayed, HaveAllPlayed}
use Rattle.path_workers.proofs.PlayLemmas.{one_played, may_play, as_played, All-front}
use Rattle.path_workers.proofs.seats.+play_all.Goals as goal
use Rattle.path_workers.proofs.seats.+play_all.Goals.{then-apart+in-Ok, then-apart+in-Err, else-apart}

pub spawn_with-requires-clause-runs : goal.spawn_with-requires-clause-runs
spawn_with-requires-clause-runs g t c κs within = (c.split.ensures.new_queue, may_play _ _ _ _ c.in-Some.ensures.items c.requires.may c.split.ensures.new)

pub play_all-requires-in-Err-clause-may : goal.play_all-requires-in-Err-clause-may
play_all-requires-in-Err-clause-may g t c κs within = All-front (MayPaint c.args.slots.now.slots) _ _ _ c.in-Some.ensures.items c.requires.may

pub play-requires : goal.play-requires
play-requires g t c κs within = (within.0, (within.1, rw c.in-Err.ensures.err (c.split.ensures.new_queue, may_play _ _ _ _ c.in-Some.ensures.items c.requires.may c.split.ensures.new)))

pub work-seat-requires-clause-may : goal.work-seat-requires-clause-may
work-seat-requires-clause-may g t c = may_play _ _ _ _ c.in-Some.ensures.items c.requires.may c.split.ensures.new

pub returns-clause-played : goal.returns-clause-played
returns-clause-played g t c =
    let slots : List (List Flow) = c.args.slots.now.slots in
    let some : 0 < (view c.args.pass.now).parts = omega (arith, c.requires.parts) in
    let done : (was : Seat) → was.painter ≡ c.in-Some.painter → view was.pass ≡ hand 1 [] [] → HaveAllPlayed slots c.args.ends c.pop.new.self.items (view c.split.new.pass) c.if-apart.painters.items (view c.if-apart.pass) → SeatHasPlayed slots was c.if-apart.seat
    → HaveAllPlayed slots c.args.ends c.args.painters.now.items (view c.args.pass.now) c.push_reserved.new.self.items (view c.join-2.new.pass) =
    λ was same view_is rest played.
    one_played slots c.args.ends _ _ _ _ c.in-Some.painter c.if-apart.seat was _ _ _ _ c.in-Some.ensures.items c.push_reserved.ensures.items some c.split.ensures.left rest same view_is played c.join-2.ensures.both in
    elim c.if-apart.branch [
      | then-apart+in-Ok w ↦
          let promise = w.in-Ok.child.promise in
          let was_is : promise.was.value ≡ record { painter = c.in-Some.painter; pass = c.split.result } = (λ i. (w.in-Ok.ensures.ok i).was.value) ∙ w.of.ensures in
          done promise.was.value (λ i. (was_is i).painter) ((λ i. view (was_is i).pass) ∙ c.split.ensures.new)
          (as_played slots c.args.ends _ _ _ _ _ _ (λ i. (w.painters-is i).items) (λ i. view (w.pass-is i)) w.play_all.ensures.played)
          (subst (λ (s : Seat). SeatHasPlayed slots promise.was.value s) (sym w.seat-is) (subst (λ (flows : List (List Flow)). SeatHasPlayed flows promise.was.value w.join.result) (λ i. (w.in-Ok.ensures.ok i).slots.now.slots) w.join.ensures))
      | then-apart+in-Err w ↦
          let was : Seat = w.in-Err.refused.value.4 in
          let was_is : was ≡ record { painter = c.in-Some.painter; pass = c.split.result } = λ i. (w.in-Err.ensures.err i).4 in
          done was (λ i. (was_is i).painter) ((λ i. view (was_is i).pass) ∙ c.split.ensures.new)
          (as_played slots c.args.ends _ _ _ _ _ _ (λ i. (w.painters-is i).items) (λ i. view (w.pass-is i)) w.play_all-in-Err.ensures.played)
          (subst (λ (s : Seat). SeatHasPlayed slots was s) (sym w.seat-is) (subst (λ (flows : List (List Flow)). SeatHasPlayed flows was w.play.result) (λ i. (w.in-Err.ensures.err i).2.now.slots) w.play.ensures))
      | else-apart w ↦
          done (record { painter = c.in-Some.painter; pass = c.split.result }) (λ i. c.in-Some.painter) c.split.ensures.new
          (as_played slots c.args.ends _ _ _ _ _ _ (λ i. (w.painters-is i).items) (λ i. view (w.pass-is i)) w.play_all-else-apart.ensures.played)
          (subst (λ (s : Seat). SeatHasPlayed slots (record { painter = c.in-Some.painter; pass = c.split.result }) s) (sym w.seat-is) w.work-seat.ensures)
    ]
