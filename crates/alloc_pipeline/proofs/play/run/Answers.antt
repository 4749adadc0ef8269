use Rattle.std.proofs.Common.{◌∙◌, vec_capacity}
use Rattle.alloc_pipeline.proofs.Rounds.{on_then, on_same, all_then, on_there}
use Rattle.alloc_pipeline.proofs.play.run.Goals as goal
use Rattle.alloc_pipeline.proofs.play.run.Goals.{then-threads-gt0, else-threads-gt0, in-None, in-Some+then-play_round}

pub loop-init : goal.loop-init
loop-init g c = elim c.if-threads-gt0.branch [
  | then-threads-gt0 w ↦
      let e = w.scoped-players.ensures.1 in
      let f = on_there _ _ _ _ _ (λ i. (w.players-is i).items) e.0 in
      record { linked = all_then _ _ _ _ c.requires.linked f; goes_on = f; room = (λ i. vec_capacity (w.players-is i)) ∙ e.1 }
  | else-threads-gt0 w ↦
      let f = on_there _ _ _ _ _ (λ i. (w.players-is i).items) (on_same _ _ _ c.requires.linked) in
      record { linked = all_then _ _ _ _ c.requires.linked f; goes_on = f; room = λ i. vec_capacity (w.players-is i) }
]

pub loop-preserved : goal.loop-preserved
loop-preserved g c = record {
  linked = all_then _ _ _ _ c.loop.invariant.linked c.play_round.ensures.goes_on;
  goes_on = on_then _ _ _ _ _ c.loop.invariant.goes_on c.play_round.ensures.goes_on;
  room = c.play_round.ensures.room ∙ c.loop.invariant.room;
}

pub returns-clause-goes_on : goal.returns-clause-goes_on
returns-clause-goes_on g c = elim c.match-next.branch [
  | in-None w ↦ on_there _ _ _ _ _ (λ i. (w.players-is i).items) c.loop.invariant.goes_on
  | in-Some+then-play_round w ↦ on_there _ _ _ _ _ (λ i. (w.players-is i).items) (on_then _ _ _ _ _ c.loop.invariant.goes_on w.play_round.ensures.goes_on)
]
