use Rattle.std.proofs.Common.{◌∙◌, refl}
use Rattle.alloc_pipeline.proofs.Rounds.{on_then, on_same, all_then, on_there}
use Rattle.alloc_pipeline.proofs.play.play_here.Goals as goal
use Rattle.alloc_pipeline.proofs.play.play_here.Goals.{in-None, in-Some+then-play_round, in-Some+else-play_round+then-load}

pub loop-init : goal.loop-init
loop-init g c = record { linked = c.requires.linked; goes_on = on_same _ _ _ c.requires.linked; len = refl; room = refl }

pub loop-preserved : goal.loop-preserved
loop-preserved g c = record {
  linked = all_then _ _ _ _ c.loop.invariant.linked c.play_round.ensures.goes_on;
  goes_on = on_then _ _ _ _ _ c.loop.invariant.goes_on c.play_round.ensures.goes_on;
  len = c.play_round.ensures.len ∙ c.loop.invariant.len;
  room = c.play_round.ensures.room ∙ c.loop.invariant.room;
}

pub returns-clause-goes_on : goal.returns-clause-goes_on
returns-clause-goes_on g c = elim c.match-next.branch [
  | in-None w ↦ on_there _ _ _ _ _ (λ i. (w.players-is i).items) c.loop.invariant.goes_on
  | in-Some+then-play_round w ↦ on_there _ _ _ _ _ (λ i. (w.players-is i).items) (on_then _ _ _ _ _ c.loop.invariant.goes_on w.play_round.ensures.goes_on)
  | in-Some+else-play_round+then-load w ↦ on_there _ _ _ _ _ (λ i. (w.players-is i).items) (on_then _ _ _ _ _ c.loop.invariant.goes_on w.play_round.ensures.goes_on)
]
