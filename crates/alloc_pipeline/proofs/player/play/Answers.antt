use Rattle.std.proofs.Common.{refl, sym, ◌∙◌, subst}
use Rattle.ring_core.specs.Workers.{HasEnded}
use Rattle.alloc_pipeline.proofs.Rounds.{same_then}
use Rattle.alloc_pipeline.proofs.player.play.Goals as goal
use Rattle.alloc_pipeline.proofs.player.play.Goals.{in-None, in-Some+in-Done, in-Some+in_default+in_default-turn+then-load}

pub loop-preserved : goal.loop-preserved
loop-preserved g c =
    let v = c.loop.invariant in
    let r = c.turn-turn.ensures.ready.0 in
    let s = c.turn-turn.ensures.ready.1 in
    record {
      before = r.0;
      after = r.1;
      taking = r.2;
      giving = r.3;
      plays = c.turn-turn.ensures.plays;
      taking_id = s.0 ∙ v.taking_id;
      giving_id = s.1 ∙ v.giving_id;
      taking_in = s.2 ∙ v.taking_in;
      giving_in = s.3 ∙ v.giving_in;
      moved = s.4 ∙ v.moved;
      worker = same_then _ _ _ v.worker c.turn-turn.ensures.worker;
      ended = v.ended;
    }

pub returns-clause-plays : goal.returns-clause-plays
returns-clause-plays g c =
    let v = c.loop.invariant in
    elim c.match-next.branch [
      | in-None w ↦ rw (w.worker-is, w.link-is) (
        record { taking = v.taking; giving = v.giving; none_taking = v.before.1; none_giving = v.after.1; plays = v.plays },
        record { number = refl; taking_id = v.taking_id; giving_id = v.giving_id; taking_in = v.taking_in; giving_in = v.giving_in; moved = v.moved; worker = v.worker },
      )
      | in-Some+in-Done w ↦
          let r = w.turn-turn.ensures.ready.0 in
          let s = w.turn-turn.ensures.ready.1 in
          rw (w.worker-is, w.link-is) (
            record { taking = r.2; giving = r.3; none_taking = r.0.1; none_giving = r.1.1; plays = w.turn-turn.ensures.plays },
            record { number = refl; taking_id = s.0 ∙ v.taking_id; giving_id = s.1 ∙ v.giving_id; taking_in = s.2 ∙ v.taking_in; giving_in = s.3 ∙ v.giving_in; moved = s.4 ∙ v.moved; worker = same_then _ _ _ v.worker w.turn-turn.ensures.worker },
          )
      | in-Some+in_default+in_default-turn+then-load w ↦
          let r = w.turn-turn.ensures.ready.0 in
          let s = w.turn-turn.ensures.ready.1 in
          rw (w.worker-is, w.link-is) (
            record { taking = r.2; giving = r.3; none_taking = r.0.1; none_giving = r.1.1; plays = w.turn-turn.ensures.plays },
            record { number = refl; taking_id = s.0 ∙ v.taking_id; giving_id = s.1 ∙ v.giving_id; taking_in = s.2 ∙ v.taking_in; giving_in = s.3 ∙ v.giving_in; moved = s.4 ∙ v.moved; worker = same_then _ _ _ v.worker w.turn-turn.ensures.worker },
          )
    ]

pub returns-clause-ended : goal.returns-clause-ended
returns-clause-ended g c =
    elim c.match-next.branch [
      | in-None w ↦ λ is. absurd (let e = w.ended-is in let v = c.loop.invariant.ended in cc)
      | in-Some+in-Done w ↦ λ is. rw w.worker-is (subst (HasEnded c.args.batches.now) (sym (w.turn-turn.ensures.done w.in-Done.is)) w.in-Done.ensures.answer.0)
      | in-Some+in_default+in_default-turn+then-load w ↦ λ is. absurd (let e = w.ended-is in let v = c.loop.invariant.ended in cc)
    ]
