use denote.Param.Send.{IsSync, sendable, param_send, given_sync, shr_send, shr_slice_send}
use Rattle.std.proofs.Crossing.{crosses}
use Rattle.alloc_pipeline.proofs.Crossing.{player_send, queue_sync}
use mir.Syntax.{named}
use Rattle.greedy_rules.specs.contracts.batches.Batch as Batch
use Rattle.greedy_rules.proofs.Crossing.{batch_sync}
use Rattle.alloc_pipeline.proofs.play.+play_all.Lts-play_all as lts
use Rattle.core.specs.contracts.atomic.AtomicBool as AtomicBool
use Rattle.std.proofs.Common.{◌≡◌, ℕ, ◌+◌, ◌<◌, ◌≤◌, ◌⊎◌, inl, inr, length, arith, [], ◌∷◌, ◌++◌, ◌∙◌}
use Rattle.alloc_pipeline.proofs.Rounds.{linked_of, on_of, giving_on, on_same, goes_on_of}
use Rattle.alloc_pipeline.proofs.play.+play_all.Goals as goal
use Rattle.alloc_pipeline.proofs.play.+play_all.Goals.{then-number-queues, else-number-queues, in-Ok, in-Err}

pub bounds-queues-number : goal.bounds-queues-number
bounds-queues-number g t c = (linked_of _ _ _ _ _ c.in-Some.ensures.items c.requires.linked).1.number

pub spawn_with-requires-clause-runs : goal.spawn_with-requires-clause-runs
spawn_with-requires-clause-runs g t c κs within =
    let s = (linked_of _ _ _ _ _ c.in-Some.ensures.items c.requires.linked).1 in
    let number : ℕ = c.in-Some.player.number in
    let either : ((number + 1 < length c.args.queues.now) × (c.if-number-queues.next ≡ number + 1)) ⊎ ((length c.args.queues.now ≤ number + 1) × (c.if-number-queues.next ≡ 0)) =
    elim c.if-number-queues.branch [ then-number-queues w ↦ inl (omega (arith, w.if-number-queues.true), w.next-is) | else-number-queues w ↦ inr (omega (arith, w.if-number-queues.false), w.next-is) ] in
    ((s.taking _ c.index-queues-number.is, giving_on _ _ _ _ s either _ c.index-queues-next.is), s.plays)

pub play_all-requires-clause-linked : goal.play_all-requires-clause-linked
play_all-requires-clause-linked g t c κs within = (linked_of _ _ _ _ _ c.in-Some.ensures.items c.requires.linked).0

pub work-player-requires : goal.work-player-requires
work-player-requires g t c κs within =
    let s = (linked_of _ _ _ _ _ c.in-Some.ensures.items c.requires.linked).1 in
    let number : ℕ = c.in-Some.player.number in
    let either : ((number + 1 < length c.args.queues.now) × (c.if-number-queues.next ≡ number + 1)) ⊎ ((length c.args.queues.now ≤ number + 1) × (c.if-number-queues.next ≡ 0)) =
    elim c.if-number-queues.branch [ then-number-queues w ↦ inl (omega (arith, w.if-number-queues.true), w.next-is) | else-number-queues w ↦ inr (omega (arith, w.if-number-queues.false), w.next-is) ] in
    (within.0, (within.1, rw c.in-Err.ensures.err ((s.taking _ c.index-queues-number.is, giving_on _ _ _ _ s either _ c.index-queues-next.is), s.plays)))

pub returns-clause-goes_on : goal.returns-clause-goes_on
returns-clause-goes_on g t c =
    let s = linked_of _ _ _ _ _ c.in-Some.ensures.items c.requires.linked in
    elim c.match-spawn_with.branch [
      | in-Ok w ↦
          let k = w.join-player.ensures in
          let f = goes_on_of c.args.queues.now c.args.batches.now c.in-Some.player w.in-Ok.child.promise.was.value w.in-Ok.child.promise.batches.now w.join-player.result
          ((λ i. (w.in-Ok.ensures.ok i).was.value) ∙ c.of.ensures) (λ i. (w.in-Ok.ensures.ok i).batches.now) k.0 in
          on_of _ _ _ _ _ _ _ _ c.in-Some.ensures.items (c.push_reserved.ensures.items ∙ (λ i. (w.players-is i).items ++ w.player-is i ∷ [])) w.play_all.ensures.goes_on f
      | in-Err w ↦
          let k = w.work-player.ensures in
          let f = goes_on_of c.args.queues.now c.args.batches.now c.in-Some.player w.in-Err.refused.value.6 w.in-Err.refused.value.4.now w.work-player.result
          (λ i. (w.in-Err.ensures.err i).6) (λ i. (w.in-Err.ensures.err i).4.now) k.0 in
          on_of _ _ _ _ _ _ _ _ c.in-Some.ensures.items (c.push_reserved.ensures.items ∙ (λ i. (w.players-is i).items ++ w.player-is i ∷ [])) (on_same _ _ _ s.0) f
    ]

pub spawn_with-requires-send-T : goal.spawn_with-requires-send-T
spawn_with-requires-send-T g t c κs within = search (sendable, crosses, player_send) depth 60 fits 20000

pub spawn_with-requires-send-F : goal.spawn_with-requires-send-F
spawn_with-requires-send-F g t c κs within =
    let r0 : IsSync g.row.R = given_sync 1 g.row.R c.requires-raw.1.1.1.1.0 in
    let q0 : IsSync g.row.G = given_sync 2 g.row.G c.requires-raw.1.1.1.1.1.0 in
    param_send 2 (lts.arg-4-2 g.row.E g.row.R g.row.G g.E.laws g.R.laws g.G.laws g.R.Threads-dict g.R.Wait-dict g.G.Gate-dict κs)
    (record {
      owned = λ x vs vss. (
        tt,
        (
          (tt, r0.shared _ _ _ _),
          (
            (tt, q0.shared _ _ _ _),
            (
              (shr_send (named 8) _ _ (queue_sync g.R.Wait-dict)).owned x.2 vs,
              (
                (shr_send (named 9) _ _ (queue_sync g.R.Wait-dict)).owned x.3 vs,
                (
                  (shr_slice_send (named 0) _ Batch.the_row batch_sync).owned _ vs,
                  (
                    (shr_send (named 11) _ AtomicBool.the_row (search (sendable, crosses) depth 60 fits 20000)).owned x.5 vs,
                    (
                      player_send.owned x.6 vs,
                      tt,
                    ),
                  ),
                ),
              ),
            ),
          ),
        ),
      );
      leaving = λ k. search (sendable, crosses, player_send) depth 100 fits 20000;
    })
