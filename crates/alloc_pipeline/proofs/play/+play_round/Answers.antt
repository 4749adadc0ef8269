use Rattle.std.proofs.Common.{◌≡◌, ℕ, ◌+◌, ◌<◌, ◌≤◌, ◌⊎◌, inl, inr, length, arith}
use Rattle.alloc_pipeline.proofs.Rounds.{linked_of, on_of, giving_on, goes_on_of, ended_of}
use Rattle.alloc_pipeline.proofs.play.+play_round.Goals as goal
use Rattle.alloc_pipeline.proofs.play.+play_round.Goals.{then-number-queues, else-number-queues}

pub bounds-queues-number : goal.bounds-queues-number
bounds-queues-number g t c = (linked_of _ _ _ _ _ c.in-Some.ensures.items c.requires.linked).1.number

pub play-player-requires-clause-passes : goal.play-player-requires-clause-passes
play-player-requires-clause-passes g t c =
    let s = (linked_of _ _ _ _ _ c.in-Some.ensures.items c.requires.linked).1 in
    let number : ℕ = c.in-Some.player.number in
    let either : ((number + 1 < length c.args.queues.now) × (c.if-number-queues.next ≡ number + 1)) ⊎ ((length c.args.queues.now ≤ number + 1) × (c.if-number-queues.next ≡ 0)) =
    elim c.if-number-queues.branch [ then-number-queues w ↦ inl (omega (arith, w.if-number-queues.true), w.next-is) | else-number-queues w ↦ inr (omega (arith, w.if-number-queues.false), w.next-is) ] in
    (s.taking _ c.index-queues-number.is, giving_on _ _ _ _ s either _ c.index-queues-next.is)

pub play-player-requires-clause-plays : goal.play-player-requires-clause-plays
play-player-requires-clause-plays g t c = (linked_of _ _ _ _ _ c.in-Some.ensures.items c.requires.linked).1.plays

pub play_round-rest-requires : goal.play_round-rest-requires
play_round-rest-requires g t c κs within = (omega (arith, c.in-Some.ensures.cases), (within.0, (within.1, (linked_of _ _ _ _ _ c.in-Some.ensures.items c.requires.linked).0)))

pub returns-then-ended-clause-goes_on : goal.returns-then-ended-clause-goes_on
returns-then-ended-clause-goes_on g t c =
    let k = c.play-player.ensures in
    let f = goes_on_of c.args.queues.now c.args.batches.now c.in-Some.player c.in-Some.player c.args.batches.now c.play-player.result (λ i. c.in-Some.player) (λ i. c.args.batches.now) (k.plays.0, k.plays.1) in
    on_of _ _ _ _ _ _ _ _ c.in-Some.ensures.items c.push_reserved.ensures.items c.play_round-rest.ensures.goes_on f

pub returns-else-ended-clause-goes_on : goal.returns-else-ended-clause-goes_on
returns-else-ended-clause-goes_on g t c =
    let k = c.play-player.ensures in
    let f = goes_on_of c.args.queues.now c.args.batches.now c.in-Some.player c.in-Some.player c.args.batches.now c.play-player.result (λ i. c.in-Some.player) (λ i. c.args.batches.now) (k.plays.0, k.plays.1) in
    on_of _ _ _ _ _ _ _ _ c.in-Some.ensures.items c.push_reserved.ensures.items c.play_round-rest.ensures.goes_on f

pub returns-then-ended-clause-ended : goal.returns-then-ended-clause-ended
returns-then-ended-clause-ended g t c = λ is. ended_of c.args.batches.now c.play_round-rest.new.players.items c.push_reserved.new.self.items c.play-player.result c.push_reserved.ensures.items (c.play_round-rest.ensures.ended is) (c.play-player.ensures.ended c.if-ended.true)
