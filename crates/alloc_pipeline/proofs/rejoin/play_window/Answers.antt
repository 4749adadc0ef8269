use Rattle.std.proofs.Common.{◌+◌, ◌%◌, ◌++◌, length, ap, ◌∙◌, subst, arith}
use Rattle.alloc_pipeline.specs.declared.parcel.EdgeWindow.{EdgeWindow}
use Rattle.alloc_pipeline.specs.Rings.{last_list}
use Rattle.alloc_pipeline.specs.Joined.{AllRaised, turned}
use Rattle.alloc_pipeline.proofs.Finished.{on_count, raised_since, window_stays, may_collect}
use Rattle.alloc_pipeline.proofs.rejoin.play_window.Goals as goal

pub collect-requires-clause-may : goal.collect-requires-clause-may
collect-requires-clause-may g c = may_collect c.args.queues.now c.args.batches.now c.args.players.items c.run-played.result.items (length c.args.batches.now % length c.args.queues.now) c.args.list.now.spare (length c.args.resting.now.spare) c.run-played.ensures.goes_on c.run-played.ensures.ended c.requires.may

pub returns-clause-list : goal.returns-clause-list
returns-clause-list g c = c.collect.ensures.list ∙ ap (λ (w : EdgeWindow). c.args.list.now.items ++ last_list w) (window_stays c.args.queues.now c.args.batches.now c.args.players.items c.run-played.result.items c.run-played.ensures.goes_on)

pub returns-clause-nodes : goal.returns-clause-nodes
returns-clause-nodes g c = c.collect.ensures.nodes ∙ ap (λ (w : EdgeWindow). length c.args.resting.now.spare + length (last_list w)) (window_stays c.args.queues.now c.args.batches.now c.args.players.items c.run-played.result.items c.run-played.ensures.goes_on)

pub returns-clause-crew : goal.returns-clause-crew
returns-clause-crew g c = (c.run-played.result.items, c.run-played.ensures.goes_on, c.run-played.ensures.ended, c.collect.ensures.crew)

pub returns-clause-raised : goal.returns-clause-raised
returns-clause-raised g c =
    let f = c.run-played.ensures.goes_on in
    let here = subst (λ (w : EdgeWindow). AllRaised c.args.queues.now w 0 (turned c.run-played.result.items) c.collect.new.resting.passes.items) (window_stays c.args.queues.now c.args.batches.now c.args.players.items c.run-played.result.items f) c.collect.ensures.raised in
    raised_since c.args.queues.now _ c.args.batches.now c.args.players.items c.run-played.result.items _ f here

pub collect-requires-clause-room_crew : goal.collect-requires-clause-room_crew
collect-requires-clause-room_crew g c = omega (arith, on_count c.args.queues.now c.args.batches.now c.args.players.items c.run-played.result.items c.run-played.ensures.goes_on, c.requires.room_crew)

pub collect-requires-clause-room_passes : goal.collect-requires-clause-room_passes
collect-requires-clause-room_passes g c = omega (arith, on_count c.args.queues.now c.args.batches.now c.args.players.items c.run-played.result.items c.run-played.ensures.goes_on, c.requires.room_passes)
