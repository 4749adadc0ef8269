use Rattle.std.proofs.Common.{◌<◌, ◌≤◌, ◌+◌, ◌^◌, ◌++◌, ℕ, List, length, get_or, sym, ap, ◌∙◌, subst, refl}
use Rattle.crossbeam_queue.specs.Passes.{Pass}
use Rattle.alloc_pipeline.specs.declared.parcel.EdgeWindow.{EdgeWindow}
use Rattle.alloc_pipeline.specs.declared.parcel.Parcel.{Parcel}
use Rattle.alloc_pipeline.specs.declared.parcel.View.{View}
use Rattle.alloc_pipeline.specs.Rings.{last_list}
use Rattle.alloc_pipeline.specs.Joined.{AllRaised}
use Rattle.alloc_pipeline.specs.Starts.{played_window}
use Rattle.alloc_pipeline.proofs.Drained.{stands_last}
use Rattle.alloc_pipeline.proofs.Collected.{at_last, split_all, taken_now, even_all, raised_all, same_turned, same_crew}
use Rattle.alloc_pipeline.proofs.rejoin.collect.Goals as goal

pub take_list-requires-clause-queue : goal.take_list-requires-clause-queue
take_list-requires-clause-queue g c =
    let h = at_last c.args.queues.now (played_window c.args.players.now.items) c.requires.may.all.queue_count c.args.players.now.items c.requires.may.all.places c.requires.may.linked c.requires.may.ended c.requires.may.all.some_workers c.requires.may.all.player_count c.args.last c.requires.may.all.last_is c.index_mut.result.now c.index_mut.ensures.value in
    h.1.taking _ (c.index-queues-last.is ∙ ap (λ (n : ℕ). get_or c.args.queues.now n c.index-queues-last.result) (sym h.0.number))

pub take_list-requires-clause-taking : goal.take_list-requires-clause-taking
take_list-requires-clause-taking g c =
    let h = at_last c.args.queues.now (played_window c.args.players.now.items) c.requires.may.all.queue_count c.args.players.now.items c.requires.may.all.places c.requires.may.linked c.requires.may.ended c.requires.may.all.some_workers c.requires.may.all.player_count c.args.last c.requires.may.all.last_is c.index_mut.result.now c.index_mut.ensures.value in
    h.1.plays.taking

pub take_list-requires-clause-last : goal.take_list-requires-clause-last
take_list-requires-clause-last g c =
    let h = at_last c.args.queues.now (played_window c.args.players.now.items) c.requires.may.all.queue_count c.args.players.now.items c.requires.may.all.places c.requires.may.linked c.requires.may.ended c.requires.may.all.some_workers c.requires.may.all.player_count c.args.last c.requires.may.all.last_is c.index_mut.result.now c.index_mut.ensures.value in
    stands_last c.args.queues.now (played_window c.args.players.now.items) c.args.last c.index_mut.result.now h.0 h.1 h.2 c.requires.may.all.queue_count c.requires.may.all.last_is

pub take_list-requires-clause-room : goal.take_list-requires-clause-room
take_list-requires-clause-room g c =
    let h = at_last c.args.queues.now (played_window c.args.players.now.items) c.requires.may.all.queue_count c.args.players.now.items c.requires.may.all.places c.requires.may.linked c.requires.may.ended c.requires.may.all.some_workers c.requires.may.all.player_count c.args.last c.requires.may.all.last_is c.index_mut.result.now c.index_mut.ensures.value in
    subst (λ (v : EdgeWindow). length (last_list v) ≤ c.args.list.now.spare) (sym h.0.taking_in) c.requires.may.all.fits

pub take_list-requires-clause-fits : goal.take_list-requires-clause-fits
take_list-requires-clause-fits g c =
    let h = at_last c.args.queues.now (played_window c.args.players.now.items) c.requires.may.all.queue_count c.args.players.now.items c.requires.may.all.places c.requires.may.linked c.requires.may.ended c.requires.may.all.some_workers c.requires.may.all.player_count c.args.last c.requires.may.all.last_is c.index_mut.result.now c.index_mut.ensures.value in
    subst (λ (v : EdgeWindow). length c.args.resting.now.spare + length (last_list v) < 2 ^ 64) (sym h.0.taking_in) c.requires.may.all.counts

pub join_all-requires-clause-even : goal.join_all-requires-clause-even
join_all-requires-clause-even g c =
    let h = at_last c.args.queues.now (played_window c.args.players.now.items) c.requires.may.all.queue_count c.args.players.now.items c.requires.may.all.places c.requires.may.linked c.requires.may.ended c.requires.may.all.some_workers c.requires.may.all.player_count c.args.last c.requires.may.all.last_is c.index_mut.result.now c.index_mut.ensures.value in
    let t = taken_now c.args.queues.now (played_window c.args.players.now.items) c.requires.may.all.queue_count c.args.last c.index_mut.result.now c.take_list.new.pass c.index-queues-last.result h.0 h.1 c.index-queues-last.is c.take_list.ensures.queue c.take_list.ensures.kind c.take_list.ensures.taken in
    let d = split_all c.args.queues.now (played_window c.args.players.now.items) c.requires.may.all.queue_count c.args.players.now.items c.requires.may.all.places c.requires.may.linked c.requires.may.ended c.requires.may.all.some_workers c.requires.may.all.player_count c.args.last c.requires.may.all.last_is c.index_mut.result.now c.index_mut.ensures.value c.pop.new.self.items c.in-Some.player _ c.in-Some.ensures.items t refl in
    even_all c.args.queues.now (played_window c.args.players.now.items) c.requires.may.all.queue_count c.pop.new.self.items c.in-Some.player d.0 d.1

pub returns-clause-list : goal.returns-clause-list
returns-clause-list g c =
    let h = at_last c.args.queues.now (played_window c.args.players.now.items) c.requires.may.all.queue_count c.args.players.now.items c.requires.may.all.places c.requires.may.linked c.requires.may.ended c.requires.may.all.some_workers c.requires.may.all.player_count c.args.last c.requires.may.all.last_is c.index_mut.result.now c.index_mut.ensures.value in
    c.take_list.ensures.items ∙ ap (λ (v : EdgeWindow). c.args.list.now.items ++ last_list v) h.0.taking_in

pub returns-clause-nodes : goal.returns-clause-nodes
returns-clause-nodes g c =
    let h = at_last c.args.queues.now (played_window c.args.players.now.items) c.requires.may.all.queue_count c.args.players.now.items c.requires.may.all.places c.requires.may.linked c.requires.may.ended c.requires.may.all.some_workers c.requires.may.all.player_count c.args.last c.requires.may.all.last_is c.index_mut.result.now c.index_mut.ensures.value in
    c.take_list.ensures.nodes ∙ ap (λ (v : EdgeWindow). length c.args.resting.now.spare + length (last_list v)) h.0.taking_in

pub returns-clause-crew : goal.returns-clause-crew
returns-clause-crew g c = same_crew c.args.players.now.items c.pop.new.self.items c.in-Some.player c.args.last c.index_mut.result.now _ _ _ c.index_mut.ensures.value refl c.in-Some.ensures.items c.join_all.ensures.crew c.push_reserved.ensures.items

pub returns-clause-raised : goal.returns-clause-raised
returns-clause-raised g c =
    let h = at_last c.args.queues.now (played_window c.args.players.now.items) c.requires.may.all.queue_count c.args.players.now.items c.requires.may.all.places c.requires.may.linked c.requires.may.ended c.requires.may.all.some_workers c.requires.may.all.player_count c.args.last c.requires.may.all.last_is c.index_mut.result.now c.index_mut.ensures.value in
    let t = taken_now c.args.queues.now (played_window c.args.players.now.items) c.requires.may.all.queue_count c.args.last c.index_mut.result.now c.take_list.new.pass c.index-queues-last.result h.0 h.1 c.index-queues-last.is c.take_list.ensures.queue c.take_list.ensures.kind c.take_list.ensures.taken in
    let d = split_all c.args.queues.now (played_window c.args.players.now.items) c.requires.may.all.queue_count c.args.players.now.items c.requires.may.all.places c.requires.may.linked c.requires.may.ended c.requires.may.all.some_workers c.requires.may.all.player_count c.args.last c.requires.may.all.last_is c.index_mut.result.now c.index_mut.ensures.value c.pop.new.self.items c.in-Some.player _ c.in-Some.ensures.items t refl in
    subst (λ (gs : List (Pass Parcel View)). AllRaised c.args.queues.now (played_window c.args.players.now.items) 0 gs c.join_all.new.passes.items) (sym (same_turned c.args.players.now.items c.pop.new.self.items c.in-Some.player c.args.last c.index_mut.result.now _ c.index_mut.ensures.value refl c.in-Some.ensures.items))
    (raised_all c.args.queues.now (played_window c.args.players.now.items) c.requires.may.all.queue_count c.pop.new.self.items c.in-Some.player d.0 d.1 c.join_all.new.passes.items c.join_all.ensures.joined)
