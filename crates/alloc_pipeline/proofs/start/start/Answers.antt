use Rattle.std.proofs.Common.{◌≡◌, ℕ, List, length, sym, ap, ◌∙◌, subst, arith}
use Rattle.crossbeam_queue.specs.Passes.{Pass, view}
use Rattle.greedy_rules.specs.Batches.{DemandBatch}
use Rattle.slot_batches.specs.Pieces.{piece_count}
use Rattle.ring_core.specs.Workers.{MayBegin}
use Rattle.alloc_pipeline.specs.declared.parcel.Parcel.{Parcel}
use Rattle.alloc_pipeline.specs.declared.parcel.View.{View}
use Rattle.alloc_pipeline.specs.Rules.{giving}
use Rattle.alloc_pipeline.specs.Joined.{edge_at}
use Rattle.alloc_pipeline.specs.Starts.{named, MayBeStarted, AreStarted, TakesFirst}
use Rattle.alloc_pipeline.proofs.Starting.{by_first, on_too, start_less, start_one}
use Rattle.alloc_pipeline.proofs.start.start.Goals as goal

pub link_first-taking-requires-clause-may : goal.link_first-taking-requires-clause-may
link_first-taking-requires-clause-may g c =
    let w = named c.args.window.now in
    let all = by_first c.args.resting.now.passes.items c.remove-giving.result c.remove-giving.new.self.items (omega (arith, c.requires.may.count, c.requires.may.some_workers)) c.remove-giving.ensures.value c.remove-giving.ensures.by_index.2 in
    let may = subst (λ (ps : List (Pass Parcel View)). MayBeStarted c.args.queues.now w c.args.batches.now c.args.resting.now.workers.items ps (length c.args.resting.now.spare)) all c.requires.may in
    let takes : TakesFirst c.args.queues.now w 0 c.begin-first.result = record {
      on = on_too c.args.queues.now w c.args.batches.now may.batches_are may.queue_count 0 c.remove-giving.result c.begin-first.result c.index-queues-0.result may.resting.0.on c.index-queues-0.is c.begin-first.ensures.new_queue;
      free = c.begin-first.ensures.new_queue.1;
      takes = c.begin-first.ensures.taking;
    } in
    let less = start_less c.args.queues.now w c.args.batches.now may.batches_are may.queue_count c.args.resting.now.workers.items c.pop.new.self.items c.in-Some.worker c.remove-giving.result c.remove-giving.new.self.items (length c.args.resting.now.spare) (length c.give_list.new.spare) c.begin-first.result
    c.in-Some.ensures.items may c.give_list.ensures.nodes takes in
    less.0

pub begin-requires-clause-worker : goal.begin-requires-clause-worker
begin-requires-clause-worker g c =
    let w = named c.args.window.now in
    let all = by_first c.args.resting.now.passes.items c.remove-giving.result c.remove-giving.new.self.items (omega (arith, c.requires.may.count, c.requires.may.some_workers)) c.remove-giving.ensures.value c.remove-giving.ensures.by_index.2 in
    let may = subst (λ (ps : List (Pass Parcel View)). MayBeStarted c.args.queues.now w c.args.batches.now c.args.resting.now.workers.items ps (length c.args.resting.now.spare)) all c.requires.may in
    let takes : TakesFirst c.args.queues.now w 0 c.begin-first.result = record {
      on = on_too c.args.queues.now w c.args.batches.now may.batches_are may.queue_count 0 c.remove-giving.result c.begin-first.result c.index-queues-0.result may.resting.0.on c.index-queues-0.is c.begin-first.ensures.new_queue;
      free = c.begin-first.ensures.new_queue.1;
      takes = c.begin-first.ensures.taking;
    } in
    let less = start_less c.args.queues.now w c.args.batches.now may.batches_are may.queue_count c.args.resting.now.workers.items c.pop.new.self.items c.in-Some.worker c.remove-giving.result c.remove-giving.new.self.items (length c.args.resting.now.spare) (length c.give_list.new.spare) c.begin-first.result
    c.in-Some.ensures.items may c.give_list.ensures.nodes takes in
    less.1.is_worker

pub begin-requires-clause-may : goal.begin-requires-clause-may
begin-requires-clause-may g c =
    let w = named c.args.window.now in
    let all = by_first c.args.resting.now.passes.items c.remove-giving.result c.remove-giving.new.self.items (omega (arith, c.requires.may.count, c.requires.may.some_workers)) c.remove-giving.ensures.value c.remove-giving.ensures.by_index.2 in
    let may = subst (λ (ps : List (Pass Parcel View)). MayBeStarted c.args.queues.now w c.args.batches.now c.args.resting.now.workers.items ps (length c.args.resting.now.spare)) all c.requires.may in
    let takes : TakesFirst c.args.queues.now w 0 c.begin-first.result = record {
      on = on_too c.args.queues.now w c.args.batches.now may.batches_are may.queue_count 0 c.remove-giving.result c.begin-first.result c.index-queues-0.result may.resting.0.on c.index-queues-0.is c.begin-first.ensures.new_queue;
      free = c.begin-first.ensures.new_queue.1;
      takes = c.begin-first.ensures.taking;
    } in
    let less = start_less c.args.queues.now w c.args.batches.now may.batches_are may.queue_count c.args.resting.now.workers.items c.pop.new.self.items c.in-Some.worker c.remove-giving.result c.remove-giving.new.self.items (length c.args.resting.now.spare) (length c.give_list.new.spare) c.begin-first.result
    c.in-Some.ensures.items may c.give_list.ensures.nodes takes in
    subst (λ (bs : List DemandBatch). MayBegin c.in-Some.worker c.args.window.now.first_batch bs) may.batches_are less.1.may

pub begin-requires-clause-none : goal.begin-requires-clause-none
begin-requires-clause-none g c =
    let w = named c.args.window.now in
    let all = by_first c.args.resting.now.passes.items c.remove-giving.result c.remove-giving.new.self.items (omega (arith, c.requires.may.count, c.requires.may.some_workers)) c.remove-giving.ensures.value c.remove-giving.ensures.by_index.2 in
    let may = subst (λ (ps : List (Pass Parcel View)). MayBeStarted c.args.queues.now w c.args.batches.now c.args.resting.now.workers.items ps (length c.args.resting.now.spare)) all c.requires.may in
    let takes : TakesFirst c.args.queues.now w 0 c.begin-first.result = record {
      on = on_too c.args.queues.now w c.args.batches.now may.batches_are may.queue_count 0 c.remove-giving.result c.begin-first.result c.index-queues-0.result may.resting.0.on c.index-queues-0.is c.begin-first.ensures.new_queue;
      free = c.begin-first.ensures.new_queue.1;
      takes = c.begin-first.ensures.taking;
    } in
    let less = start_less c.args.queues.now w c.args.batches.now may.batches_are may.queue_count c.args.resting.now.workers.items c.pop.new.self.items c.in-Some.worker c.remove-giving.result c.remove-giving.new.self.items (length c.args.resting.now.spare) (length c.give_list.new.spare) c.begin-first.result
    c.in-Some.ensures.items may c.give_list.ensures.nodes takes in
    less.1.none

pub begin-requires-clause-nodes : goal.begin-requires-clause-nodes
begin-requires-clause-nodes g c =
    let w = named c.args.window.now in
    let all = by_first c.args.resting.now.passes.items c.remove-giving.result c.remove-giving.new.self.items (omega (arith, c.requires.may.count, c.requires.may.some_workers)) c.remove-giving.ensures.value c.remove-giving.ensures.by_index.2 in
    let may = subst (λ (ps : List (Pass Parcel View)). MayBeStarted c.args.queues.now w c.args.batches.now c.args.resting.now.workers.items ps (length c.args.resting.now.spare)) all c.requires.may in
    let takes : TakesFirst c.args.queues.now w 0 c.begin-first.result = record {
      on = on_too c.args.queues.now w c.args.batches.now may.batches_are may.queue_count 0 c.remove-giving.result c.begin-first.result c.index-queues-0.result may.resting.0.on c.index-queues-0.is c.begin-first.ensures.new_queue;
      free = c.begin-first.ensures.new_queue.1;
      takes = c.begin-first.ensures.taking;
    } in
    let less = start_less c.args.queues.now w c.args.batches.now may.batches_are may.queue_count c.args.resting.now.workers.items c.pop.new.self.items c.in-Some.worker c.remove-giving.result c.remove-giving.new.self.items (length c.args.resting.now.spare) (length c.give_list.new.spare) c.begin-first.result
    c.in-Some.ensures.items may c.give_list.ensures.nodes takes in
    omega (arith, c.link_first-taking.ensures.linked.nodes, less.3, may.nodes, c.give_list.ensures.nodes)

pub returns-clause-started : goal.returns-clause-started
returns-clause-started g c =
    let w = named c.args.window.now in
    let all = by_first c.args.resting.now.passes.items c.remove-giving.result c.remove-giving.new.self.items (omega (arith, c.requires.may.count, c.requires.may.some_workers)) c.remove-giving.ensures.value c.remove-giving.ensures.by_index.2 in
    let may = subst (λ (ps : List (Pass Parcel View)). MayBeStarted c.args.queues.now w c.args.batches.now c.args.resting.now.workers.items ps (length c.args.resting.now.spare)) all c.requires.may in
    let takes : TakesFirst c.args.queues.now w 0 c.begin-first.result = record {
      on = on_too c.args.queues.now w c.args.batches.now may.batches_are may.queue_count 0 c.remove-giving.result c.begin-first.result c.index-queues-0.result may.resting.0.on c.index-queues-0.is c.begin-first.ensures.new_queue;
      free = c.begin-first.ensures.new_queue.1;
      takes = c.begin-first.ensures.taking;
    } in
    let less = start_less c.args.queues.now w c.args.batches.now may.batches_are may.queue_count c.args.resting.now.workers.items c.pop.new.self.items c.in-Some.worker c.remove-giving.result c.remove-giving.new.self.items (length c.args.resting.now.spare) (length c.give_list.new.spare) c.begin-first.result
    c.in-Some.ensures.items may c.give_list.ensures.nodes takes in
    let pieces : c.count_pieces-pieces.result ≡ piece_count c.args.window.now.list.now.items = c.count_pieces-pieces.ensures ∙ ap piece_count c.items.ensures in
    let gives = c.give_list.ensures.given
    ∙ (ap (λ (v : View). giving v.window (piece_count c.args.window.now.list.now.items) v.moved) c.begin-first.ensures.giving
    ∙ ap (λ (n : ℕ). giving (edge_at w 0) n (view c.remove-giving.result).moved) (sym pieces)) in
    subst (λ (ps : List (Pass Parcel View)). AreStarted c.args.queues.now w c.args.batches.now c.args.resting.now.workers.items ps (length c.args.resting.now.spare) (length c.begin.new.spare) c.push_reserved.new.self.items) (sym all)
    (start_one c.args.queues.now w c.args.batches.now may.batches_are may.queue_count _ _ _ _ _ _ _ _ _ _ _ _ _ _ _ _ _ _ c.in-Some.ensures.items c.push_reserved.ensures.items may c.give_list.ensures.nodes takes
    c.link_first-taking.ensures.linked (omega (arith, may.some_workers)) c.index-queues-0-2.is c.give_list.ensures.queue gives pieces c.begin.ensures.same c.begin.ensures.plays c.begin.ensures.spare)
