use Rattle.std.proofs.Common.{◌≡◌, ◌+◌, ℕ, List, length, get_or, ap, ◌∙◌, subst, arith}
use Rattle.greedy_rules.specs.Batches.{DemandBatch}
use Rattle.ring_core.specs.Workers.{MayBegin}
use Rattle.alloc_pipeline.specs.Starts.{named}
use Rattle.alloc_pipeline.proofs.Starting.{link_less, link_one}
use Rattle.alloc_pipeline.proofs.start.+link_first.Goals as goal

pub begin-next-requires-clause-queue : goal.begin-next-requires-clause-queue
begin-next-requires-clause-queue g t c =
    let less = link_less c.args.queues.now (named c.args.window.now) c.args.batches.now c.requires.may.batches_are c.requires.may.queue_count _ _ _ _ _ _ _ _ c.in-Some.ensures.items c.in-Some-pop.ensures.items c.requires.may in
    less.2.on _ (c.index-queues-number.is ∙ ap (λ (n : ℕ). get_or c.args.queues.now n c.index-queues-number.result) (let q : c.len-number.result + 1 ≡ length c.pop.new.self.items + 1 = omega (arith, c.len-number.ensures) in q))

pub begin-next-requires-clause-whole : goal.begin-next-requires-clause-whole
begin-next-requires-clause-whole g t c =
    let less = link_less c.args.queues.now (named c.args.window.now) c.args.batches.now c.requires.may.batches_are c.requires.may.queue_count _ _ _ _ _ _ _ _ c.in-Some.ensures.items c.in-Some-pop.ensures.items c.requires.may in
    (less.2.whole, less.2.bare)

pub link_first-taking-requires : goal.link_first-taking-requires
link_first-taking-requires g t c κs within =
    let less = link_less c.args.queues.now (named c.args.window.now) c.args.batches.now c.requires.may.batches_are c.requires.may.queue_count _ _ _ _ _ _ _ _ c.in-Some.ensures.items c.in-Some-pop.ensures.items c.requires.may in
    (omega (arith, c.in-Some.ensures.cases), (within, (less.0, (c.requires.none, omega (arith, c.in-Some.ensures.cases, c.requires.room)))))

pub begin-requires-clause-worker : goal.begin-requires-clause-worker
begin-requires-clause-worker g t c =
    let less = link_less c.args.queues.now (named c.args.window.now) c.args.batches.now c.requires.may.batches_are c.requires.may.queue_count _ _ _ _ _ _ _ _ c.in-Some.ensures.items c.in-Some-pop.ensures.items c.requires.may in
    less.1.is_worker

pub begin-requires-clause-may : goal.begin-requires-clause-may
begin-requires-clause-may g t c =
    let less = link_less c.args.queues.now (named c.args.window.now) c.args.batches.now c.requires.may.batches_are c.requires.may.queue_count _ _ _ _ _ _ _ _ c.in-Some.ensures.items c.in-Some-pop.ensures.items c.requires.may in
    subst (λ (bs : List DemandBatch). MayBegin c.in-Some.worker c.args.window.now.first_batch bs) c.requires.may.batches_are less.1.may

pub begin-requires-clause-none : goal.begin-requires-clause-none
begin-requires-clause-none g t c =
    let less = link_less c.args.queues.now (named c.args.window.now) c.args.batches.now c.requires.may.batches_are c.requires.may.queue_count _ _ _ _ _ _ _ _ c.in-Some.ensures.items c.in-Some-pop.ensures.items c.requires.may in
    less.1.none

pub begin-requires-clause-nodes : goal.begin-requires-clause-nodes
begin-requires-clause-nodes g t c =
    let less = link_less c.args.queues.now (named c.args.window.now) c.args.batches.now c.requires.may.batches_are c.requires.may.queue_count _ _ _ _ _ _ _ _ c.in-Some.ensures.items c.in-Some-pop.ensures.items c.requires.may in
    omega (arith, c.link_first-taking.ensures.linked.nodes, less.4, c.requires.may.nodes)

pub returns-clause-linked : goal.returns-clause-linked
returns-clause-linked g t c =
    link_one c.args.queues.now (named c.args.window.now) c.args.batches.now c.requires.may.batches_are c.requires.may.queue_count _ _ _ _ _ _ _ _ _ _ _ _ _ _ _ _ _ _ c.in-Some.ensures.items c.in-Some-pop.ensures.items c.push_reserved.ensures.items c.requires.may
    c.link_first-taking.ensures.linked (omega (arith, c.len-number.ensures)) c.index-queues-number.is c.begin-next.ensures.queue c.begin-next.ensures.new_queue c.begin-next.ensures.giving c.begin-next.ensures.taking c.begin.ensures.same c.begin.ensures.plays c.begin.ensures.spare
