use Rattle.alloc_pipeline.proofs.Edging.{opened_more}
use Rattle.alloc_pipeline.proofs.crew.open_edges.Goals as goal

pub loop-preserved : goal.loop-preserved
loop-preserved c =
    let was = c.loop.invariant in
    let told = c.in_ok-queue.ensures in
    let next = opened_more c.loop.queues.items c.push.new.self.items c.in_ok-queue.queue c.loop.passes.items c.push-in-loop.new.self.items c.in_ok-queue.pass c.loop.counter c.in_ok-push.ensures.items c.in_ok-push-2.ensures.items
    (record { queue_count = was.queues; rooms = was.rooms; pass_count = was.passes; resting = was.resting; moved = was.moved }) told.room told.queue told.whole in
    record { queues = next.queue_count; rooms = next.rooms; passes = next.pass_count; resting = next.resting; moved = next.moved }
