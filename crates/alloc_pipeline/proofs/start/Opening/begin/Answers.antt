use Rattle.std.proofs.Common.{map, ap, ◌∙◌}
use Rattle.crossbeam_queue.specs.Passes.{view}
use Rattle.alloc_pipeline.specs.declared.parcel.View.{View}
use Rattle.alloc_pipeline.specs.Rules.{giving, taking}
use Rattle.alloc_pipeline.proofs.start.Opening.begin.Goals as goal

pub returns-clause-giving : goal.returns-clause-giving
returns-clause-giving g c =
    let o = c.args.self.now in
    c.split.ensures.giving
    ∙ (ap (λ (v : View). giving v.window 0 v.moved) c.begin.ensures.named
    ∙ (λ i. giving (record { list = (c.of.ensures i).items; batches = map (λ batch. batch.value) (c.of-2.ensures i).items; first_batch = o.first_batch; b = o.b; workers = o.workers; worker = c.args.worker }) 0 (view c.args.pass.now).moved))

pub returns-clause-taking : goal.returns-clause-taking
returns-clause-taking g c =
    let o = c.args.self.now in
    c.split.ensures.taking
    ∙ (ap (λ (v : View). taking v.window 0) c.begin.ensures.named
    ∙ (λ i. taking (record { list = (c.of.ensures i).items; batches = map (λ batch. batch.value) (c.of-2.ensures i).items; first_batch = o.first_batch; b = o.b; workers = o.workers; worker = c.args.worker }) 0))
