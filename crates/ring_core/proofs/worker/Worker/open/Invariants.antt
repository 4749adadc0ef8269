use Rattle.std.proofs.Common.{◌≡◌, ◌-◌, length, All}
use Rattle.slot_batches.specs.Stands.{stage_endpoints, batch_size_of}
use Rattle.ring_core.specs.Workers.{own_stage}
use Rattle.ring_core.proofs.worker.Worker.open.Given as goal

abbrev pub invariant-loop-stage : goal.invariant-loop-stage
invariant-loop-stage l = record {
  stage : l.stage ≡ own_stage l.workers l.number (length l.stages.items);
  endpoints : All (λ stage. stage_endpoints stage ≡ l.endpoints) l.stages.items;
  sizes : All (λ stage. batch_size_of stage ≡ l.b) l.stages.items;
  none : All (λ stage. stage.nodes ≡ 0) l.stages.items;
}

abbrev pub decreases-loop-stage : goal.decreases-loop-stage
decreases-loop-stage l = l.batches - l.stage
