use Rattle.std.proofs.Common.{◌≡◌, ◌<◌, ◌≤◌, ◌+◌, ◌-◌, ℕ, length, All, Some, slice_get}
use Rattle.greedy_rules.specs.Demands.{AreBelow, opened}
use Rattle.slot_batches.specs.Stands.{StageState, stage_endpoints, batch_size_of}
use Rattle.std.specs.Prelude.{slice_index_or}
use Rattle.ring_core.specs.Openings.{own_openings}
use Rattle.ring_core.specs.Workers.{own_stage, HasBegun}
use Rattle.ring_core.proofs.worker.begin_stages.Given as goal

abbrev pub invariant-loop-own : goal.invariant-loop-own
invariant-loop-own l = record {
  stage : l.stage ≡ own_stage l.workers l.number l.own-index;
  near : l.stage < length l.batches + l.workers;
  count : length l.own-items ≡ length l.fn.stages;
  in_range : All (λ stage. All (λ batch. AreBelow (stage_endpoints stage) (opened batch.entries)) l.batches) l.own-items;
  endpoints : (endpoints : ℕ) → All (λ stage. stage_endpoints stage ≡ endpoints) l.fn.stages → All (λ stage. stage_endpoints stage ≡ endpoints) l.own-items;
  sizes : All (λ stage. batch_size_of stage ≡ l.b) l.own-items;
  rest : (place : ℕ) (d : StageState) → l.own-index ≤ place → place < length l.own-items → (slice_index_or l.own-items place d).nodes ≡ 0;
  spare : length l.spare + own_openings (length l.fn.stages) l.batches l.workers l.number ≡ length l.fn.spare + own_openings (length l.fn.stages - l.own-index) l.batches l.workers l.stage;
  begun : (endpoints : ℕ) → All (λ stage. stage_endpoints stage ≡ endpoints) l.fn.stages → (place : ℕ) (state : StageState) → place < l.own-index → slice_get l.own-items place ≡ Some state
      → HasBegun endpoints l.b l.first_batch l.batches (own_stage l.workers l.number place) state;
}
