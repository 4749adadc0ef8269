use Rattle.std.proofs.Common.{◌≡◌, ◌≤◌, ◌-◌, List, length, take}
use Rattle.greedy_rules.specs.declared.flows.Entry.{Entry}
use Rattle.greedy_rules.specs.Batches.{DemandBatch}
use Rattle.schedule_audit.specs.Played.{BeginWith}
use Rattle.schedule_audit.proofs.rounds.read_batch.Given as goal

abbrev pub invariant-loop-at : goal.invariant-loop-at
invariant-loop-at l = record {
  read : (entries : List Entry) → (later : List DemandBatch) → BeginWith l.round l.seen entries later l.todo → (l.at ≤ length entries) × (l.batch.entries ≡ take l.at entries);
  limits : l.batch.limits ≡ l.fn.limits;
}

abbrev pub decreases-loop-at : goal.decreases-loop-at
decreases-loop-at l = length l.todo - l.at
