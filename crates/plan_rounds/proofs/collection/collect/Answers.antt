use Rattle.std.proofs.Common.{◌≡◌, ◌+◌, ◌-◌, ℕ, List, [], ◌∷◌, ◌++◌, take, drop, sym, ap, ◌∙◌, arith}
use Rattle.greedy_rules.specs.Batches.{DemandBatch}
use Rattle.plan_rounds.specs.Batches.{plan_batches}
use Rattle.plan_rounds.proofs.PlanBatches.{batch_of, batches_more}
use Rattle.plan_rounds.proofs.collection.collect.Goals as goal

pub loop-round-preserved : goal.loop-round-preserved
loop-round-preserved c =
    let trace = c.args.trace.now in
    let k : ℕ = c.loop-round.round in
    let first : ℕ = c.args.first in
    let at : ℕ = k - first in
    let next : k + 1 - first ≡ at + 1 = omega arith in
    let place : first + at ≡ k = omega arith in
    let batch : DemandBatch = c.in_ok-batch.batch in
    let one : DemandBatch → List DemandBatch = λ x. x ∷ [] in
    record {
      batches = c.in_ok-push.ensures.items
          ∙ (ap (λ (bs : List DemandBatch). bs ++ one batch) c.loop-round.invariant.batches
          ∙ (ap (λ (x : DemandBatch). take at (drop first (plan_batches trace)) ++ one x) (c.in_ok-batch.ensures.batch ∙ ap (batch_of trace) (sym place))
          ∙ (sym (batches_more trace first at c.rounds-rounds.ensures.sound (omega arith)) ∙ ap (λ (n : ℕ). take n (drop first (plan_batches trace))) (sym next))));
      tallies = c.in_ok-batch.ensures.tallies;
    }
