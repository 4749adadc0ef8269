use Rattle.std.proofs.Common.{◌≡◌, ◌≤◌, List, [], ◌∷◌, ◌++◌, length, sym, ap, ◌∙◌, subst, arith, length-append}
use Rattle.greedy_rules.specs.declared.limits.Limits.{Limits}
use Rattle.greedy_rules.specs.Batches.{DemandBatch}
use Rattle.greedy_rules.specs.Recorded.{AreRecorded, demand_of}
use Rattle.greedy_rules.proofs.RecordedLemmas.{AreRecordedAfter-more}
use Rattle.rules_rows.proofs.AskLemmas.{adds_one, asks_recorded, none_recorded, demand_same}
use Rattle.rules_rows.proofs.tests.ring_core_rows.window.Goals as goal

abbrev racks : Limits
racks = record { hosts = 44; cores = 44 }

pub loop-init : goal.loop-init
loop-init c =
    let batch : DemandBatch = c.in_ok-asks.field-0 in
    let told = c.in_ok-asks.ensures in
    let items : c.push.new.self.items ≡ batch ∷ [] = c.in_ok-push.ensures.items ∙ ap (λ (bs : List DemandBatch). bs ++ batch ∷ []) c.in_ok-window.ensures.items in
    record {
      count = ap length items;
      recorded = subst (AreRecorded 132 racks) (sym items) (asks_recorded racks batch told.limits told.rises told.opens, tt);
      demands = λ flow. subst (λ (bs : List DemandBatch). demand_of bs flow ≤ 1) (sym items) (adds_one batch.entries flow 0 told.opens);
    }

pub loop-preserved : goal.loop-preserved
loop-preserved c =
    let was = c.loop.invariant in
    let old : List DemandBatch = c.loop.window.items in
    let none : DemandBatch = record { entries = []; limits = racks } in
    let items : c.push-in-loop.new.self.items ≡ old ++ none ∷ [] = c.in_ok-push-2.ensures.items ∙ ap (λ (b : DemandBatch). old ++ b ∷ []) c.with_limits.ensures in
    record {
      count = omega (arith, ap length items, length-append old (none ∷ []), was.count);
      recorded = subst (AreRecorded 132 racks) (sym items) (AreRecordedAfter-more 132 racks [] old none was.recorded (none_recorded racks old was.demands));
      demands = λ flow. subst (λ (bs : List DemandBatch). demand_of bs flow ≤ 1) (sym items) (omega (arith, demand_same old racks flow 0, was.demands flow));
    }
