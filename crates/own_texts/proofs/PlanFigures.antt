-- The flow lines of a plan say what its batches come to.
use Rattle.std.proofs.Common.{◌≡◌, ◌<◌, ◌+◌, ◌==◌, ◌||◌, not, ℕ, List, [], ◌∷◌, ◌++◌, map, cond, Bool, true, false, Option, Some, None, refl, sym, ap, arith}
use Rattle.std.proofs.lemmas.Bool.{eq-eqb, or_from}
use Rattle.std.proofs.lemmas.List.Sums.{sum_by-cons, sum_by-append}
use Rattle.greedy_rules.specs.declared.flows.Flow.{Flow}
use Rattle.greedy_rules.specs.declared.limits.Limits.{Limits}
use Rattle.greedy_rules.specs.Flows.{same_flow}
use Rattle.greedy_rules.specs.Batches.{DemandBatch, entry_of}
use Rattle.greedy_rules.specs.Allocation.{slots_of}
use Rattle.greedy_rules.specs.Demands.{need_in, item_of}
use Rattle.greedy_rules.specs.Schedule.{schedule, rest}
use Rattle.greedy_rules.specs.Balance.{is_recorded, added_by, added_of}
use Rattle.greedy_rules.specs.Recorded.{AreRecordedAfter}
use Rattle.clos_topology.specs.Network.{endpoints_of}
use Rattle.clos_topology.specs.NetSlots.{limits_of}
use Rattle.schedule_audit.specs.declared.recorded.Recorded.{Recorded}
use Rattle.schedule_audit.specs.Wrong.{Expected, expected_of_batches, added_in_all, is_bad_flow}
use Rattle.schedule_audit.specs.Texts.{record_of, records_of}
use Rattle.schedule_audit.proofs.RoundSteps.{added-one}
use Rattle.trace_text.specs.Trace.{TraceContent}
use Rattle.trace_text.specs.Valid.{IsTrace}
use Rattle.window_engine.specs.Nets.{AreOfNet}
use Rattle.window_engine.specs.Batches.{plan_batches}
use Rattle.window_engine.specs.Counts.{plan_counts, EveryPlanBalances}
use Rattle.run_lines.specs.Text.{flow_lines_of, flow_lines, flows_lines}
use Rattle.window_engine.specs.Asked.{EveryPlanAddsWhatIsAsked}
use Rattle.own_texts.proofs.Shows.{Shows, shows-nil}
use Rattle.own_texts.proofs.EachFlow.{each_flow}
use Rattle.own_texts.proofs.Formed.{below_most}

-- ---- what a flow's entries add

added_all : (endpoints k : ℕ) (limits : Limits) (front batches : List DemandBatch) (flow : Flow) → AreRecordedAfter endpoints limits front batches → added_in_all flow (records_of k batches) ≡ added_of flow batches
added_all endpoints k limits front [] flow are = refl
added_all endpoints k limits front (batch ∷ batches) flow are =
    omega (
      arith,
      sum_by-append (λ (r : Recorded). cond (same_flow r.flow flow) r.add 0) (map (record_of k) batch.entries) (records_of (k + 1) batches),
      sum_by-cons (λ (x : DemandBatch). added_by (entry_of x.entries flow)) batch batches,
      added-one k batch.entries flow are.0.rises,
      added_all endpoints (k + 1) limits (front ++ batch ∷ []) batches flow are.1,
    )

-- ---- flow lines

good_flow : (endpoints b : ℕ) (limits : Limits) (batches : List DemandBatch) (f : Flow) → AreRecordedAfter endpoints limits [] batches
    → is_bad_flow (expected_of_batches b (records_of 0 batches) batches) f (added_of f batches) (slots_of f (schedule b batches)) (need_in (item_of (rest b batches) f)) ≡ false
good_flow endpoints b limits batches f are =
    or_from (not (added_of f batches == added_in_all f (records_of 0 batches))) (not (a == a) || not (n == n))
    (ap not (eq-eqb (added_of f batches) (added_in_all f (records_of 0 batches)) (sym (added_all endpoints 0 limits [] batches f are))))
    (or_from (not (a == a)) (not (n == n)) (ap not (eq-eqb a a refl)) (ap not (eq-eqb n n refl)))
  where
    a : ℕ
    a = slots_of f (schedule b batches)

    n : ℕ
    n = need_in (item_of (rest b batches) f)

one_flow : EveryPlanBalances → EveryPlanAddsWhatIsAsked → (b : ℕ) (trace : TraceContent) → IsTrace trace → AreOfNet trace.net (plan_batches trace)
    → (src dst : ℕ) → src < endpoints_of trace.net → dst < endpoints_of trace.net → (some : Bool)
    → Shows b (expected_of_batches b (records_of 0 (plan_batches trace)) (plan_batches trace))
    (flow_lines_of (record { src = src; dst = dst }) (cond some (Some (plan_counts b (plan_batches trace) (record { src = src; dst = dst }))) None)) [] [] []
one_flow balances asked b trace sound recorded src dst near far false = shows-nil b (expected_of_batches b (records_of 0 (plan_batches trace)) (plan_batches trace))
one_flow balances asked b trace sound recorded src dst near far true =
    let batches : List DemandBatch = plan_batches trace in
    let flow : Flow = record { src = src; dst = dst } in
    let few = sound.net.most_endpoints in
    let balance = balances b trace sound flow in
    let adds = (asked trace flow sound).added in
    let bound = sound.bounded src dst in
    record {
      inner = (tt, tt);
      good = (good_flow (endpoints_of trace.net) b (limits_of trace.net) batches flow recorded, tt);
      figures = ((below_most src (endpoints_of trace.net) near few, (below_most dst (endpoints_of trace.net) far few, (omega (arith, adds, bound), (omega (arith, adds, bound, balance), (omega (arith, adds, bound, balance), tt))))), tt);
      recorded = refl;
      routed = refl;
      sent = refl;
    }

pub flows_show : EveryPlanBalances → EveryPlanAddsWhatIsAsked → (b : ℕ) (trace : TraceContent) → IsTrace trace → AreOfNet trace.net (plan_batches trace)
    → Shows b (expected_of_batches b (records_of 0 (plan_batches trace)) (plan_batches trace)) (flows_lines b trace) [] [] []
flows_show balances asked b trace sound recorded =
    each_flow b (expected_of_batches b (records_of 0 (plan_batches trace)) (plan_batches trace)) (flow_lines b trace) (endpoints_of trace.net)
    (λ src dst near far. one_flow balances asked b trace sound recorded src dst near far (is_recorded (plan_batches trace) (record { src = src; dst = dst })))
