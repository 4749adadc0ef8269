-- What a plan comes to for each flow, by any key, and that the `flow` lines of a plan by need balance.
use Rattle.std.proofs.Common.{◌≡◌, ◌≤◌, ◌+◌, ◌-◌, ◌*◌, ℕ, List, [], ◌∷◌, ◌++◌, drop, false, not, ◌==◌, Option, Some, None, All, refl, sym, ap, ◌∙◌, arith, inl, inr, subst}
use Rattle.std.proofs.lemmas.Bool.{cond-true, cond-false, cases_Bool, cases_eq, eq-eqb, ne_eqb}
use Rattle.std.proofs.lemmas.List.Elements.{All-nil, All-cons, All-head, All-tail, All-append, All-weaker}
use Rattle.std.proofs.lemmas.List.Sums.{sum_by-cons}
use Rattle.greedy_rules.specs.declared.flows.Flow.{Flow}
use Rattle.greedy_rules.specs.Batches.{DemandBatch, entry_of}
use Rattle.greedy_rules.specs.Demands.{Key, item_of, need_in}
use Rattle.greedy_rules.specs.Allocation.{slots_of}
use Rattle.greedy_rules.specs.Schedule.{schedule_by, rest_by}
use Rattle.greedy_rules.specs.Balance.{AreInOrder, clears, added_by, added_of, is_recorded, NoneClears, EveryScheduleBalancesBy}
use Rattle.greedy_rules.specs.Recorded.{RecordedBatchesMayBeAppliedBy}
use Rattle.greedy_rules.specs.Examples.{remaining}
use Rattle.clos_topology.specs.Network.{endpoints_of}
use Rattle.clos_topology.specs.NetSlots.{SlotCores, limits_of}
use Rattle.report_text.specs.declared.line.Line.{Line}
use Rattle.report_text.specs.declared.line.Line.TheVariants as line
use Rattle.trace_text.specs.Trace.{TraceContent}
use Rattle.trace_text.specs.Valid.{IsTrace}
use Rattle.plan_rounds.specs.Asked.{EveryPlanAddsWhatIsAsked}
use Rattle.plan_rounds.specs.Batches.{plan_batches, EveryPlanIsRecorded}
use Rattle.run_lines.specs.Text.{Counts, flow_lines_of}
use Rattle.greedy_rules.proofs.RecordedLemmas.{first_need}
use Rattle.run_text.specs.Ledger.{IsBalanced}
use Rattle.run_text.specs.PlanText.{batches_lines}
use Rattle.run_text.proofs.LedgerLemmas.{NamesNoCounts, balanced_without, batches_without}
use Rattle.run_text.proofs.LineSums.{sources_all}
use Rattle.fewest_plan.specs.Counts.{counts_by, counts_of_by, counts_told, AllIsAllocatedOrPendingBy, EveryPlanBalancesBy}
use Rattle.fewest_plan.specs.Text.{flows_lines_by, fewest_lines}

balanced : (key : Key) (b : ℕ) (batches : List DemandBatch) (flow : Flow) → EveryScheduleBalancesBy key → AreInOrder [] batches → NoneClears flow batches
    → added_of flow batches ≡ slots_of flow (schedule_by key b batches) + need_in (item_of (rest_by key b batches) flow)
balanced key b [] flow law order none = refl
balanced key b (batch ∷ later) flow law order none =
    let Keeps : DemandBatch → Type 0 = λ x. clears (entry_of x.entries flow) ≡ false in
    let start : 0 * b ≡ 0 = omega arith in
    let sum = law b [] batch later flow order (All-tail Keeps batch later none) in
    let first = first_need (entry_of batch.entries flow) (All-head Keeps batch later none) in
    omega (
      arith,
      sum,
      ap (λ (n : ℕ). slots_of flow (drop n (schedule_by key b (batch ∷ later)))) start,
      first,
      sum_by-cons (λ (x : DemandBatch). added_by (entry_of x.entries flow)) batch later,
    )

pub plan_balances : (key : Key) → EveryScheduleBalancesBy key → RecordedBatchesMayBeAppliedBy key → EveryPlanIsRecorded → EveryPlanAddsWhatIsAsked → EveryPlanBalancesBy key
plan_balances key law applied recorded adds b trace sound flow =
    let plan : List DemandBatch = plan_batches trace in
    let order : AreInOrder [] plan = (applied (endpoints_of trace.net) b (limits_of trace.net) plan (recorded trace sound).0).in_order in
    balanced key b plan flow law order (adds trace flow sound).kept

-- ---- the lines

one_flow : (b : ℕ) (batches : List DemandBatch) (flow : Flow) → AllIsAllocatedOrPendingBy remaining b batches → All IsBalanced (flow_lines_of flow (counts_of_by remaining b batches flow))
one_flow b batches flow balance =
    let P : Option Counts → Type 0 = λ o. All IsBalanced (flow_lines_of flow o) in
    elim (cases_Bool (is_recorded batches flow)) [
      | inl is ↦ subst P (sym (cond-true (is_recorded batches flow) _ _ is)) (All-cons IsBalanced _ [] (balance flow) (All-nil IsBalanced))
      | inr other ↦ subst P (sym (cond-false (is_recorded batches flow) _ _ other)) (All-nil IsBalanced)
    ]

pub lines_balance : (cores : SlotCores) (b : ℕ) (trace : TraceContent) → AllIsAllocatedOrPendingBy remaining b (plan_batches trace) → All IsBalanced (fewest_lines cores b trace)
lines_balance cores b trace balance =
    let batches : List DemandBatch = plan_batches trace in
    let rounds : List Line = batches_lines cores b 0 batches (schedule_by remaining b batches) in
    let flows : List Line = flows_lines_by remaining b trace in
    let last : List Line = line.End trace.rounds ∷ [] in
    All-append IsBalanced (rounds ++ flows) last
    (All-append IsBalanced rounds flows (All-weaker NamesNoCounts IsBalanced balanced_without rounds (batches_without cores b 0 batches (schedule_by remaining b batches)))
    (sources_all IsBalanced (λ flow. flow_lines_of flow (counts_of_by remaining b batches flow)) (endpoints_of trace.net) (λ src dst low high. one_flow b batches (record { src = src; dst = dst }) balance)))
    (All-cons IsBalanced (line.End trace.rounds) [] tt (All-nil IsBalanced))

-- ---- what is told of a flow

-- what was asked for of a flow, and what is left, tell its counts
pub record Tells (trace : TraceContent) (b : ℕ) (flow : Flow) (asked pending : ℕ) : Type 0 where
  pub same : counts_told asked pending ≡ counts_of_by remaining b (plan_batches trace) flow
  pub less : pending ≤ asked

pub tells : (trace : TraceContent) (b : ℕ) (flow : Flow) (asked pending : ℕ) → EveryPlanAddsWhatIsAsked → EveryPlanBalancesBy remaining → IsTrace trace
    → asked ≡ added_of flow (plan_batches trace) → is_recorded (plan_batches trace) flow ≡ not (asked == 0) → pending ≡ need_in (item_of (rest_by remaining b (plan_batches trace)) flow) → Tells trace b flow asked pending
tells trace b flow asked pending adds balances sound demand entry need =
    let plan : List DemandBatch = plan_batches trace in
    let sum = balances b trace sound flow in
    let given : asked - pending ≡ slots_of flow (schedule_by remaining b plan) = omega arith in
    let told : ℕ → ℕ → ℕ → Option Counts = λ x y z. Some (record { demanded = x; allocated = y; acknowledged = 0; lost = 0; pending = z; sent = 0; missed = 0 }) in
    let all : told asked (asked - pending) pending ≡ Some (counts_by remaining b plan flow) = λ i. told (demand i) (given i) (need i) in
    record {
      same = elim (cases_eq asked 0) [
        | inl nothing ↦
            cond-true (asked == 0) None (told asked (asked - pending) pending) (eq-eqb asked 0 nothing)
            ∙ sym (cond-false (is_recorded plan flow) (Some (counts_by remaining b plan flow)) None (entry ∙ ap not (eq-eqb asked 0 nothing)))
        | inr some ↦
            cond-false (asked == 0) None (told asked (asked - pending) pending) (ne_eqb asked 0 some)
            ∙ (all ∙ sym (cond-true (is_recorded plan flow) (Some (counts_by remaining b plan flow)) None (entry ∙ ap not (ne_eqb asked 0 some))))
      ];
      less = omega arith;
    }
