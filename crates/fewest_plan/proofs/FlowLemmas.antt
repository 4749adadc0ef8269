-- What a planner has of each flow once all rounds are planned.
use Rattle.std.proofs.Common.{◌≡◌, ◌<◌, ◌==◌, not, ℕ, List, get_or, take, sym, ap, ◌∙◌, subst, arith}
use Rattle.std.proofs.lemmas.List.{take_all}
use Rattle.greedy_rules.specs.declared.flows.Flow.{Flow}
use Rattle.greedy_rules.specs.declared.flows.Item.{Item}
use Rattle.greedy_rules.specs.Demands.{item_of, need_in}
use Rattle.greedy_rules.specs.Schedule.{rest_by}
use Rattle.greedy_rules.specs.Recorded.{IsLeftBy, RecordedBatchesMayBeAppliedBy}
use Rattle.greedy_rules.specs.Examples.{remaining}
use Rattle.greedy_rules.specs.Cells.{flow_of}
use Rattle.clos_topology.specs.Network.{endpoints_of}
use Rattle.clos_topology.specs.NetSlots.{limits_of}
use Rattle.trace_text.specs.Trace.{TraceContent}
use Rattle.trace_text.specs.Valid.{total_asked, IsTrace}
use Rattle.plan_rounds.specs.Asked.{EveryPlanAddsWhatIsAsked}
use Rattle.plan_rounds.specs.Batches.{AskedRound, plan_batches, EveryPlanIsRecorded}
use Rattle.window_allocation.specs.Needs.{place_of}
use Rattle.fewest_plan.specs.declared.planner.Planner.{Planner}
use Rattle.fewest_plan.specs.Counts.{EveryPlanBalancesBy}
use Rattle.fewest_plan.specs.Standing.{HasPlanned}
use Rattle.fewest_plan.proofs.LedgerLemmas.{Tells, tells}

-- the list that all batches leave
all_left : (trace : TraceContent) (planner : Planner) → IsTrace trace → HasPlanned trace planner → EveryPlanIsRecorded → planner.collection.rounds ≡ trace.rounds → planner.order.items ≡ rest_by remaining planner.b (plan_batches trace)
all_left trace planner sound stands recorded done =
    stands.left ∙ ap (rest_by remaining planner.b) (take_all planner.collection.rounds (plan_batches trace) (omega (arith, done, (recorded trace sound).1)))

pub left_by : (trace : TraceContent) (planner : Planner) → IsTrace trace → HasPlanned trace planner → EveryPlanIsRecorded → RecordedBatchesMayBeAppliedBy remaining → planner.collection.rounds ≡ trace.rounds
    → IsLeftBy (endpoints_of trace.net) (plan_batches trace) planner.order.items
left_by trace planner sound stands recorded applied done =
    subst (IsLeftBy (endpoints_of trace.net) (plan_batches trace)) (sym (all_left trace planner sound stands recorded done))
    (applied (endpoints_of trace.net) planner.b (limits_of trace.net) (plan_batches trace) (recorded trace sound).0).left

-- what was asked for of a flow, and its need in the list, tell its counts
pub told : (trace : TraceContent) (planner : Planner) (src dst asked left : ℕ) → IsTrace trace → HasPlanned trace planner → EveryPlanIsRecorded → EveryPlanAddsWhatIsAsked → EveryPlanBalancesBy remaining
    → planner.collection.rounds ≡ trace.rounds → src < endpoints_of trace.net → dst < endpoints_of trace.net → asked ≡ get_or planner.collection.asked (place_of planner.collection.endpoints src dst) 0
    → left ≡ need_in (item_of planner.order.items (flow_of src dst)) → Tells trace planner.b (flow_of src dst) asked left
told trace planner src dst asked left sound stands recorded adds balances done below above asked_is left_is =
    let flow : Flow = flow_of src dst in
    let n : ℕ = endpoints_of trace.net in
    let half = planner.collection in
    let rounds : take half.rounds trace.asked ≡ trace.asked = take_all half.rounds trace.asked (omega (arith, done, sound.rounds)) in
    let total : asked ≡ total_asked trace.asked src dst =
    asked_is
    ∙ (ap (λ (m : ℕ). get_or half.asked (place_of m src dst) 0) stands.collected.endpoints
    ∙ (stands.collected.asked.at src dst below above ∙ ap (λ (rs : List AskedRound). total_asked rs src dst) rounds)) in
    tells trace planner.b flow asked left adds balances sound (total ∙ sym (adds trace flow sound).added) ((adds trace flow sound).recorded ∙ ap (λ (m : ℕ). not (m == 0)) (sym total))
    (left_is ∙ ap (λ (items : List Item). need_in (item_of items flow)) (all_left trace planner sound stands recorded done))
