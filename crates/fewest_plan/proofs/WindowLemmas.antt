-- A window of a plan by need: its batches may be served, its slots coloured, and what is planned then.
use Rattle.std.proofs.Common.{◌≡◌, ◌<◌, ◌≤◌, ◌+◌, ◌*◌, ℕ, List, [], ◌∷◌, ◌++◌, length, take, drop, All, sym, ap, ◌∙◌, subst, arith}
use Rattle.std.proofs.lemmas.List.{append-nil, get_or-take, get_or-drop, get_or_default, length-take, length-drop, take-append-drop, take-take, take_more, drop_at, drop-drop, take_at}
use Rattle.list_facts.proofs.Lists.{take_on}
use Rattle.greedy_rules.specs.declared.flows.Flow.{Flow}
use Rattle.greedy_rules.specs.declared.flows.Item.{Item}
use Rattle.greedy_rules.specs.Batches.{DemandBatch}
use Rattle.greedy_rules.specs.Schedule.{first_slot, slots_then_by, list_then_by, schedule_by, schedule_from_by, rest_by, rest_from_by}
use Rattle.greedy_rules.specs.Fronts.{SchedulesGoOnBy, FrontsAreFrontsBy, EveryBatchHasItsSlotsBy}
use Rattle.greedy_rules.specs.Recorded.{EveryRecordedSlotBy}
use Rattle.greedy_rules.specs.Examples.{remaining}
use Rattle.greedy_rules.proofs.TableLemmas.{next_row}
use Rattle.clos_topology.specs.Network.{endpoints_of}
use Rattle.clos_topology.specs.NetSlots.{limits_of}
use Rattle.fewest_order.specs.FewestFirst.{MayServe}
use Rattle.trace_text.specs.Trace.{TraceContent}
use Rattle.trace_text.specs.Valid.{IsTrace}
use Rattle.window_allocation.specs.Ready.{IsFit}
use Rattle.plan_rounds.specs.Batches.{plan_batches, EveryPlanIsRecorded}
use Rattle.run_lines.specs.Text.{no_batch}
use Rattle.run_text.proofs.CoreLemmas.{within_window, in_window}
use Rattle.fewest_plan.specs.Barred.{batch_of_round}
use Rattle.fewest_plan.specs.Scheduled.{window_slots_by}
use Rattle.fewest_plan.specs.Standing.{MayAllBeServed, EveryPlanMayBeServed}
use Rattle.fewest_plan.specs.Ready.{EveryFewestWindowIsReady}

-- ---- one batch more

pub rest_more : (b k at : ℕ) (list : List Item) (batches : List DemandBatch) → at < length batches → SchedulesGoOnBy remaining
    → list_then_by remaining b (k + at) (batch_of_round batches at) (rest_from_by remaining b k list (take at batches)) ≡ rest_from_by remaining b k list (take (at + 1) batches)
rest_more b k at list batches below goes_on =
    let front : List DemandBatch = take at batches in
    let batch : DemandBatch = batch_of_round batches at in
    let count : k + length front ≡ k + at = omega (arith, length-take at batches) in
    sym (ap (rest_from_by remaining b k list) (take_more batches at no_batch below)
    ∙ ((goes_on b k list front (batch ∷ [])).1 ∙ ap (λ (n : ℕ). list_then_by remaining b n batch (rest_from_by remaining b k list front)) count))

slots_of_more : (b k at : ℕ) (list : List Item) (batches : List DemandBatch) → at < length batches → SchedulesGoOnBy remaining
    → schedule_from_by remaining b k list (take at batches) ++ slots_then_by remaining b (k + at) (batch_of_round batches at) (rest_from_by remaining b k list (take at batches)) ≡ schedule_from_by remaining b k list (take (at + 1) batches)
slots_of_more b k at list batches below goes_on =
    let front : List DemandBatch = take at batches in
    let batch : DemandBatch = batch_of_round batches at in
    let left : List Item = rest_from_by remaining b k list front in
    let first : List (List Flow) = schedule_from_by remaining b k list front in
    let count : k + length front ≡ k + at = omega (arith, length-take at batches) in
    sym (ap (schedule_from_by remaining b k list) (take_more batches at no_batch below)
    ∙ ((goes_on b k list front (batch ∷ [])).0
    ∙ ap (λ (xs : List (List Flow)). first ++ xs) (append-nil (slots_then_by remaining b (k + length front) batch left) ∙ ap (λ (n : ℕ). slots_then_by remaining b n batch left) count)))

-- the slots of some batches, of one more, and what stands behind them in a table
pub slots_more : (b k at : ℕ) (list : List Item) (batches : List DemandBatch) (table so_far slots new : List (List Flow)) → at < length batches → SchedulesGoOnBy remaining → EveryBatchHasItsSlotsBy remaining
    → so_far ≡ schedule_from_by remaining b k list (take at batches) ++ drop (at * b) table
    → slots ≡ slots_then_by remaining b (k + at) (batch_of_round batches at) (rest_from_by remaining b k list (take at batches)) → length slots ≡ b
    → new ≡ (take (at * b) so_far ++ slots) ++ drop (at * b + length slots) so_far
    → new ≡ schedule_from_by remaining b k list (take (at + 1) batches) ++ drop ((at + 1) * b) table
slots_more b k at list batches table so_far slots new below goes_on so_many is these count made =
    let n : ℕ = at * b in
    let first : List (List Flow) = schedule_from_by remaining b k list (take at batches) in
    let fronts : length (take at batches) ≡ at = omega (arith, length-take at batches) in
    let long : length first ≡ n = so_many b k list (take at batches) ∙ ap (λ (m : ℕ). m * b) fronts in
    let front : take n so_far ≡ first = ap (take n) is ∙ take_at first (drop n table) n long in
    let place : n + length slots ≡ n + b = omega (arith, count) in
    let next : n + b ≡ (at + 1) * b = sym (next_row at b) in
    let behind : drop (n + length slots) so_far ≡ drop ((at + 1) * b) table =
    ap (λ (m : ℕ). drop m so_far) place
    ∙ (sym (drop-drop b n so_far)
    ∙ (ap (drop b) (ap (drop n) is ∙ drop_at first (drop n table) n long)
    ∙ (drop-drop b n table ∙ ap (λ (m : ℕ). drop m table) next))) in
    made
    ∙ (ap (λ (xs : List (List Flow)). (xs ++ slots) ++ drop (n + length slots) so_far) front
    ∙ (ap (λ (xs : List (List Flow)). (first ++ xs) ++ drop (n + length slots) so_far) these
    ∙ (ap (λ (xs : List (List Flow)). xs ++ drop (n + length slots) so_far) (slots_of_more b k at list batches below goes_on)
    ∙ ap (λ (xs : List (List Flow)). schedule_from_by remaining b k list (take (at + 1) batches) ++ xs) behind)))

-- ---- the next window of a plan

-- its slots are those of its batches, on the list that the earlier ones left
slots_of_window : (b k n : ℕ) (plan : List DemandBatch) → k + n ≤ length plan → SchedulesGoOnBy remaining → FrontsAreFrontsBy remaining → EveryBatchHasItsSlotsBy remaining
    → schedule_from_by remaining b k (rest_by remaining b (take k plan)) (take n (drop k plan)) ≡ window_slots_by remaining b plan k n
slots_of_window b k n plan within goes_on fronts count =
    let front : List DemandBatch = take k plan in
    let batches : List DemandBatch = take n (drop k plan) in
    let later : List DemandBatch = drop n (drop k plan) in
    let list : List Item = rest_by remaining b front in
    let window : List (List Flow) = schedule_from_by remaining b k list batches in
    let so_many : length front ≡ k = omega (arith, length-take k plan) in
    let number : length batches ≡ n = omega (arith, length-take n (drop k plan), length-drop k plan) in
    let whole : schedule_by remaining b plan ≡ schedule_by remaining b front ++ schedule_from_by remaining b k list (drop k plan) =
    ap (schedule_by remaining b) (sym (take-append-drop k plan)) ∙ ((fronts b front (drop k plan)).0 ∙ ap (λ (m : ℕ). schedule_by remaining b front ++ schedule_from_by remaining b m list (drop k plan)) so_many) in
    let start : length (schedule_by remaining b front) ≡ k * b = count b 0 [] front ∙ ap (λ (m : ℕ). m * b) so_many in
    let from : drop (k * b) (schedule_by remaining b plan) ≡ schedule_from_by remaining b k list (drop k plan) =
    ap (drop (k * b)) whole ∙ drop_at (schedule_by remaining b front) (schedule_from_by remaining b k list (drop k plan)) (k * b) start in
    let split : schedule_from_by remaining b k list (drop k plan) ≡ window ++ schedule_from_by remaining b (k + length batches) (rest_from_by remaining b k list batches) later =
    ap (schedule_from_by remaining b k list) (sym (take-append-drop n (drop k plan))) ∙ (goes_on b k list batches later).0 in
    let long : length window ≡ n * b = count b k list batches ∙ ap (λ (m : ℕ). m * b) number in
    sym (ap (take (n * b)) (from ∙ split) ∙ take_at window (schedule_from_by remaining b (k + length batches) (rest_from_by remaining b k list batches) later) (n * b) long)

-- and so is the list that they leave
rest_of_window : (b k n : ℕ) (plan : List DemandBatch) → k ≤ length plan → FrontsAreFrontsBy remaining
    → rest_from_by remaining b k (rest_by remaining b (take k plan)) (take n (drop k plan)) ≡ rest_by remaining b (take (k + n) plan)
rest_of_window b k n plan within fronts =
    let front : List DemandBatch = take k plan in
    let so_many : length front ≡ k = omega (arith, length-take k plan) in
    sym (ap (rest_by remaining b) (take_on k n plan)
    ∙ ((fronts b front (take n (drop k plan))).1 ∙ ap (λ (m : ℕ). rest_from_by remaining b m (rest_by remaining b front) (take n (drop k plan))) so_many))

-- a slot of recorded batches may be coloured
fit_slot : (b k n : ℕ) (trace : TraceContent) → IsTrace trace → EveryPlanIsRecorded → EveryRecordedSlotBy remaining → All (IsFit trace.net) (window_slots_by remaining b (plan_batches trace) k n)
fit_slot b k n trace sound recorded slots at d below =
    let plan : List DemandBatch = plan_batches trace in
    let all : List (List Flow) = schedule_by remaining b plan in
    let low : ℕ = k * b in
    let number : ℕ = low + 1 + at in
    let none : List Flow = [] in
    let window : List (List Flow) = window_slots_by remaining b plan k n in
    let slot = slots (endpoints_of trace.net) b (limits_of trace.net) plan (recorded trace sound).0 number (omega arith) (within_window low (n * b) at all below).1 in
    subst (IsFit trace.net) (sym (in_window low (n * b) at all below) ∙ get_or_default window at none d below) (record { matching = slot.matching; flows = slot.in_range.in_range; degrees = slot.keeps })

may_all : (b k n : ℕ) (trace : TraceContent) → IsTrace trace → EveryPlanIsRecorded → EveryPlanMayBeServed → FrontsAreFrontsBy remaining → 0 < b → b ≤ 64 → k + n ≤ trace.rounds
    → MayAllBeServed (endpoints_of trace.net) b k (rest_by remaining b (take k (plan_batches trace))) (take n (drop k (plan_batches trace)))
may_all b k n trace sound recorded served fronts positive most within at below =
    let plan : List DemandBatch = plan_batches trace in
    let batches : List DemandBatch = take n (drop k plan) in
    let e : ℕ = endpoints_of trace.net in
    let inside : at < n = omega (arith, length-take n (drop k plan)) in
    let this : MayServe e b (first_slot b (k + at)) (batch_of_round plan (k + at)).entries (rest_by remaining b (take (k + at) plan)) = served b (k + at) trace sound positive most (omega arith) in
    let batch : batch_of_round plan (k + at) ≡ batch_of_round batches at = sym (get_or-take n (drop k plan) at no_batch inside ∙ get_or-drop k plan at no_batch) in
    let before : take at (drop k plan) ≡ take at batches = sym (take-take at n (drop k plan) (omega arith)) in
    let left : rest_by remaining b (take (k + at) plan) ≡ rest_from_by remaining b k (rest_by remaining b (take k plan)) (take at batches) =
    sym (rest_of_window b k at plan (omega (arith, (recorded trace sound).1)) fronts) ∙ ap (rest_from_by remaining b k (rest_by remaining b (take k plan))) before in
    subst (λ (list : List Item). MayServe e b (first_slot b (k + at)) (batch_of_round batches at).entries list) left
    (subst (λ (x : DemandBatch). MayServe e b (first_slot b (k + at)) x.entries (rest_by remaining b (take (k + at) plan))) batch this)

pub every_window : EveryPlanIsRecorded → EveryPlanMayBeServed → EveryRecordedSlotBy remaining → SchedulesGoOnBy remaining → FrontsAreFrontsBy remaining → EveryBatchHasItsSlotsBy remaining → EveryFewestWindowIsReady
every_window recorded served recorded_slots goes_on fronts so_many trace planner first count batches sound stands first_is count_is are =
    let b : ℕ = planner.b in
    let k : ℕ = planner.collection.rounds in
    let plan : List DemandBatch = plan_batches trace in
    let window : List DemandBatch = take count (drop k plan) in
    let list : List Item = rest_by remaining b (take k plan) in
    let within : k + count ≤ trace.rounds = omega (arith, stands.collected.within) in
    let inside : k + count ≤ length plan = omega (arith, (recorded trace sound).1) in
    let number : length batches ≡ count = omega (arith, ap length are, length-take count (drop k plan), length-drop k plan) in
    let here : schedule_from_by remaining b first planner.order.items batches ≡ schedule_from_by remaining b k list window = λ i. schedule_from_by remaining b (first_is i) (stands.left i) (are i) in
    let left : rest_from_by remaining b first planner.order.items batches ≡ rest_from_by remaining b k list window = λ i. rest_from_by remaining b (first_is i) (stands.left i) (are i) in
    let slots : schedule_from_by remaining b first planner.order.items batches ≡ window_slots_by remaining b plan k count = here ∙ slots_of_window b k count plan inside goes_on fronts so_many in
    let may : MayAllBeServed (endpoints_of trace.net) b k list window = may_all b k count trace sound recorded served fronts stands.size.0 stands.size.1 within in
    record {
      within = within;
      few = omega arith;
      number = number;
      may = subst (λ (e : ℕ). MayAllBeServed e b first planner.order.items batches) (sym stands.serves)
          (subst (λ (bs : List DemandBatch). MayAllBeServed (endpoints_of trace.net) b first planner.order.items bs) (sym are)
          (subst (λ (l : List Item). MayAllBeServed (endpoints_of trace.net) b first l window) (sym stands.left)
          (subst (λ (m : ℕ). MayAllBeServed (endpoints_of trace.net) b m list window) (sym first_is) may)));
      slots = slots;
      long = so_many b first planner.order.items batches ∙ ap (λ (m : ℕ). m * b) number;
      left = left ∙ rest_of_window b k count plan (omega arith) fronts;
      fit = λ at d below.
          let fit = fit_slot b k count trace sound recorded recorded_slots in
          rw stands.net (subst (All (IsFit trace.net)) (sym slots) fit at d below);
    }
