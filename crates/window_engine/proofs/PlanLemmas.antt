-- What a plan stands for, at its start and after a step, and what it tells of a flow at the end.
use Rattle.std.proofs.Common.{◌≡◌, ◌<◌, ◌≤◌, ◌+◌, ◌-◌, ◌*◌, ℕ, List, [], ◌++◌, length, get_or, take, drop, not, ◌==◌, Option, Some, None, refl, sym, ap, ◌∙◌, subst, arith}
use Rattle.std.proofs.lemmas.Bool.{cond-true, cond-false, eq-eqb, ne_eqb}
use Rattle.std.proofs.lemmas.Nat.{mul-add-lt, mul-le}
use Rattle.std.proofs.lemmas.List.{get_or_default, length-take, length-drop, take_at, drop_at, take-append-drop}
use Rattle.std.proofs.SliceLists.{take_long}
use Rattle.list_facts.proofs.Lists.{take_on}
use Rattle.greedy_rules.specs.declared.flows.Flow.{Flow}
use Rattle.greedy_rules.specs.declared.flows.Item.{Item}
use Rattle.greedy_rules.specs.Batches.{DemandBatch}
use Rattle.greedy_rules.specs.Demands.{item_of, need_in}
use Rattle.greedy_rules.specs.Allocation.{slots_of}
use Rattle.greedy_rules.specs.Schedule.{schedule, schedule_from, rest, rest_from}
use Rattle.greedy_rules.specs.Balance.{is_recorded, added_of}
use Rattle.greedy_rules.specs.Fronts.{SchedulesGoOn, FrontsAreFronts, EveryBatchHasItsSlots}
use Rattle.greedy_rules.specs.Recorded.{EveryFrontIsRecorded}
use Rattle.clos_topology.specs.Network.{Network, endpoints_of}
use Rattle.clos_topology.specs.NetSlots.{limits_of}
use Rattle.trace_text.specs.Trace.{TraceContent}
use Rattle.trace_text.specs.Valid.{total_asked, IsTrace}
use Rattle.window_engine.specs.declared.counts.Counts.{Counts}
use Rattle.window_allocation.specs.Nets.{AreOfNet}
use Rattle.plan_rounds.specs.Asked.{EveryPlanAddsWhatIsAsked}
use Rattle.plan_rounds.specs.Batches.{AskedRound, plan_batches, EveryPlanIsRecorded}
use Rattle.plan_rounds.specs.Standing.{Collected, HasCollected}
use Rattle.window_engine.specs.Counts.{plan_counts, counts_of, EveryPlanBalances}
use Rattle.window_allocation.specs.Standing.{Allocated, HasAllocated}
use Rattle.window_allocation.specs.Needs.{Needs}
use Rattle.window_engine.specs.Plan.{PlanState, PlanStands, plan_window}
use Rattle.window_allocation.specs.declared.window.Span.{Span}
use Rattle.window_allocation.specs.Windows.{WindowContent, IsWindowOf, jobs_for}
use Rattle.window_allocation.specs.Giving.{MayGive}
use Rattle.window_engine.specs.Step.{StepContent, StepIsPlanned, window_slots}
use Rattle.window_allocation.specs.Needs.{place_of}
use Rattle.window_allocation.proofs.WindowLemmas.{HasNext, Goes, ring_endpoints}
use Rattle.window_engine.proofs.Rings.{ring_holds}

-- ---- the next window of a plan

pub window_fits : (engine : PlanState) → engine.collection.rounds ≤ engine.rounds → (plan_window engine ≤ engine.g) × (engine.collection.rounds + plan_window engine ≤ engine.rounds)
window_fits engine within = (omega arith, omega arith)

-- the batches so far, and those of the next window, are recorded
pub window_recorded : (trace : TraceContent) (k n : ℕ) → IsTrace trace → EveryPlanIsRecorded → EveryFrontIsRecorded → AreOfNet trace.net (take k (plan_batches trace) ++ take n (drop k (plan_batches trace)))
window_recorded trace k n sound recorded front =
    let plan : List DemandBatch = plan_batches trace in
    let whole : plan ≡ take (k + n) plan ++ drop (k + n) plan = sym (take-append-drop (k + n) plan) in
    subst (AreOfNet trace.net) (take_on k n plan)
    (front (endpoints_of trace.net) (limits_of trace.net) (take (k + n) plan) (drop (k + n) plan) (subst (AreOfNet trace.net) whole (recorded trace sound).0))

pub window_count : (trace : TraceContent) (k n : ℕ) (batches : List DemandBatch) → IsTrace trace → EveryPlanIsRecorded → k + n ≤ trace.rounds → batches ≡ take n (drop k (plan_batches trace)) → length batches ≡ n
window_count trace k n batches sound recorded within is =
    omega (arith, ap length is, length-take n (drop k (plan_batches trace)), length-drop k (plan_batches trace), (recorded trace sound).1)

-- the slots of a window are those of its batches, on the list that the earlier ones left
pub slots_of_window : (b k n : ℕ) (plan : List DemandBatch) → k + n ≤ length plan → SchedulesGoOn → FrontsAreFronts → EveryBatchHasItsSlots
    → window_slots b plan k n ≡ schedule_from b k (rest b (take k plan)) (take n (drop k plan))
slots_of_window b k n plan within goes_on fronts count =
    let front : List DemandBatch = take k plan in
    let batches : List DemandBatch = take n (drop k plan) in
    let later : List DemandBatch = drop n (drop k plan) in
    let list : List Item = rest b front in
    let window : List (List Flow) = schedule_from b k list batches in
    let so_many : length front ≡ k = omega (arith, length-take k plan) in
    let number : length batches ≡ n = omega (arith, length-take n (drop k plan), length-drop k plan) in
    let whole : schedule b plan ≡ schedule b front ++ schedule_from b k list (drop k plan) =
    ap (schedule b) (sym (take-append-drop k plan)) ∙ ((fronts b front (drop k plan)).0 ∙ ap (λ (m : ℕ). schedule b front ++ schedule_from b m list (drop k plan)) so_many) in
    let start : length (schedule b front) ≡ k * b = count b 0 [] front ∙ ap (λ (m : ℕ). m * b) so_many in
    let from : drop (k * b) (schedule b plan) ≡ schedule_from b k list (drop k plan) =
    ap (drop (k * b)) whole ∙ drop_at (schedule b front) (schedule_from b k list (drop k plan)) (k * b) start in
    let split : schedule_from b k list (drop k plan) ≡ window ++ schedule_from b (k + length batches) (rest_from b k list batches) later =
    ap (schedule_from b k list) (sym (take-append-drop n (drop k plan))) ∙ (goes_on b k list batches later).0 in
    let long : length window ≡ n * b = count b k list batches ∙ ap (λ (m : ℕ). m * b) number in
    ap (take (n * b)) (from ∙ split) ∙ take_at window (schedule_from b (k + length batches) (rest_from b k list batches) later) (n * b) long

pub stands_next : (trace : TraceContent) (old new : PlanState) (batches : List DemandBatch) → PlanStands trace old → new.g ≡ old.g → new.endpoints ≡ old.endpoints → new.rounds ≡ old.rounds → batches ≡ take (plan_window old) (drop old.collection.rounds (plan_batches trace))
    → HasCollected trace new.collection → new.collection.rounds ≡ old.collection.rounds + plan_window old → HasAllocated trace.net old.g (take old.collection.rounds (plan_batches trace) ++ batches) new.allocation
    → (new.collection.rounds ≡ new.rounds → Needs new.allocation.ring.endpoints new.allocation.list.items new.pending) → length new.pending ≡ length old.pending → PlanStands trace new
stands_next trace old new batches stands g endpoints rounds are collected on allocated ended pending =
    let k : ℕ = old.collection.rounds in
    let plan : List DemandBatch = plan_batches trace in
    let so_far : take k plan ++ batches ≡ take new.collection.rounds plan = ap (λ (bs : List DemandBatch). take k plan ++ bs) are ∙ (sym (take_on k (plan_window old) plan) ∙ ap (λ (m : ℕ). take m plan) (sym on)) in
    let serves : new.allocation.ring.endpoints ≡ endpoints_of trace.net = ring_endpoints _ _ _ _ allocated in
    record {
      window = (omega (arith, stands.window.0), omega (arith, stands.window.1));
      endpoints = endpoints ∙ stands.endpoints;
      rounds = rounds ∙ stands.rounds;
      collected = collected;
      allocated = subst (λ (m : ℕ). HasAllocated trace.net m (take new.collection.rounds plan) new.allocation) (sym g)
          (subst (λ (bs : List DemandBatch). HasAllocated trace.net old.g bs new.allocation) so_far allocated);
      ended = λ done. subst (λ (m : ℕ). Needs m new.allocation.list.items new.pending) serves (ended (done ∙ sym (rounds ∙ stands.rounds)));
      pending_room = pending ∙ stands.pending_room;
    }

-- what stands still does where it is seen otherwise
pub stands_too : (trace : TraceContent) (here now : PlanState) → here ≡ now → PlanStands trace now → PlanStands trace here
stands_too trace here now same stands = subst (PlanStands trace) (sym same) stands

-- the half that allocates may take up the next window
pub next_window : (trace : TraceContent) (engine : PlanState) (batches : List DemandBatch) (count : ℕ) → IsTrace trace → PlanStands trace engine → EveryPlanIsRecorded → EveryFrontIsRecorded
    → batches ≡ take count (drop engine.collection.rounds (plan_batches trace)) → HasNext batches engine.allocation
next_window trace engine batches count sound stands recorded front are =
    let half : Allocated = engine.allocation in
    let earlier : List DemandBatch = take engine.collection.rounds (plan_batches trace) in
    let most : half.ring.batches ≡ engine.g = ring_holds _ _ _ _ stands.allocated in
    let next : AreOfNet trace.net (earlier ++ batches) =
    subst (λ (bs : List DemandBatch). AreOfNet trace.net (earlier ++ bs)) (sym are) (window_recorded trace engine.collection.rounds count sound recorded front) in (
      earlier,
      subst (λ (net : Network). HasAllocated net half.ring.batches earlier half) (sym stands.allocated.serves) (subst (λ (m : ℕ). HasAllocated trace.net m earlier half) (sym most) stands.allocated),
      subst (λ (net : Network). AreOfNet net (earlier ++ batches)) (sym stands.allocated.serves) next,
    )

-- and then has
pub next_allocated : (trace : TraceContent) (engine : PlanState) (batches : List DemandBatch) (count : ℕ) (new : Allocated) → IsTrace trace → PlanStands trace engine → EveryPlanIsRecorded → EveryFrontIsRecorded
    → batches ≡ take count (drop engine.collection.rounds (plan_batches trace)) → Goes engine.allocation batches new → HasAllocated trace.net engine.g (take engine.collection.rounds (plan_batches trace) ++ batches) new
unfolding next_window
next_allocated trace engine batches count new sound stands recorded front are goes =
    let half : Allocated = engine.allocation in
    let it = next_window trace engine batches count sound stands recorded front are in
    let most : half.ring.batches ≡ engine.g = ring_holds _ _ _ _ stands.allocated in
    let all : List DemandBatch = take engine.collection.rounds (plan_batches trace) ++ batches in
    subst (λ (net : Network). HasAllocated net engine.g all new) stands.allocated.serves (subst (λ (m : ℕ). HasAllocated half.paths.net m all new) most (goes it.0 it.1 it.2))

pub pending_room : (trace : TraceContent) (engine : PlanState) (batches : List DemandBatch) (new : Allocated) (pending : List ℕ) → PlanStands trace engine → HasAllocated trace.net engine.g batches new → length pending ≡ length engine.pending
    → length pending ≡ new.ring.endpoints * new.ring.endpoints
pending_room trace engine batches new pending stands has same =
    let serves : new.ring.endpoints ≡ endpoints_of trace.net = ring_endpoints _ _ _ _ has in
    same ∙ (stands.pending_room ∙ sym (ap (λ (m : ℕ). m * m) serves))

pub window_numbers : (trace : TraceContent) (engine : PlanState) (batches : List DemandBatch) (count : ℕ) → IsTrace trace → PlanStands trace engine → EveryPlanIsRecorded → count ≡ plan_window engine
    → batches ≡ take count (drop engine.collection.rounds (plan_batches trace)) → (length batches ≡ count) × (engine.allocation.batches ≡ engine.collection.rounds)
window_numbers trace engine batches count sound stands recorded is are =
    let fits = window_fits engine (omega (arith, stands.collected.within, stands.rounds)) in
    let plan : List DemandBatch = plan_batches trace in (
      window_count trace engine.collection.rounds count batches sound recorded (omega (arith, fits.1, stands.rounds)) are,
      stands.allocated.number ∙ omega (arith, length-take engine.collection.rounds plan, (recorded trace sound).1, stands.collected.within),
    )

-- the half that allocates may give the batches of the next window their slots
pub may_give : (trace : TraceContent) (engine : PlanState) (batches : List DemandBatch) (count : ℕ) → IsTrace trace → PlanStands trace engine → EveryPlanIsRecorded → EveryFrontIsRecorded → count ≡ plan_window engine
    → batches ≡ take count (drop engine.collection.rounds (plan_batches trace)) → MayGive engine.allocation batches
may_give trace engine batches count sound stands recorded front is are =
    let half : Allocated = engine.allocation in
    let numbers = window_numbers trace engine batches count sound stands recorded is are in
    let fits = window_fits engine (omega (arith, stands.collected.within, stands.rounds)) in
    let most : half.ring.batches ≡ engine.g = ring_holds _ _ _ _ stands.allocated in
    let all : ℕ = half.batches + length batches in
    let few : all ≤ 100000 = omega (arith, numbers.0, numbers.1, is, fits.1, stands.rounds, sound.few_rounds) in
    record {
      stands = next_window trace engine batches count sound stands recorded front are;
      count = omega (arith, numbers.0, is, fits.0, most);
      few = omega (arith, most, stands.window.1);
      numbers = omega (arith, mul-le all half.b 100000 64 few stands.allocated.size.1);
    }

-- each slot of the window is a job, and each worker's end
pub jobs_raised : (here now : PlanState) (batches : List DemandBatch) (jobs : ℕ) (span : Span) → here ≡ now → span ≡ record { first = here.allocation.batches; count = length batches }
    → jobs ≡ here.allocation.paths.jobs + jobs_for (length batches) here.allocation.b here.allocation.paths.paths → jobs ≡ now.allocation.paths.jobs + jobs_for span.count now.allocation.b now.allocation.paths.paths
jobs_raised here now batches jobs span same is raised =
    let half : Allocated = here.allocation in
    subst (λ (e : PlanState). jobs ≡ e.allocation.paths.jobs + jobs_for span.count e.allocation.b e.allocation.paths.paths) same
    (raised ∙ ap (λ (n : ℕ). half.paths.jobs + jobs_for n half.b half.paths.paths) (sym (ap (λ (s : Span). s.count) is)))

-- a step is planned
pub planned : (trace : TraceContent) (here now : PlanState) (batches : List DemandBatch) (count first : ℕ) (window : WindowContent) → here ≡ now → IsTrace trace → PlanStands trace here → EveryPlanIsRecorded → SchedulesGoOn → FrontsAreFronts → EveryBatchHasItsSlots
    → first ≡ here.collection.rounds → count ≡ plan_window here → batches ≡ take count (drop here.collection.rounds (plan_batches trace)) → window.span ≡ record { first = here.allocation.batches; count = length batches }
    → IsWindowOf here.allocation.paths.net here.allocation.b (schedule_from here.allocation.b here.allocation.batches here.allocation.list.items batches) window
    → StepIsPlanned trace now.allocation.b now.collection.rounds (plan_window now) (record { collected = record { first = first; count = count }; played = record { batches = batches; answers = []; departures = [] }; window = window })
planned trace here now batches count first window same sound stands recorded goes_on fronts so_many first_is count_is are span shows =
    let half : Allocated = here.allocation in
    let b : ℕ = half.b in
    let k : ℕ = here.collection.rounds in
    let plan : List DemandBatch = plan_batches trace in
    let numbers = window_numbers trace here batches count sound stands recorded count_is are in
    let fits = window_fits here (omega (arith, stands.collected.within, stands.rounds)) in
    let within : k + count ≤ length plan = omega (arith, fits.1, stands.rounds, (recorded trace sound).1) in
    let slots : schedule_from b half.batches half.list.items batches ≡ window_slots b plan k count =
    ap (λ (m : ℕ). schedule_from b m half.list.items batches) numbers.1
    ∙ (ap (λ (l : List Item). schedule_from b k l batches) stands.allocated.left
    ∙ (ap (schedule_from b k (rest b (take k plan))) are ∙ sym (slots_of_window b k count plan within goes_on fronts so_many))) in
    let Shown : Network → List (List Flow) → Type 0 = λ net xs. IsWindowOf net b xs window in
    let step : StepContent = record { collected = record { first = first; count = count }; played = record { batches = batches; answers = []; departures = [] }; window = window } in
    let it : StepIsPlanned trace b k (plan_window here) step = record {
      first_collected = first_is;
      collected = count_is;
      batches = are ∙ ap (λ (m : ℕ). take m (drop k plan)) count_is;
      answers = refl;
      departures = refl;
      first_allocated = ap (λ (s : Span). s.first) span ∙ numbers.1;
      allocated = ap (λ (s : Span). s.count) span ∙ (numbers.0 ∙ count_is);
      window = subst (λ (m : ℕ). Shown trace.net (window_slots b plan k m)) count_is
          (subst (Shown trace.net) slots (subst (λ (net : Network). Shown net (schedule_from b half.batches half.list.items batches)) stands.allocated.serves shows));
    } in
    subst (λ (e : PlanState). StepIsPlanned trace e.allocation.b e.collection.rounds (plan_window e) step) same it

-- ---- the counts at the end

pub record Tells (trace : TraceContent) (b : ℕ) (flow : Flow) (asked pending : ℕ) : Type 0 where
  pub none : asked ≡ 0 → counts_of b (plan_batches trace) flow ≡ None
  pub some : 0 < asked → counts_of b (plan_batches trace) flow ≡ Some (record { demanded = asked; allocated = asked - pending; acknowledged = 0; lost = 0; pending = pending; sent = 0; missed = 0 })
  pub less : pending ≤ asked

all_asked : (trace : TraceContent) (k : ℕ) → IsTrace trace → k ≡ trace.rounds → take k trace.asked ≡ trace.asked
all_asked trace k sound is = take_long trace.asked k (omega (arith, sound.rounds))

all_batches : (trace : TraceContent) (k : ℕ) → IsTrace trace → EveryPlanIsRecorded → k ≡ trace.rounds → take k (plan_batches trace) ≡ plan_batches trace
all_batches trace k sound recorded is = take_long (plan_batches trace) k (omega (arith, (recorded trace sound).1))

-- the two tables tell a flow's counts once all rounds are done
pub tells : (trace : TraceContent) (engine : PlanState) (flow : Flow) (asked pending : ℕ) → IsTrace trace → PlanStands trace engine → EveryPlanBalances → EveryPlanAddsWhatIsAsked → EveryPlanIsRecorded → engine.collection.rounds ≡ engine.rounds
    → flow.src < engine.endpoints → flow.dst < engine.endpoints
    → asked ≡ get_or engine.collection.asked (place_of engine.collection.endpoints flow.src flow.dst) 0 → pending ≡ get_or engine.pending (place_of engine.endpoints flow.src flow.dst) pending
    → Tells trace engine.allocation.b flow asked pending
tells trace engine flow asked pending sound stands balances adds recorded done src dst asked_is pending_is =
    let b : ℕ = engine.allocation.b in
    let n : ℕ = endpoints_of trace.net in
    let plan : List DemandBatch = plan_batches trace in
    let half : Collected = engine.collection in
    let s : flow.src < n = omega (arith, stands.endpoints) in
    let d : flow.dst < n = omega (arith, stands.endpoints) in
    let ended : half.rounds ≡ trace.rounds = done ∙ stands.rounds in
    let place : place_of half.endpoints flow.src flow.dst ≡ place_of n flow.src flow.dst = ap (λ (m : ℕ). place_of m flow.src flow.dst) stands.collected.endpoints in
    let at : ℕ = place_of engine.endpoints flow.src flow.dst in
    let there : at ≡ place_of n flow.src flow.dst = ap (λ (m : ℕ). place_of m flow.src flow.dst) stands.endpoints in
    let within : place_of n flow.src flow.dst < n * n = mul-add-lt flow.src n flow.dst n s d in
    let total : asked ≡ total_asked trace.asked flow.src flow.dst =
    asked_is
    ∙ (ap (λ (p : ℕ). get_or half.asked p 0) place
    ∙ (stands.collected.asked.at flow.src flow.dst s d ∙ ap (λ (rs : List AskedRound). total_asked rs flow.src flow.dst) (all_asked trace half.rounds sound ended))) in
    let need : pending ≡ need_in (item_of (rest b plan) flow) =
    pending_is
    ∙ (get_or_default engine.pending at pending 0 (omega (arith, stands.pending_room, within, there))
    ∙ (ap (λ (p : ℕ). get_or engine.pending p 0) there
    ∙ ((stands.ended ended).at flow.src flow.dst s d
    ∙ ap (λ (items : List Item). need_in (item_of items flow)) (stands.allocated.left ∙ ap (rest b) (all_batches trace half.rounds sound recorded ended))))) in
    let demand : asked ≡ added_of flow plan = total ∙ sym (adds trace flow sound).added in
    let sum = balances b trace sound flow in
    let given : asked - pending ≡ slots_of flow (schedule b plan) = omega arith in
    let entry : is_recorded plan flow ≡ not (asked == 0) = (adds trace flow sound).recorded ∙ ap (λ (m : ℕ). not (m == 0)) (sym total) in
    let told : ℕ → ℕ → ℕ → Option Counts = λ x y z. Some (record { demanded = x; allocated = y; acknowledged = 0; lost = 0; pending = z; sent = 0; missed = 0 }) in
    record {
      none = λ nothing. cond-false (is_recorded plan flow) (Some (plan_counts b plan flow)) None (entry ∙ ap not (eq-eqb asked 0 nothing));
      some = λ more.
          cond-true (is_recorded plan flow) (Some (plan_counts b plan flow)) None (entry ∙ ap not (ne_eqb asked 0 (λ nothing. omega arith)))
          ∙ (ap (λ (x : ℕ). told x (slots_of flow (schedule b plan)) (need_in (item_of (rest b plan) flow))) (sym demand)
          ∙ (ap (λ (y : ℕ). told asked y (need_in (item_of (rest b plan) flow))) (sym given) ∙ ap (told asked (asked - pending)) (sym need)));
      less = omega arith;
    }

-- the first table alone tells that a flow has no counts
pub tells_none : (trace : TraceContent) (engine : PlanState) (flow : Flow) (asked : ℕ) → IsTrace trace → PlanStands trace engine → EveryPlanBalances → EveryPlanAddsWhatIsAsked → EveryPlanIsRecorded → engine.collection.rounds ≡ engine.rounds
    → flow.src < engine.endpoints → flow.dst < engine.endpoints
    → asked ≡ get_or engine.collection.asked (place_of engine.collection.endpoints flow.src flow.dst) 0 → asked ≡ 0 → counts_of engine.allocation.b (plan_batches trace) flow ≡ None
tells_none trace engine flow asked sound stands balances adds recorded done src dst asked_is nothing =
    let n : ℕ = engine.endpoints in
    let at : ℕ = place_of n flow.src flow.dst in
    let pending : ℕ = get_or engine.pending at 0 in
    let within = mul-add-lt flow.src n flow.dst n src dst in
    let same = get_or_default engine.pending at 0 pending (omega (arith, stands.pending_room, within, ap (λ (m : ℕ). m * m) stands.endpoints)) in
    (tells trace engine flow asked pending sound stands balances adds recorded done src dst asked_is same).none nothing
