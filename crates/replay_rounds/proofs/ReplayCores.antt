-- A run does not depend on the cores of slots that no endpoint is told of yet, nor does what stands for it.
use Rattle.std.proofs.Common.{◌≡◌, ◌<◌, ◌≤◌, ◌+◌, ◌-◌, ◌*◌, ℕ, zero, suc, List, [], ◌∷◌, ◌++◌, length, drop, cond, All, Bool, true, false, refl, ap, ◌∙◌, subst, inl, inr, arith}
use Rattle.std.specs.Prelude.{nat_le, nat_lt}
use Rattle.std.proofs.lemmas.Bool.{cases_Bool, leb-true}
use Rattle.std.proofs.Math.Path.{fun_ext}
use Rattle.std.proofs.lemmas.Nat.{mul-le}
use Rattle.std.proofs.lemmas.List.{length-take, length-drop}
use Rattle.greedy_rules.specs.declared.flows.Flow.{Flow}
use Rattle.greedy_rules.specs.Batches.{DemandBatch}
use Rattle.greedy_rules.specs.SlotTable.{IsSlotOf, destination_of}
use Rattle.greedy_rules.specs.Schedule.{first_slot, schedule}
use Rattle.greedy_rules.specs.Allocation.{slots_of}
use Rattle.greedy_rules.specs.Fronts.{EveryBatchHasItsSlots}
use Rattle.clos_topology.specs.Links.{CoreOf}
use Rattle.clos_topology.specs.NetSlots.{SlotCores, AreSlotCores}
use Rattle.slot_publisher.specs.Window.{RoutedFlow, with_cores}
use Rattle.endpoint_history.specs.Rounds.{Round}
use Rattle.lane_rounds.specs.State.{RoundsState}
use Rattle.lane_rounds.specs.Standing as lanes
use Rattle.trace_text.specs.Trace.{TraceContent}
use Rattle.trace_run.specs.Run.{Setting, Run, slots_in_batch, told_at, slots_told_from, told_of, told_in, recorded_together, next_rounds, after_round, replayed}
use Rattle.trace_run.specs.Rest.{allocated_from}
use Rattle.trace_run.specs.Fronts.{EveryRoundHasABatch}
use Rattle.replay_rounds.specs.Setting.{byte_of, setting_of}
use Rattle.replay_rounds.specs.Standing.{RoundsContent, LaneStands, AllRoundsStand, routed_from, slots_between}

-- two namings of cores agree on all slots of a smaller number
abbrev pub AgreeBelow : ℕ → SlotCores → SlotCores → Type 0
AgreeBelow number one other = (n : ℕ) → n < number → one n ≡ other n

-- ---- what is told

told_from-same : (one other : ℕ → ℕ) (endpoint offset : ℕ) (slots : List (List Flow)) → ((at : ℕ) → at < offset + length slots → one at ≡ other at)
    → slots_told_from one endpoint offset slots ≡ slots_told_from other endpoint offset slots
told_from-same one other endpoint offset [] same = refl
told_from-same one other endpoint offset (slot ∷ slots) same =
    let next : slots_told_from one endpoint (offset + 1) slots ≡ slots_told_from other endpoint (offset + 1) slots = told_from-same one other endpoint (offset + 1) slots (λ at below. same at (omega arith)) in
    ap (λ (core : ℕ). told_at offset core (destination_of slot endpoint) ++ slots_told_from one endpoint (offset + 1) slots) (same offset (omega arith))
    ∙ ap (λ told. told_at offset (other offset) (destination_of slot endpoint) ++ told) next

pub one_more : (k b : ℕ) → suc k * b ≡ k * b + b
one_more k b = grind arith

-- a slot of a batch comes before the first one of a later batch
slot_before : (b k published at : ℕ) → k < published → at < b → first_slot b k + at < first_slot b published
slot_before b k published at before within = omega (arith, one_more k b, mul-le (suc k) b published b (omega arith) (omega arith))

told_of-same : (trace : TraceContent) (b g published : ℕ) (one other : SlotCores) (batches : List DemandBatch) (k endpoint : ℕ) → AgreeBelow (first_slot b published) one other → k < published
    → told_of (setting_of trace b g one) batches k endpoint ≡ told_of (setting_of trace b g other) batches k endpoint
told_of-same trace b g published one other batches k endpoint agree before =
    let slots : List (List Flow) = slots_in_batch b k batches in
    let few : length slots ≤ b = omega (arith, length-take b (drop (k * b) (schedule b batches))) in
    told_from-same (λ at. byte_of (one (first_slot b k + at) endpoint)) (λ at. byte_of (other (first_slot b k + at) endpoint)) endpoint 0 slots
    (λ at within. ap (λ (core : CoreOf). byte_of (core endpoint)) (agree (first_slot b k + at) (slot_before b k published at before (omega arith))))

told-same : (trace : TraceContent) (b g published : ℕ) (one other : SlotCores) (batches : List DemandBatch) (round endpoint : ℕ) → AgreeBelow (first_slot b published) one other → round < published + 2 * g
    → told_in (setting_of trace b g one) batches round endpoint ≡ told_in (setting_of trace b g other) batches round endpoint
told-same trace b g published one other batches round endpoint agree early =
    elim (cases_Bool (nat_le (2 * g) round)) [
      | inr first ↦ rw first refl
      | inl late ↦
          let from : 2 * g ≤ round = leb-true (2 * g) round late in
          ap (λ told. cond (nat_le (2 * g) round) told []) (told_of-same trace b g published one other batches (round - 2 * g) endpoint agree (omega arith))
    ]

-- ---- the run

next_rounds-same : (trace : TraceContent) (b g published : ℕ) (one other : SlotCores) (round : ℕ) (before : Run) → AgreeBelow (first_slot b published) one other → round < published + 2 * g
    → next_rounds (setting_of trace b g one) round before ≡ next_rounds (setting_of trace b g other) round before
next_rounds-same trace b g published one other round before agree early =
    let o = (setting_of trace b g one).outside in
    fun_ext (λ endpoint.
    ap (λ told. record { boots = o.boots round endpoint; asks = o.asks round endpoint; up = o.up round endpoint; down = o.down round endpoint; raw = o.raw round endpoint; told = told } ∷ before.rounds endpoint)
    (told-same trace b g published one other before.batches round endpoint agree early))

pub run-same : (trace : TraceContent) (b g published : ℕ) (one other : SlotCores) (rounds : ℕ) → AgreeBelow (first_slot b published) one other → rounds ≤ published + 2 * g
    → replayed (setting_of trace b g one) rounds ≡ replayed (setting_of trace b g other) rounds
run-same trace b g published one other zero agree early = refl
run-same trace b g published one other (suc rounds) agree early =
    let s = setting_of trace b g one in
    let before : Run = replayed (setting_of trace b g other) rounds in
    ap (after_round s rounds) (run-same trace b g published one other rounds agree (omega arith))
    ∙ ap (λ (next : ℕ → List Round). record { batches = before.batches ++ recorded_together s next ∷ []; rounds = next })
    (next_rounds-same trace b g published one other rounds before agree (omega arith))

-- ---- what stands for it

allocated-same : (trace : TraceContent) (b g published : ℕ) (one other : SlotCores) (rounds batch src dst : ℕ) → AgreeBelow (first_slot b published) one other → rounds ≤ published + 2 * g
    → allocated_from (setting_of trace b g one) rounds batch src dst ≡ allocated_from (setting_of trace b g other) rounds batch src dst
allocated-same trace b g published one other rounds batch src dst agree early =
    ap (λ (run : Run). slots_of (record { src = src; dst = dst }) (drop (batch * b) (schedule b run.batches))) (run-same trace b g published one other rounds agree early)

-- a lane counts at most the next batch
counted_few : (test : Bool) (counted published g : ℕ) → counted ≤ published → 0 < g → cond test (counted + 1) counted ≤ published + 2 * g
counted_few true counted published g few some = omega arith
counted_few false counted published g few some = omega arith

lane-same : (trace : TraceContent) (b g published counted collected : ℕ) (one other : SlotCores) (endpoint : ℕ) (lane : RoundsState) → AgreeBelow (first_slot b published) one other → counted ≤ published
    → collected ≤ published + 2 * g → 0 < g → LaneStands (setting_of trace b g one) collected counted endpoint lane → LaneStands (setting_of trace b g other) collected counted endpoint lane
lane-same trace b g published counted collected one other endpoint lane agree few early some stands =
    record {
      own = stands.own;
      endpoints = stands.endpoints;
      b = stands.b;
      g = stands.g;
      whole = stands.whole;
      round = stands.round;
      allocations = stands.allocations;
      counted = λ batch dst below. stands.counted batch dst below ∙ allocated-same trace b g published one other (cond (nat_lt dst 0) (counted + 1) counted) batch endpoint dst agree (counted_few (nat_lt dst 0) counted published g few some);
      stands = subst (λ (run : Run). lanes.RoundsStandFor lane (run.rounds endpoint) stands.allocations) (run-same trace b g published one other collected agree early) stands.stands;
    }

routed-same : (one other : SlotCores) (number : ℕ) (slots : List (List Flow)) → AgreeBelow (number + length slots) one other → routed_from one number slots ≡ routed_from other number slots
routed-same one other number [] agree = refl
routed-same one other number (slot ∷ slots) agree =
    ap (λ (core : CoreOf). with_cores core slot ∷ routed_from one (number + 1) slots) (agree number (omega arith))
    ∙ ap (λ (routed : List (List RoutedFlow)). with_cores (other number) slot ∷ routed) (routed-same one other (number + 1) slots (λ n below. agree n (omega arith)))

pub between-same : (trace : TraceContent) (b g published : ℕ) (one other : SlotCores) (first rounds : ℕ) → AgreeBelow (first_slot b published) one other → rounds ≤ published + 2 * g
    → slots_between (setting_of trace b g one) first rounds ≡ slots_between (setting_of trace b g other) first rounds
between-same trace b g published one other first rounds agree early =
    ap (λ (run : Run). drop (first * b) (schedule b run.batches)) (run-same trace b g published one other rounds agree early)

pub between-length : (s : Setting) (first rounds : ℕ) → EveryRoundHasABatch → EveryBatchHasItsSlots → length (slots_between s first rounds) ≡ rounds * s.b - first * s.b
between-length s first rounds batch count =
    let batches : List DemandBatch = (replayed s rounds).batches in
    let many : length (schedule s.b batches) ≡ rounds * s.b = count s.b 0 [] batches ∙ ap (λ (n : ℕ). n * s.b) (batch s rounds) in
    omega (arith, length-drop (first * s.b) (schedule s.b batches))

pub stands-with : (trace : TraceContent) (one other : SlotCores) (all : RoundsContent) → EveryRoundHasABatch → EveryBatchHasItsSlots → AgreeBelow (first_slot all.b all.published) one other → AreSlotCores other
    → all.window.first_batch ≤ all.published → all.collected ≤ all.published + 2 * all.g → AllRoundsStand trace one all → AllRoundsStand trace other all
stands-with trace one other all batch count agree named held early stands =
    let b : ℕ = all.b in
    let g : ℕ = all.g in
    let first : ℕ = all.window.first_batch in
    let slots : List (List Flow) = slots_between (setting_of trace b g one) first all.published in
    let long : length slots ≡ all.published * b - first * b = between-length (setting_of trace b g one) first all.published batch count in
    let behind : first * b ≤ all.published * b = mul-le first b all.published b held (omega arith) in
    record {
      named = named;
      batch = stands.batch;
      rounds = stands.rounds;
      endpoints = stands.endpoints;
      within = stands.within;
      behind = stands.behind;
      counted = stands.counted;
      wide = stands.wide;
      lanes = λ endpoint lane at. lane-same trace b g all.published all.counted all.collected one other endpoint lane agree stands.counted.1 early stands.rounds.0 (stands.lanes endpoint lane at);
      served = stands.served;
      room = stands.room;
      size = stands.size;
      held = stands.held;
      slots = stands.slots
          ∙ (routed-same one other (first_slot b first) slots (λ n below. agree n (omega arith))
          ∙ ap (routed_from other (first_slot b first)) (between-same trace b g all.published one other first all.published agree (omega arith)));
      in_range = subst (All (IsSlotOf all.endpoints)) (between-same trace b g all.published one other first all.published agree (omega arith)) stands.in_range;
    }
