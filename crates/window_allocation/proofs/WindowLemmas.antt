-- A window of batches that are recorded next: they may be allocated, and what their slots and the list after them are.
use Rattle.std.proofs.Common.{◌≡◌, ◌<◌, ◌≤◌, ◌+◌, ◌-◌, ◌*◌, ◌^◌, ℕ, List, [], ◌++◌, length, get_or, replicate, All, sym, ap, ◌∙◌, subst, arith, length-append}
use Rattle.std.proofs.lemmas.Nat.{mul-le}
use Rattle.std.proofs.lemmas.List.{append-nil, get_or-append_right, get_or_default}
use Rattle.list_facts.proofs.Numbers.{fewer_pairs}
use Rattle.greedy_rules.specs.declared.flows.Flow.{Flow}
use Rattle.greedy_rules.specs.declared.flows.Item.{Item}
use Rattle.greedy_rules.specs.Batches.{DemandBatch}
use Rattle.greedy_rules.specs.Demands.{AreBelow, HaveTwoEnds}
use Rattle.greedy_rules.specs.Schedule.{first_slot, schedule, schedule_from, slot_in, slot_at, rest, rest_from}
use Rattle.greedy_rules.specs.Fronts.{FrontsAreFronts, EveryBatchHasItsSlots}
use Rattle.greedy_rules.specs.Recorded.{MayBeApplied, IsLeftBy, RecordedBatchesMayBeApplied, LaterBatchesMayBeApplied, EveryRecordedSlot}
use Rattle.greedy_rules.specs.Room.{FlowsFitPairs}
use Rattle.greedy_rules.specs.Balance.{EveryBatchBalances}
use Rattle.greedy_rules.specs.SlotTable.{Slots}
use Rattle.slot_batches.specs.NextList.{IsListBefore}
use Rattle.alloc_pipeline.specs.Ring.{RingWork, IsSameRingWork, MayAllocate, pairs_of}
use Rattle.clos_topology.specs.Network.{Network, endpoints_of}
use Rattle.clos_topology.specs.Links.{IsClean}
use Rattle.clos_topology.specs.NetSlots.{limits_of}
use Rattle.path_workers.specs.Coloured.{NamesNoOther}
use Rattle.path_workers.specs.CoreTable.{CoreSlots, core_of}
use Rattle.window_allocation.specs.Nets.{AreOfNet}
use Rattle.window_allocation.specs.Standing.{Allocated, HasAllocated}
use Rattle.window_allocation.specs.Windows.{IsWindowOf}
use Rattle.window_allocation.proofs.PartLemmas.{parts_may}
use Rattle.window_allocation.specs.Ready.{AnyPartMayBeApplied, IsFit, HalfIsReady, EveryWindowIsReady}

-- the list that recorded batches leave fits where all flows do
fits : (endpoints : ℕ) (batches : List DemandBatch) (list : List Item) → FlowsFitPairs → IsLeftBy endpoints batches list → length list ≤ pairs_of endpoints
fits endpoints batches list fit left =
    omega (
      arith,
      fit endpoints [] list (λ i j d lt below. absurd (omega arith)) (λ k d below. absurd (omega arith)) left.once (subst (AreBelow endpoints) (sym (append-nil list)) left.below)
          (subst HaveTwoEnds (sym (append-nil list)) left.apart),
    )

fit_slot : (net : Network) (b : ℕ) (earlier batches : List DemandBatch) (window : List (List Flow)) → AreOfNet net (earlier ++ batches) → EveryRecordedSlot → EveryBatchHasItsSlots
    → schedule b (earlier ++ batches) ≡ schedule b earlier ++ window → All (IsFit net) window
fit_slot net b earlier batches window recorded slots count whole at d below =
    let all : List (List Flow) = schedule b (earlier ++ batches) in
    let front : List (List Flow) = schedule b earlier in
    let start : ℕ = length earlier * b in
    let number : ℕ = start + at + 1 in
    let none : List Flow = [] in
    let long : length front ≡ start = count b 0 [] earlier in
    let within : number ≤ length all = omega (arith, ap length whole, length-append front window, long) in
    let place : number - 1 - start ≡ at = omega arith in
    let here : slot_at all number ≡ get_or window at d =
    ap (λ (xs : List (List Flow)). slot_in xs (number - 1)) whole
    ∙ (get_or-append_right front window start (number - 1) none long (omega arith)
    ∙ (ap (λ (k : ℕ). get_or window k none) place ∙ get_or_default window at none d below)) in
    let slot = slots (endpoints_of net) b (limits_of net) (earlier ++ batches) recorded number (omega arith) within in
    subst (IsFit net) here (record { matching = slot.matching; flows = slot.in_range.in_range; degrees = slot.keeps })

pub ready : (net : Network) (most : ℕ) (earlier batches : List DemandBatch) (half : Allocated) → HasAllocated net most earlier half → AreOfNet net (earlier ++ batches)
    → RecordedBatchesMayBeApplied → LaterBatchesMayBeApplied → EveryRecordedSlot → FrontsAreFronts → EveryBatchHasItsSlots → FlowsFitPairs → EveryBatchBalances → HalfIsReady net earlier batches half
ready net most earlier batches half has recorded all later slots fronts count fit balances =
    let b : ℕ = half.b in
    let n : ℕ = endpoints_of net in
    let list : List Item = half.list.items in
    let front = fronts b earlier batches in
    let may = later n b (limits_of net) earlier batches recorded in
    let From : ℕ → List Item → Type 0 = λ k l. MayBeApplied n b k l batches in
    let then : rest_from b half.batches list batches ≡ rest b (earlier ++ batches) =
    ap (λ (k : ℕ). rest_from b k list batches) has.number ∙ (ap (λ (l : List Item). rest_from b (length earlier) l batches) has.left ∙ sym front.1) in
    let whole : schedule b (earlier ++ batches) ≡ schedule b earlier ++ schedule_from b half.batches list batches =
    front.0
    ∙ ap (λ (xs : List (List Flow)). schedule b earlier ++ xs)
    (sym (ap (λ (k : ℕ). schedule_from b k list batches) has.number ∙ ap (λ (l : List Item). schedule_from b (length earlier) l batches) has.left)) in
    record {
      may = subst (λ (k : ℕ). From k list) (sym has.number) (subst (From (length earlier)) (sym has.left) may);
      parts = parts_may n b half.batches (limits_of net) earlier batches list balances recorded (subst (IsLeftBy n earlier) (sym has.left) (all n b (limits_of net) earlier has.recorded).left);
      then = then;
      few = omega (arith, ap length has.left, fits n earlier (rest b earlier) fit (all n b (limits_of net) earlier has.recorded).left);
      room = omega (arith, has.room, ap length then, fits n (earlier ++ batches) (rest b (earlier ++ batches)) fit (all n b (limits_of net) (earlier ++ batches) recorded).left, fewer_pairs n);
      number = count b half.batches list batches;
      whole = whole;
      slots = fit_slot net b earlier batches (schedule_from b half.batches list batches) recorded slots count whole;
    }

-- a table that was opened for just the window's slots
pub exact : (slots window : List (List Flow)) (places n : ℕ) → slots ≡ window ++ replicate (places - n) [] → places ≡ n → slots ≡ window
exact slots window places n is same =
    let none : List Flow = [] in
    let left : places - n ≡ 0 = omega arith in
    is ∙ (ap (λ (m : ℕ). window ++ replicate m none) left ∙ append-nil window)

same_sizes : (ring : RingWork) (endpoints batches b : ℕ) → ring.endpoints ≡ endpoints → ring.batches ≡ batches → ring.b ≡ b → ring ≡ record ring { endpoints = endpoints; batches = batches; b = b }
same_sizes ring endpoints batches b e n s = λ i. record ring { endpoints = e i; batches = n i; b = s i }

pub has_allocated_more : (net : Network) (most : ℕ) (earlier batches : List DemandBatch) (old new : Allocated) → HasAllocated net most earlier old → AreOfNet net (earlier ++ batches) → HalfIsReady net earlier batches old
    → new.b ≡ old.b → new.batches ≡ old.batches + length batches → new.list.items ≡ rest_from old.b old.batches old.list.items batches
    → IsListBefore (first_slot old.b (old.batches + length batches)) new.list.items
    → length new.list.items + new.list.spare ≡ length old.list.items + old.list.spare → IsSameRingWork old.ring new.ring → new.paths.net ≡ old.paths.net → new.paths.slots ≡ old.paths.slots → HasAllocated net most (earlier ++ batches) new
has_allocated_more network most earlier batches old new has recorded is_ready b number list before spare same net slots = record {
  recorded = recorded;
  number = omega (arith, has.number, length-append earlier batches);
  size = (omega (arith, has.size.0), omega (arith, has.size.1));
  left = list ∙ (is_ready.then ∙ ap (λ (m : ℕ). rest m (earlier ++ batches)) (sym b));
  before = rw (b, number) before;
  room = omega (arith, has.room);
  ring = same_sizes new.ring (endpoints_of network) most new.b (same.endpoints ∙ ap (λ (r : RingWork). r.endpoints) has.ring) (same.batches ∙ ap (λ (r : RingWork). r.batches) has.ring)
      (same.b ∙ (ap (λ (r : RingWork). r.b) has.ring ∙ sym b));
  serves = net ∙ has.serves;
  colours = slots ∙ (has.colours ∙ ap (λ (m : ℕ). most * m) (sym b));
}

pub window_of : (net : Network) (b first n : ℕ) (window : List (List Flow)) (slots : Slots) (cores : CoreSlots) → slots.slots ≡ window → length window ≡ n * b → slots.endpoints ≡ endpoints_of net
    → cores.slots ≡ n * b → cores.endpoints ≡ endpoints_of net → ((at : ℕ) → at < length slots.slots → IsClean net.hosts net.cores (slot_in slots.slots at) (core_of cores at))
    → ((at : ℕ) → at < length slots.slots → NamesNoOther net.hosts (slot_in slots.slots at) (core_of cores at))
    → IsWindowOf net b window (record { span = record { first = first; count = n }; slots = slots; cores = cores })
window_of net b first n window slots cores is number endpoints core_slots core_endpoints clean others =
    let base : ℕ = first_slot b first in
    record {
      is = is;
      number = number;
      endpoints = endpoints;
      core_slots = core_slots;
      core_endpoints = core_endpoints;
      clean = λ at below.
          let place : at ≡ base + at - base = omega arith in
          subst (λ (k : ℕ). IsClean net.hosts net.cores (slot_in window at) (core_of cores k)) place
          (subst (λ (xs : List (List Flow)). IsClean net.hosts net.cores (slot_in xs at) (core_of cores at)) is (clean at (omega (arith, ap length is))));
      others = λ at below. subst (λ (xs : List (List Flow)). NamesNoOther net.hosts (slot_in xs at) (core_of cores at)) is (others at (omega (arith, ap length is)));
    }

-- ---- the same, as the code has it

-- what is known of a half before a window
abbrev pub HasNext : List DemandBatch → Allocated → Type 0
HasNext batches half = (earlier : List DemandBatch) × HasAllocated half.paths.net half.ring.batches earlier half × AreOfNet half.paths.net (earlier ++ batches)

pub every_window : RecordedBatchesMayBeApplied → LaterBatchesMayBeApplied → EveryRecordedSlot → FrontsAreFronts → EveryBatchHasItsSlots → FlowsFitPairs → EveryBatchBalances → EveryWindowIsReady
every_window all later slots fronts count fit balances net most earlier batches half has recorded = ready net most earlier batches half has recorded all later slots fronts count fit balances

pub ring_size : (net : Network) (most : ℕ) (earlier : List DemandBatch) (half : Allocated) → HasAllocated net most earlier half → half.ring.b ≡ half.b
ring_size net most earlier half has = ap (λ (r : RingWork). r.b) has.ring

pub ring_endpoints : (net : Network) (most : ℕ) (earlier : List DemandBatch) (half : Allocated) → HasAllocated net most earlier half → half.ring.endpoints ≡ endpoints_of net
ring_endpoints net most earlier half has = ap (λ (r : RingWork). r.endpoints) has.ring

-- its ring may allocate them, into a table that has a place for each of their slots
pub may_allocate : (net : Network) (earlier batches : List DemandBatch) (half : Allocated) (table : Slots) → HasAllocated net half.ring.batches earlier half → HalfIsReady net earlier batches half → length batches ≤ half.ring.batches
    → first_slot half.b (half.batches + length batches) ≤ 2 ^ 32 → table.endpoints ≡ half.ring.endpoints → length table.slots ≡ length batches * half.b → MayAllocate half.ring half.batches half.list batches table
may_allocate net earlier batches half table has is_ready count numbers serves places =
    let b : half.b ≡ half.ring.b = sym (ring_size net half.ring.batches earlier half has) in
    let endpoints : endpoints_of net ≡ half.ring.endpoints = sym (ring_endpoints net half.ring.batches earlier half has) in
    let ready_for : ℕ → ℕ → Type 0 = λ n m. MayBeApplied n m half.batches half.list.items batches in
    let long : length table.slots ≡ length batches * half.ring.b = places ∙ ap (λ (m : ℕ). length batches * m) b in
    record {
      count = count;
      may = subst (λ (n : ℕ). ready_for n half.ring.b) endpoints (subst (ready_for (endpoints_of net)) b is_ready.may);
      before = subst (λ (m : ℕ). IsListBefore (first_slot m half.batches) half.list.items) b has.before;
      numbers = subst (λ (m : ℕ). first_slot m (half.batches + length batches) ≤ 2 ^ 32) b numbers;
      fits = subst (λ (n : ℕ). length half.list.items ≤ pairs_of n) endpoints is_ready.few;
      room = subst (λ (m : ℕ). length (rest_from m half.batches half.list.items batches) ≤ length half.list.items + half.list.spare) b is_ready.room;
      serves = omega (arith, serves);
      places = omega (arith, long);
    }

-- and any part of its list
pub parts_may_be : (net : Network) (earlier batches : List DemandBatch) (half : Allocated) → HasAllocated net half.ring.batches earlier half → HalfIsReady net earlier batches half
    → AnyPartMayBeApplied half.ring.endpoints half.ring.b half.batches half.list.items batches
parts_may_be net earlier batches half has is_ready =
    subst (λ (n : ℕ). AnyPartMayBeApplied n half.ring.b half.batches half.list.items batches) (sym (ring_endpoints net half.ring.batches earlier half has))
    (subst (λ (m : ℕ). AnyPartMayBeApplied (endpoints_of net) m half.batches half.list.items batches) (sym (ring_size net half.ring.batches earlier half has)) is_ready.parts)

-- the table of a window, which has just its slots
pub table_is : (earlier batches : List DemandBatch) (half : Allocated) (opened slots : List (List Flow)) → HasAllocated half.paths.net half.ring.batches earlier half → length opened ≡ length batches * half.b
    → slots ≡ schedule_from half.ring.b half.batches half.list.items batches ++ replicate (length opened - length batches * half.ring.b) [] → slots ≡ schedule_from half.b half.batches half.list.items batches
table_is earlier batches half opened slots has places is =
    let none : List Flow = [] in
    let n : ℕ = length batches in
    let b : ℕ = half.b in
    let ring : half.ring.b ≡ b = ring_size half.paths.net half.ring.batches earlier half has in
    exact slots (schedule_from b half.batches half.list.items batches) (length opened) (n * b)
    (is ∙ ap (λ (m : ℕ). schedule_from m half.batches half.list.items batches ++ replicate (length opened - n * m) none) ring) places

pub few_slots : (earlier batches : List DemandBatch) (half : Allocated) (slots : List (List Flow)) → HasAllocated half.paths.net half.ring.batches earlier half → slots ≡ schedule_from half.b half.batches half.list.items batches
    → HalfIsReady half.paths.net earlier batches half → length batches ≤ half.ring.batches → length slots ≤ half.paths.slots
few_slots earlier batches half slots has is is_ready few =
    omega (arith, ap length is, is_ready.number, has.colours, mul-le (length batches) half.b half.ring.batches half.b few (omega arith))

pub list_below : (net : Network) (most : ℕ) (batches : List DemandBatch) (half : Allocated) → HasAllocated net most batches half → RecordedBatchesMayBeApplied → AreBelow half.ring.endpoints half.list.items
list_below net most batches half has all =
    let left = (all (endpoints_of net) half.b (limits_of net) batches has.recorded).left in
    subst (λ (n : ℕ). AreBelow n half.list.items) (sym (ring_endpoints net most batches half has)) (subst (AreBelow (endpoints_of net)) (sym has.left) left.below)

-- a window's table once it is filled, and what was known before
pub record IsTold (batches : List DemandBatch) (half : Allocated) (slots : List (List Flow)) : Type 0 where
  pub earlier : List DemandBatch
  pub has : HasAllocated half.paths.net half.ring.batches earlier half
  pub ready : HalfIsReady half.paths.net earlier batches half
  pub is : slots ≡ schedule_from half.b half.batches half.list.items batches
  pub fit : All (IsFit half.paths.net) slots

pub told : (batches : List DemandBatch) (here now : Allocated) (opened slots : List (List Flow)) → EveryWindowIsReady → here ≡ now → HasNext batches now → length opened ≡ length batches * here.b
    → slots ≡ schedule_from here.ring.b here.batches here.list.items batches ++ replicate (length opened - length batches * here.ring.b) [] → IsTold batches here slots
told batches here now opened slots law same stands places is =
    let (earlier, has, recorded) = subst (HasNext batches) (sym same) stands in
    let is_ready = law here.paths.net here.ring.batches earlier batches here has recorded in
    let table = table_is earlier batches here opened slots has places is in
    record { earlier = earlier; has = has; ready = is_ready; is = table; fit = subst (All (IsFit here.paths.net)) (sym table) is_ready.slots }

-- what is known of it after
abbrev pub Goes : Allocated → List DemandBatch → Allocated → Type 0
Goes old batches new =
    (earlier : List DemandBatch) → HasAllocated old.paths.net old.ring.batches earlier old → AreOfNet old.paths.net (earlier ++ batches) → HasAllocated old.paths.net old.ring.batches (earlier ++ batches) new
