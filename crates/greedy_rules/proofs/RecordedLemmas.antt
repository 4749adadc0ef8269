-- Recorded batches may be applied one after the other, and what their slots are.
use Rattle.std.proofs.Common.{◌≡◌, ◌≢◌, ◌<◌, ◌≤◌, ◌+◌, ◌-◌, ◌*◌, ℕ, zero, suc, List, [], ◌∷◌, ◌++◌, length, get_or, filter, replicate, false, not, ◌||◌, Option, Some, None, All, is_some, refl, sym, ap, ◌∙◌, subst, arith, inl, inr}
use Rattle.std.proofs.lemmas.Bool.{cond-true, cond-false, cases_Bool}
use Rattle.std.proofs.lemmas.List.{append-nil, append_assoc, length-append, length-replicate}
use Rattle.std.proofs.lemmas.List.Folds.{list_any-append}
use Rattle.std.proofs.lemmas.List.Elements.{All-nil, All-cons, All-head, All-tail, All-append, All-map, All-filter, All-weaker, All-replicate}
use Rattle.std.proofs.Math.Bool.{or-false}
use Rattle.greedy_rules.specs.declared.flows.Flow.{Flow}
use Rattle.greedy_rules.specs.declared.flows.Item.{Item}
use Rattle.greedy_rules.specs.declared.flows.Entry.{Entry}
use Rattle.greedy_rules.specs.declared.limits.Limits.{Limits}
use Rattle.greedy_rules.specs.Flows.{same_flow}
use Rattle.greedy_rules.specs.Batches.{DemandBatch, entry_of}
use Rattle.greedy_rules.specs.Demands.{Key, last_served, HasEachFlowOnce, is_listed, item_of, need_in, need_with, opened, after_batch_by}
use Rattle.greedy_rules.specs.Limits.{is_barred, KeepsLimits}
use Rattle.greedy_rules.specs.Schedule.{first_slot, list_then_by, rest_from_by, slot_limits, schedule_by, rest_by, slot_at, need_before_by, limits_at}
use Rattle.greedy_rules.specs.Balance.{is_recorded, clears, added_by, AreInOrder}
use Rattle.greedy_rules.specs.Matching.{AreAmong, IsMaximalMatching}
use Rattle.greedy_rules.specs.Recorded.{demand_through, demand_of, IsRecordedAfter, AreRecordedAfter, AreRecorded, Applies, MayBeAppliedBy, IsLeftBy, RecordedBatchesMayBeAppliedBy, EveryFrontIsRecorded, LaterBatchesMayBeAppliedBy, EveryRecordedSlotBy, RecordedBatchesMayBeApplied, LaterBatchesMayBeApplied, EveryRecordedSlot}
use Rattle.greedy_rules.proofs.FlowOrder.{same_flow-refl, same_flow-true}
use Rattle.greedy_rules.proofs.OnceLemmas.{flows-after_batch_by, flows-after_slots_by}
use Rattle.greedy_rules.proofs.NeedLemmas.{every_batch_by}
use Rattle.greedy_rules.proofs.ScheduleLemmas.{every_slot_by, every_slot_keeps_its_limits_by}
use Rattle.greedy_rules.proofs.RangeLemmas.{every_slot_in_range_by}
use Rattle.greedy_rules.proofs.FrontLemmas.{every_batch_has_its_slots_by, times_more}

-- in a list that has each flow once, an item's need is that of its flow
pub need_of_item : (items : List Item) (at : ℕ) (d : Item) → HasEachFlowOnce items → at < length items → need_in (item_of items (get_or items at d).flow) ≡ (get_or items at d).need
need_of_item [] at d once below = absurd (omega arith)
need_of_item (item ∷ items) zero d once below = ap need_in (cond-true (same_flow item.flow item.flow) (Some item) (item_of items item.flow) (same_flow-refl item.flow))
need_of_item (item ∷ items) (suc at) d once below =
    let that : Item = get_or items at d in
    let tail : HasEachFlowOnce items = λ i j e lt within. once (suc i) (suc j) e (omega arith) (omega arith) in
    let apart : item.flow ≢ that.flow = once 0 (suc at) d (omega arith) below in
    elim (cases_Bool (same_flow item.flow that.flow)) [
      | inl same ↦ absurd (apart (same_flow-true item.flow that.flow same))
      | inr other ↦ ap need_in (cond-false (same_flow item.flow that.flow) (Some item) (item_of items that.flow) other) ∙ need_of_item items at d tail (omega arith)
    ]

-- more need stays more
pub need_with-le : (entry : Option Entry) (low high : ℕ) → low ≤ high → need_with entry low ≤ need_with entry high
need_with-le None low high le = le
need_with-le (Some entry) low high le =
    elim (cases_Bool entry.clear) [
      | inl clears ↦ omega (arith, cond-true {A = ℕ} entry.clear 0 low clears, cond-true {A = ℕ} entry.clear 0 high clears)
      | inr keeps ↦ omega (arith, cond-false {A = ℕ} entry.clear 0 low keeps, cond-false {A = ℕ} entry.clear 0 high keeps)
    ]

pub demand_more : (earlier : List DemandBatch) (batch : DemandBatch) (flow : Flow) (need : ℕ) → demand_through (earlier ++ batch ∷ []) flow need ≡ need_with (entry_of batch.entries flow) (demand_through earlier flow need)
demand_more [] batch flow need = refl
demand_more (x ∷ earlier) batch flow need = demand_more earlier batch flow (need_with (entry_of x.entries flow) need)

pub is_recorded-more : (earlier : List DemandBatch) (batch : DemandBatch) (flow : Flow) → is_recorded (earlier ++ batch ∷ []) flow ≡ (is_recorded earlier flow || is_some (entry_of batch.entries flow))
is_recorded-more earlier batch flow =
    list_any-append (λ (x : DemandBatch). is_some (entry_of x.entries flow)) earlier (batch ∷ []) ∙ ap (λ b. is_recorded earlier flow || b) (or-false (is_some (entry_of batch.entries flow)))

-- the next recorded batch may be applied to what the earlier ones left
next_applies : (endpoints : ℕ) (limits : Limits) (earlier : List DemandBatch) (batch : DemandBatch) (list : List Item) → IsRecordedAfter endpoints limits earlier batch → IsLeftBy endpoints earlier list → Applies endpoints batch list
next_applies endpoints limits earlier batch list is left =
    let Within : Flow → Type 0 = λ flow. (flow.src < endpoints) × (flow.dst < endpoints) in
    let Apart : Flow → Type 0 = λ flow. flow.src ≢ flow.dst in
    let opens : Entry → Item = λ entry. record { flow = entry.flow; need = entry.add; last = 0 } in
    record {
      rises = is.rises;
      opens = All-weaker (λ (e : Entry). e.opens ≡ not (is_recorded earlier e.flow)) (λ e. e.opens ≡ not (is_listed list e.flow)) (λ e was. was ∙ ap not (sym (left.listed e.flow))) batch.entries is.opens;
      once = left.once;
      below = All-append (λ (item : Item). Within item.flow) list (opened batch.entries) left.below
          (All-map (λ (item : Item). Within item.flow) opens (filter (λ (e : Entry). e.opens) batch.entries) (All-filter (λ (e : Entry). e.opens) (λ (e : Entry). Within e.flow) batch.entries is.in_range));
      apart = All-append (λ (item : Item). Apart item.flow) list (opened batch.entries) left.apart
          (All-map (λ (item : Item). Apart item.flow) opens (filter (λ (e : Entry). e.opens) batch.entries) (All-filter (λ (e : Entry). e.opens) (λ (e : Entry). Apart e.flow) batch.entries is.apart));
      needs = λ at d within.
          let item : Item = get_or list at d in
          omega (
            arith,
            need_of_item list at d left.once within,
            is.fits item.flow,
            need_with-le (entry_of batch.entries item.flow) item.need (demand_of earlier item.flow) (omega (arith, left.needs item.flow, need_of_item list at d left.once within)),
          );
    }

-- and they leave such a list together
next_left_by : (key : Key) (endpoints b k : ℕ) (limits : Limits) (earlier : List DemandBatch) (batch : DemandBatch) (list : List Item) → IsRecordedAfter endpoints limits earlier batch → IsLeftBy endpoints earlier list
    → IsLeftBy endpoints (earlier ++ batch ∷ []) (list_then_by key b k batch list)
next_left_by key endpoints b k limits earlier batch list is left =
    let may = next_applies endpoints limits earlier batch list is left in
    let what = every_batch_by key batch.limits endpoints (first_slot b k) b batch.entries list may.rises may.opens may.once may.below in
    record {
      once = what.once;
      below = what.in_range;
      apart = flows-after_slots_by key (λ flow. flow.src ≢ flow.dst) (is_barred batch.limits) (first_slot b k) b (after_batch_by key batch.entries list)
          (flows-after_batch_by key (λ flow. flow.src ≢ flow.dst) batch.entries list may.apart);
      listed = λ flow. what.listed flow ∙ (ap (λ p. p || is_some (entry_of batch.entries flow)) (left.listed flow) ∙ sym (is_recorded-more earlier batch flow));
      needs = λ flow.
          omega (
            arith,
            what.balance flow,
            need_with-le (entry_of batch.entries flow) (need_in (item_of list flow)) (demand_of earlier flow) (left.needs flow),
            demand_more earlier batch flow 0,
          );
    }

applied_by : (key : Key) (endpoints b k : ℕ) (limits : Limits) (earlier batches : List DemandBatch) (list : List Item) → AreRecordedAfter endpoints limits earlier batches → IsLeftBy endpoints earlier list
    → MayBeAppliedBy key endpoints b k list batches × IsLeftBy endpoints (earlier ++ batches) (rest_from_by key b k list batches)
applied_by key endpoints b k limits earlier [] list are left = (tt, subst (λ (bs : List DemandBatch). IsLeftBy endpoints bs list) (sym (append-nil earlier)) left)
applied_by key endpoints b k limits earlier (batch ∷ batches) list are left =
    let then : List Item = list_then_by key b k batch list in
    let later = applied_by key endpoints b (k + 1) limits (earlier ++ batch ∷ []) batches then are.1 (next_left_by key endpoints b k limits earlier batch list are.0 left) in (
      (next_applies endpoints limits earlier batch list are.0 left, later.0),
      subst (λ (bs : List DemandBatch). IsLeftBy endpoints bs (rest_from_by key b (k + 1) then batches)) (append_assoc earlier (batch ∷ []) batches) later.1,
    )

nothing_left : (endpoints : ℕ) → IsLeftBy endpoints [] []
nothing_left endpoints = record {
  once = λ i j d lt within. absurd (omega arith);
  below = λ i d within. absurd (omega arith);
  apart = λ i d within. absurd (omega arith);
  listed = λ flow. refl;
  needs = λ flow. omega arith;
}

in_order : (endpoints : ℕ) (limits : Limits) (earlier batches : List DemandBatch) → AreRecordedAfter endpoints limits earlier batches → AreInOrder earlier batches
in_order endpoints limits earlier [] are = tt
in_order endpoints limits earlier (batch ∷ batches) are = (are.0.rises, are.0.opens, in_order endpoints limits (earlier ++ batch ∷ []) batches are.1)

pub may_be_applied_by : (key : Key) → RecordedBatchesMayBeAppliedBy key
may_be_applied_by key endpoints b limits batches are =
    let all = applied_by key endpoints b 0 limits [] batches [] are (nothing_left endpoints) in
    record { in_order = in_order endpoints limits [] batches are; may = all.0; left = all.1 }

may-later_by : (key : Key) (endpoints b k : ℕ) (list : List Item) (xs ys : List DemandBatch) → MayBeAppliedBy key endpoints b k list (xs ++ ys) → MayBeAppliedBy key endpoints b (k + length xs) (rest_from_by key b k list xs) ys
may-later_by key endpoints b k list [] ys may = subst (λ (n : ℕ). MayBeAppliedBy key endpoints b n list ys) (omega arith) may
may-later_by key endpoints b k list (x ∷ xs) ys may =
    let then : List Item = list_then_by key b k x list in
    let on : k + 1 + length xs ≡ k + suc (length xs) = omega arith in
    subst (λ (n : ℕ). MayBeAppliedBy key endpoints b n (rest_from_by key b (k + 1) then xs) ys) on (may-later_by key endpoints b (k + 1) then xs ys may.1)

pub later_may_be_applied_by : (key : Key) → LaterBatchesMayBeAppliedBy key
later_may_be_applied_by key endpoints b limits front later are =
    let start : 0 + length front ≡ length front = omega arith in
    subst (λ (n : ℕ). MayBeAppliedBy key endpoints b n (rest_by key b front) later) start (may-later_by key endpoints b 0 [] front later (may_be_applied_by key endpoints b limits (front ++ later) are).may)

recorded-front : (endpoints : ℕ) (limits : Limits) (earlier front later : List DemandBatch) → AreRecordedAfter endpoints limits earlier (front ++ later) → AreRecordedAfter endpoints limits earlier front
recorded-front endpoints limits earlier [] later are = tt
recorded-front endpoints limits earlier (x ∷ front) later are = (are.0, recorded-front endpoints limits (earlier ++ x ∷ []) front later are.1)

pub every_front_is_recorded : EveryFrontIsRecorded
every_front_is_recorded endpoints limits front later are = recorded-front endpoints limits [] front later are

-- ---- slots

recorded_all : (P : DemandBatch → Type 0) (endpoints : ℕ) (limits : Limits) → ((earlier : List DemandBatch) (batch : DemandBatch) → IsRecordedAfter endpoints limits earlier batch → P batch)
    → (earlier batches : List DemandBatch) → AreRecordedAfter endpoints limits earlier batches → All P batches
recorded_all P endpoints limits each earlier [] are = All-nil P
recorded_all P endpoints limits each earlier (batch ∷ batches) are =
    All-cons P batch batches (each earlier batch are.0) (recorded_all P endpoints limits each (earlier ++ batch ∷ []) batches are.1)

pub uniform : (b : ℕ) (limits : Limits) (batches : List DemandBatch) → All (λ batch. batch.limits ≡ limits) batches → All (λ l. l ≡ limits) (slot_limits b batches)
uniform b limits [] all = All-nil (λ (l : Limits). l ≡ limits)
uniform b limits (batch ∷ batches) all =
    All-append (λ (l : Limits). l ≡ limits) (replicate b batch.limits) (slot_limits b batches)
    (All-replicate (λ (l : Limits). l ≡ limits) b batch.limits (All-head (λ (x : DemandBatch). x.limits ≡ limits) batch batches all))
    (uniform b limits batches (All-tail (λ (x : DemandBatch). x.limits ≡ limits) batch batches all))

pub length-slot_limits : (b : ℕ) (batches : List DemandBatch) → length (slot_limits b batches) ≡ length batches * b
length-slot_limits b [] = let none : 0 ≡ 0 * b = omega arith in none
length-slot_limits b (batch ∷ batches) =
    omega (arith, length-append (replicate b batch.limits) (slot_limits b batches), length-replicate b batch.limits, length-slot_limits b batches, times_more (length batches) b)

-- the limits of each slot
limits_are_by : (key : Key) (endpoints b : ℕ) (limits : Limits) (batches : List DemandBatch) (number : ℕ) → AreRecorded endpoints limits batches → 0 < number → number ≤ length (schedule_by key b batches) → limits_at b batches number ≡ limits
limits_are_by key endpoints b limits batches number are positive within =
    uniform b limits batches (recorded_all (λ (batch : DemandBatch). batch.limits ≡ limits) endpoints limits (λ earlier batch is. is.same_limits) [] batches are) (number - 1) (record { hosts = 0; cores = 0 })
    (omega (arith, length-slot_limits b batches, every_batch_has_its_slots_by key b 0 [] batches))

pub every_recorded_slot_by : (key : Key) → EveryRecordedSlotBy key
every_recorded_slot_by key endpoints b limits batches are number positive within =
    let same = limits_are_by key endpoints b limits batches number are positive within in
    let slot : List Flow = slot_at (schedule_by key b batches) number in
    let whole : IsMaximalMatching limits (need_before_by key b batches number) slot = subst (λ (l : Limits). IsMaximalMatching l (need_before_by key b batches number) slot) same (every_slot_by key b batches number positive within) in
    let among = recorded_all (λ (batch : DemandBatch). AreAmong endpoints batch.entries) endpoints limits (λ earlier batch is. is.in_range) [] batches are in
    record {
      matching = whole.matching;
      maximal = whole.maximal;
      keeps = subst (λ (l : Limits). KeepsLimits l slot) same (every_slot_keeps_its_limits_by key b batches number);
      in_range = every_slot_in_range_by key endpoints b batches among (number - 1) [] (omega arith);
    }

-- ---- by the slot in which a flow was last served

pub may_be_applied : RecordedBatchesMayBeApplied
may_be_applied = may_be_applied_by last_served

pub later_may_be_applied : LaterBatchesMayBeApplied
later_may_be_applied = later_may_be_applied_by last_served

pub every_recorded_slot : EveryRecordedSlot
every_recorded_slot = every_recorded_slot_by last_served

pub AreRecordedAfter-more : (endpoints : ℕ) (limits : Limits) (before batches : List DemandBatch) (batch : DemandBatch) → AreRecordedAfter endpoints limits before batches →
    IsRecordedAfter endpoints limits (before ++ batches) batch → AreRecordedAfter endpoints limits before (batches ++ batch ∷ [])
AreRecordedAfter-more endpoints limits before [] batch are is = (subst (λ (xs : List DemandBatch). IsRecordedAfter endpoints limits xs batch) (append-nil before) is, tt)
AreRecordedAfter-more endpoints limits before (x ∷ batches) batch are is = (
  are.0,
  AreRecordedAfter-more endpoints limits (before ++ x ∷ []) batches batch are.1
      (subst (λ (xs : List DemandBatch). IsRecordedAfter endpoints limits xs batch) (sym (append_assoc before (x ∷ []) batches)) is),
)

pub first_need : (entry : Option Entry) → clears entry ≡ false → need_with entry 0 ≡ added_by entry
first_need None kept = refl
first_need (Some entry) kept = ap (λ (n : ℕ). n + entry.add) (cond-false {A = ℕ} entry.clear 0 0 kept) ∙ omega arith
