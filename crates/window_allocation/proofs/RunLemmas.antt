-- The batches of a window, run by run.
use Rattle.std.proofs.Common.{◌≡◌, ◌<◌, ◌≤◌, ◌+◌, ◌-◌, ◌*◌, ◌^◌, ℕ, List, [], ◌∷◌, ◌++◌, length, take, drop, replicate, refl, sym, ap, ◌∙◌, subst, arith}
use Rattle.std.proofs.lemmas.Nat.{mul-le}
use Rattle.std.proofs.lemmas.List.{length-append, length-drop, length-replicate, length-take-le, take_all, take_at, drop_at, take-append-drop}
use Rattle.std.proofs.lemmas.List.Elements.{All-take}
use Rattle.list_facts.proofs.Lists.{take_on}
use Rattle.greedy_rules.specs.declared.flows.Flow.{Flow}
use Rattle.greedy_rules.specs.declared.flows.Item.{Item}
use Rattle.greedy_rules.specs.Batches.{DemandBatch}
use Rattle.greedy_rules.specs.Demands.{AreBelow, opened}
use Rattle.greedy_rules.specs.Limits.{is_barred}
use Rattle.greedy_rules.specs.Schedule.{first_slot, list_then, schedule_from, rest_from}
use Rattle.greedy_rules.specs.Fronts.{SchedulesGoOn, EveryBatchHasItsSlots}
use Rattle.greedy_rules.specs.Recorded.{MayBeApplied}
use Rattle.greedy_rules.specs.Room.{FlowsFitPairs}
use Rattle.alloc_pipeline.specs.Ring.{pairs_of}
use Rattle.alloc_pipeline.proofs.RingLemmas.{left_before}
use Rattle.slot_batches.specs.NextList.{IsListBefore, EveryBatchLeavesAList, EveryBatchKeepsItsFlows}

-- a list to which a batch may be applied has at most an item for each flow between the endpoints
pub few_items : (endpoints b k : ℕ) (list : List Item) (batches : List DemandBatch) → FlowsFitPairs → 0 < length batches → MayBeApplied endpoints b k list batches → length list ≤ pairs_of endpoints
few_items endpoints b k list [] pairs some may = absurd (omega arith)
few_items endpoints b k list (batch ∷ batches) pairs some may =
    let applies = may.0 in
    let fit = pairs endpoints batch.entries list applies.rises applies.opens applies.once applies.below applies.apart in
    omega (arith, fit)

-- and its flows are between the endpoints
pub below_endpoints : (endpoints b k : ℕ) (list : List Item) (batches : List DemandBatch) → 0 < length batches → MayBeApplied endpoints b k list batches → AreBelow endpoints list
below_endpoints endpoints b k list [] some may = absurd (omega arith)
below_endpoints endpoints b k list (batch ∷ batches) some may =
    subst (AreBelow endpoints) (take_at list (opened batch.entries) (length list) refl)
    (All-take (λ (item : Item). (item.flow.src < endpoints) × (item.flow.dst < endpoints)) (length list) (list ++ opened batch.entries) may.0.below)

-- lists only grow
lists_grow : (b k : ℕ) (list : List Item) (batches : List DemandBatch) → EveryBatchKeepsItsFlows → length list ≤ length (rest_from b k list batches)
lists_grow b k list [] keeps = omega arith
lists_grow b k list (batch ∷ batches) keeps =
    omega (arith, keeps (is_barred batch.limits) (first_slot b k) b batch.entries list, lists_grow b (k + 1) (list_then b k batch list) batches keeps)

-- the first batches may be applied, and the others to what these leave
may_front : (endpoints b k : ℕ) (list : List Item) (front later : List DemandBatch) → MayBeApplied endpoints b k list (front ++ later) → MayBeApplied endpoints b k list front
may_front endpoints b k list [] later may = tt
may_front endpoints b k list (batch ∷ front) later may = (may.0, may_front endpoints b (k + 1) (list_then b k batch list) front later may.1)

may_later : (endpoints b k : ℕ) (list : List Item) (front later : List DemandBatch) → MayBeApplied endpoints b k list (front ++ later) → MayBeApplied endpoints b (k + length front) (rest_from b k list front) later
may_later endpoints b k list [] later may = let here : k ≡ k + 0 = omega arith in subst (λ (n : ℕ). MayBeApplied endpoints b n list later) here may
may_later endpoints b k list (batch ∷ front) later may =
    let then : List Item = list_then b k batch list in
    let number : k + 1 + length front ≡ k + length (batch ∷ front) = omega arith in
    subst (λ (n : ℕ). MayBeApplied endpoints b n (rest_from b (k + 1) then front) later) number (may_later endpoints b (k + 1) then front later may.1)

-- a run of the batches at the front
pub run_may : (endpoints b k n : ℕ) (list : List Item) (batches : List DemandBatch) → MayBeApplied endpoints b k list batches → MayBeApplied endpoints b k list (take n batches)
run_may endpoints b k n list batches may = may_front endpoints b k list (take n batches) (drop n batches) (subst (MayBeApplied endpoints b k list) (sym (take-append-drop n batches)) may)

pub run_room : (b k n : ℕ) (list : List Item) (batches : List DemandBatch) → SchedulesGoOn → EveryBatchKeepsItsFlows → length (rest_from b k list (take n batches)) ≤ length (rest_from b k list batches)
run_room b k n list batches on keeps =
    let front : List DemandBatch = take n batches in
    let later : List DemandBatch = drop n batches in
    let whole : rest_from b k list (front ++ later) ≡ rest_from b k list batches = ap (rest_from b k list) (take-append-drop n batches) in
    omega (arith, ap length whole, ap length (on b k list front later).1, lists_grow b (k + length front) (rest_from b k list front) later keeps)

-- what a window finds and has room for
pub record IsWindow (endpoints b k : ℕ) (found : List Item) (batches : List DemandBatch) (total room : ℕ) : Type 0 where
  pub may : MayBeApplied endpoints b k found batches
  pub before : IsListBefore (first_slot b k) found
  pub numbers : first_slot b (k + length batches) ≤ 2 ^ 32
  pub list_fits : length (rest_from b k found batches) ≤ room
  pub places : length batches * b ≤ total

-- so many of its batches have their slots, and the list is what these leave
pub record AreServed (b k : ℕ) (found : List Item) (batches : List DemandBatch) (total served : ℕ) (list : List Item) (slots : List (List Flow)) : Type 0 where
  pub within : served ≤ length batches
  pub list_is : list ≡ rest_from b k found (take served batches)
  pub slots_are : slots ≡ schedule_from b k found (take served batches) ++ replicate (total - served * b) []

pub none_served : (b k : ℕ) (found : List Item) (batches : List DemandBatch) (total : ℕ) (slots : List (List Flow)) → slots ≡ replicate total [] → AreServed b k found batches total 0 found slots
none_served b k found batches total slots empty =
    let none : List Flow = [] in
    let all : total ≡ total - 0 * b = omega arith in
    record {
      within = omega arith;
      list_is = refl;
      slots_are = empty ∙ ap (λ (n : ℕ). replicate n none) all;
    }

pub all_served : (b k : ℕ) (found : List Item) (batches : List DemandBatch) (total served : ℕ) (list : List Item) (slots : List (List Flow)) → AreServed b k found batches total served list slots → length batches ≤ served
    → (list ≡ rest_from b k found batches) × (slots ≡ schedule_from b k found batches ++ replicate (total - length batches * b) [])
all_served b k found batches total served list slots are all =
    let none : List Flow = [] in
    let whole : take served batches ≡ batches = take_all served batches all in
    let count : served ≡ length batches = omega (arith, all, are.within) in (
      are.list_is ∙ ap (rest_from b k found) whole,
      are.slots_are ∙ (λ i. schedule_from b k found (whole i) ++ replicate (total - count i * b) none),
    )

-- the slots of those that were served, and the places behind them
record StandFirst (b k : ℕ) (found : List Item) (batches : List DemandBatch) (total served : ℕ) (slots : List (List Flow)) : Type 0 where
  total_is : length slots ≡ total
  first : take (served * b) slots ≡ schedule_from b k found (take served batches)
  empty : drop (served * b) slots ≡ replicate (length slots - served * b) []

stand_first : (b k : ℕ) (found : List Item) (batches : List DemandBatch) (total served : ℕ) (list : List Item) (slots : List (List Flow)) → EveryBatchHasItsSlots → length batches * b ≤ total → AreServed b k found batches total served list slots → StandFirst b k found batches total served slots
stand_first b k found batches total served list slots counts places are =
    let none : List Flow = [] in
    let front : List DemandBatch = take served batches in
    let first : List (List Flow) = schedule_from b k found front in
    let rest : List (List Flow) = replicate (total - served * b) none in
    let long : length first ≡ served * b = counts b k found front ∙ ap (λ (n : ℕ). n * b) (length-take-le served batches are.within) in
    let fits : served * b ≤ total = omega (arith, mul-le served b (length batches) b are.within (omega arith), places) in
    let total_is : length slots ≡ total = omega (arith, ap length are.slots_are, length-append first rest, length-replicate (total - served * b) none, long, fits) in
    record {
      total_is = total_is;
      first = ap (take (served * b)) are.slots_are ∙ take_at first rest (served * b) long;
      empty = ap (drop (served * b)) are.slots_are ∙ (drop_at first rest (served * b) long ∙ ap (λ (n : ℕ). replicate (n - served * b) none) (sym total_is));
    }

-- a run of those behind the first
pub run_behind : (served n : ℕ) (batches : List DemandBatch) → take (served + n) batches ≡ take served batches ++ take n (take (length batches - served) (drop served batches))
run_behind served n batches =
    let later_is : take (length batches - served) (drop served batches) ≡ drop served batches = take_all (length batches - served) (drop served batches) (omega (arith, length-drop served batches)) in
    take_on served n batches ∙ ap (λ (ds : List DemandBatch). take served batches ++ take n ds) (sym later_is)

-- the others go on where those that were served stop
pub record GoOn (endpoints b k : ℕ) (found : List Item) (batches later : List DemandBatch) (total served : ℕ) (list : List Item) (slots : List (List Flow)) : Type 0 where
  pub number : served + length later ≡ length batches
  pub may : MayBeApplied endpoints b (k + served) list later
  pub before : IsListBefore (first_slot b (k + served)) list
  pub rest : rest_from b (k + served) list later ≡ rest_from b k found batches
  pub total_is : length slots ≡ total
  pub empty : drop (served * b) slots ≡ replicate (length slots - served * b) []

pub go_on : (endpoints b k : ℕ) (found : List Item) (batches : List DemandBatch) (total room served : ℕ) (list : List Item) (slots : List (List Flow)) → SchedulesGoOn → EveryBatchHasItsSlots → EveryBatchLeavesAList
    → IsWindow endpoints b k found batches total room → AreServed b k found batches total served list slots → GoOn endpoints b k found batches (take (length batches - served) (drop served batches)) total served list slots
go_on endpoints b k found batches total room served list slots on counts leaves window are =
    let front : List DemandBatch = take served batches in
    let later : List DemandBatch = take (length batches - served) (drop served batches) in
    let left : List Item = rest_from b k found front in
    let later_is : later ≡ drop served batches = take_all (length batches - served) (drop served batches) (omega (arith, length-drop served batches)) in
    let whole : front ++ later ≡ batches = ap (λ (ds : List DemandBatch). front ++ ds) later_is ∙ take-append-drop served batches in
    let long : length front ≡ served = length-take-le served batches are.within in
    let may : MayBeApplied endpoints b k found (front ++ later) = subst (MayBeApplied endpoints b k found) (sym whole) window.may in
    let first = stand_first b k found batches total served list slots counts window.places are in
    record {
      number = omega (arith, ap length later_is, length-drop served batches, are.within);
      may = subst (λ (n : ℕ). MayBeApplied endpoints b (k + n) list later) long (subst (λ (l : List Item). MayBeApplied endpoints b (k + length front) l later) (sym are.list_is) (may_later endpoints b k found front later may));
      before = subst (λ (n : ℕ). IsListBefore (first_slot b (k + n)) list) long
          (subst (IsListBefore (first_slot b (k + length front))) (sym are.list_is) (left_before endpoints b k found front leaves (may_front endpoints b k found front later may) window.before));
      rest = (λ i. rest_from b (k + sym long i) (are.list_is i) later) ∙ (sym (on b k found front later).1 ∙ ap (rest_from b k found) whole);
      total_is = first.total_is;
      empty = first.empty;
    }

-- a run of them is served
pub run_served : (b k : ℕ) (found : List Item) (batches : List DemandBatch) (total served n : ℕ) (list now : List Item) (slots filled : List (List Flow)) → SchedulesGoOn → EveryBatchHasItsSlots → length batches * b ≤ total
    → AreServed b k found batches total served list slots → n ≤ length (take (length batches - served) (drop served batches)) → now ≡ rest_from b (k + served) list (take n (take (length batches - served) (drop served batches)))
    → filled ≡ (take (served * b) slots ++ schedule_from b (k + served) list (take n (take (length batches - served) (drop served batches)))) ++ replicate (length slots - (served + n) * b) []
    → AreServed b k found batches total (served + n) now filled
run_served b k found batches total served n list now slots filled on counts places are few now_is filled_is =
    let none : List Flow = [] in
    let front : List DemandBatch = take served batches in
    let later : List DemandBatch = take (length batches - served) (drop served batches) in
    let run : List DemandBatch = take n later in
    let later_is : later ≡ drop served batches = take_all (length batches - served) (drop served batches) (omega (arith, length-drop served batches)) in
    let whole : take (served + n) batches ≡ front ++ run = run_behind served n batches in
    let long : length front ≡ served = length-take-le served batches are.within in
    let first = stand_first b k found batches total served list slots counts places are in
    let slots_then : schedule_from b k found (take (served + n) batches) ≡ schedule_from b k found front ++ schedule_from b (k + served) list run =
    ap (schedule_from b k found) whole ∙ ((on b k found front run).0 ∙ (λ i. schedule_from b k found front ++ schedule_from b (k + long i) (sym are.list_is i) run)) in
    let list_on : rest_from b k found (take (served + n) batches) ≡ rest_from b (k + served) list run =
    ap (rest_from b k found) whole ∙ ((on b k found front run).1 ∙ (λ i. rest_from b (k + long i) (sym are.list_is i) run)) in
    record {
      within = omega (arith, few, ap length later_is, length-drop served batches, are.within);
      list_is = now_is ∙ sym list_on;
      slots_are = filled_is
          ∙ ((λ i. (first.first i ++ schedule_from b (k + served) list run) ++ replicate (first.total_is i - (served + n) * b) none)
          ∙ ap (λ (xs : List (List Flow)). xs ++ replicate (total - (served + n) * b) none) (sym slots_then));
    }
