-- A window over the items that were picked by a guess.
use Rattle.std.proofs.Common.{◌≡◌, ◌<◌, ◌≤◌, ◌+◌, ◌-◌, ◌*◌, ◌^◌, ℕ, List, [], ◌∷◌, ◌++◌, length, take, drop, replicate, Bool, All, true, false, not, refl, sym, ap, ◌∙◌, subst, arith}
use Rattle.std.proofs.lemmas.Bool.{both_ways}
use Rattle.std.proofs.lemmas.List.{length-append, length-replicate, take-append-le, drop-append-le, length-drop}
use Rattle.std.proofs.lemmas.List.Elements.{All-nil, All-cons}
use Rattle.greedy_rules.specs.declared.flows.Flow.{Flow}
use Rattle.greedy_rules.specs.declared.flows.Item.{Item}
use Rattle.greedy_rules.specs.Batches.{DemandBatch}
use Rattle.greedy_rules.specs.Demands.{Demands}
use Rattle.greedy_rules.specs.Schedule.{first_slot, schedule_from, rest_from}
use Rattle.greedy_rules.specs.SlotTable.{Slots}
use Rattle.greedy_rules.specs.Fronts.{EveryBatchHasItsSlots}
use Rattle.greedy_rules.specs.Recorded.{MayBeApplied}
use Rattle.greedy_rules.specs.Room.{FlowsFitPairs}
use Rattle.greedy_rules.specs.Limits.{is_barred}
use Rattle.greedy_rules.proofs.TableLemmas.{next_row}
use Rattle.slot_batches.specs.Marks.{WindowMarks, has_mark}
use Rattle.slot_batches.specs.Woven.{picked, places_from, OnlyOpen, HaveNoEntry, ListedFlowsAreOpen}
use Rattle.slot_batches.specs.Beyond.{HaveRivals, AreBarredInSlots, ItemsBarredInSlotsMayBeSetAside}
use Rattle.slot_batches.specs.NextList.{IsListBefore, EveryBatchKeepsItsFlows}
use Rattle.slot_batches.proofs.SetAside.{still_before}
use Rattle.alloc_pipeline.specs.Ring.{RingWork, IsSameRingWork, MayAllocate}
use Rattle.window_allocation.specs.Handed.{Handed, IsOfWindow, ComeOfRing, moved_over}
use Rattle.window_allocation.specs.Picked.{IsReached}
use Rattle.window_allocation.specs.Reach.{OpenNew, AreOut}
use Rattle.window_allocation.specs.Ready.{AnyPartMayBeApplied}
use Rattle.window_allocation.specs.Runs.{GivesSlots, ArePlayed}
use Rattle.window_allocation.proofs.HandedLemmas.{all_picked}
use Rattle.window_allocation.proofs.PickedLemmas.{IsPicked, picked_by, few_rest}
use Rattle.window_allocation.proofs.PartLemmas.{opens_new}
use Rattle.window_allocation.proofs.ReachLemmas.{barred_from}

-- who was not picked has no entry
pub reached_no_entries : (endpoints b first : ℕ) (marks : WindowMarks) (list found : List Item) (places : List ℕ) (batches : List DemandBatch) → ListedFlowsAreOpen → MayBeApplied endpoints b first list batches
    → ((flow : Flow) → has_mark marks flow ≡ false → OnlyOpen batches flow) → (reached : IsReached marks list found places) → All (λ item. reached.aside item ≡ true → HaveNoEntry batches item.flow) list
reached_no_entries endpoints b first marks list found places batches listed may unmarked reached = λ i d below out.
    listed endpoints b first list batches may i d below (unmarked _ (reached.unmarked i d below out))

-- the batches may run over those that were picked
pub record MayRun (endpoints b first : ℕ) (found : List Item) (batches : List DemandBatch) : Type 0 where
  pub may : MayBeApplied endpoints b first found batches
  pub before : IsListBefore (first_slot b first) found
  pub few : length (rest_from b first found batches) ≤ endpoints * endpoints

pub may_run : (endpoints b first : ℕ) (marks : WindowMarks) (list found : List Item) (places : List ℕ) (batches : List DemandBatch) → FlowsFitPairs → EveryBatchKeepsItsFlows → ListedFlowsAreOpen → 0 < length batches
    → MayBeApplied endpoints b first list batches → IsListBefore (first_slot b first) list → AnyPartMayBeApplied endpoints b first list batches → ((flow : Flow) → has_mark marks flow ≡ false → OnlyOpen batches flow)
    → IsReached marks list found places → MayRun endpoints b first found batches
may_run endpoints b first marks list found places batches fit flows listed some may before parts unmarked reached =
    let none = reached_no_entries endpoints b first marks list found places batches listed may unmarked reached in
    let may_found : MayBeApplied endpoints b first found batches = subst (λ (xs : List Item). MayBeApplied endpoints b first xs batches) (sym reached.are) (parts reached.aside none) in
    record {
      may = may_found;
      before = subst (IsListBefore (first_slot b first)) (sym reached.are) (still_before (first_slot b first) (λ item. not (reached.aside item)) list before);
      few = few_rest endpoints b fit flows first found batches some may_found;
    }

-- only the slots of the batches are looked at
barred_in_front : (aside : Item → Bool) (list : List Item) (b : ℕ) (earlier slots more : List (List Flow)) (batches : List DemandBatch) → length batches * b ≤ length slots → AreBarredInSlots aside list b earlier (slots ++ more) batches
    → AreBarredInSlots aside list b earlier slots batches
barred_in_front aside list b earlier slots more [] fits barred = tt
barred_in_front aside list b earlier slots more (batch ∷ batches) fits barred =
    let count : length (batch ∷ batches) * b ≡ length batches * b + b = (let one : length (batch ∷ batches) ≡ length batches + 1 = omega arith in ap (λ (n : ℕ). n * b) one ∙ next_row (length batches) b) in
    let inside : b ≤ length slots = omega (arith, count, fits) in
    let front : take b (slots ++ more) ≡ take b slots = take-append-le b slots more inside in
    let back : drop b (slots ++ more) ≡ drop b slots ++ more = drop-append-le b slots more inside in (
      subst (λ (xs : List (List Flow)). HaveRivals (is_barred batch.limits) aside list earlier xs (λ flow. false) list) front barred.0,
      barred_in_front aside list b (earlier ++ take b slots) (drop b slots) more batches (omega (arith, length-drop b slots, count, fits))
          (subst (λ (xs : List (List Flow)). AreBarredInSlots aside list b (earlier ++ xs) (drop b slots ++ more) batches) front
          (subst (λ (xs : List (List Flow)). AreBarredInSlots aside list b (earlier ++ take b (slots ++ more)) xs batches) back barred.1)),
    )

-- where the test answers yes
pub reached_window : (endpoints b first : ℕ) (marks : WindowMarks) (list found : List Item) (places : List ℕ) (batches : List DemandBatch) (slots more : List (List Flow)) → FlowsFitPairs → EveryBatchKeepsItsFlows
    → EveryBatchHasItsSlots → ListedFlowsAreOpen → ItemsBarredInSlotsMayBeSetAside → 0 < length batches → MayBeApplied endpoints b first list batches → IsListBefore (first_slot b first) list
    → ((flow : Flow) → has_mark marks flow ≡ false → OnlyOpen batches flow) → (reached : IsReached marks list found places) → slots ≡ schedule_from b first found batches ++ more
    → AreOut b (length batches * b) slots list reached.aside (λ flow. false) list → IsPicked endpoints b first reached.aside list found batches
reached_window endpoints b first marks list found places batches slots more fit flows counts listed law some may before unmarked reached slots_are out =
    let aside = reached.aside in
    let none = reached_no_entries endpoints b first marks list found places batches listed may unmarked reached in
    let full : List (List Flow) = schedule_from b first found batches in
    let size : length full ≡ length batches * b = counts b first found batches in
    let long : length batches * b ≤ length slots = omega (arith, ap length slots_are, length-append full more, size) in
    let zero_is : 0 * b ≡ 0 = omega arith in
    let number : (0 + length batches) * b ≤ length batches * b = (let same : 0 + length batches ≡ length batches = omega arith in subst (λ (n : ℕ). n * b ≤ length batches * b) (sym same) (omega arith)) in
    let barred : AreBarredInSlots aside list b [] slots batches =
    subst (λ (n : ℕ). AreBarredInSlots aside list b (take n slots) (drop n slots) batches) zero_is (barred_from b (length batches * b) slots list aside 0 batches number long out) in
    let in_full : AreBarredInSlots aside list b [] full batches =
    barred_in_front aside list b [] full more batches (omega (arith, size)) (subst (λ (xs : List (List Flow)). AreBarredInSlots aside list b [] xs batches) slots_are barred) in
    picked_by endpoints b first aside list found batches fit flows some may before none
    (law endpoints b first aside list batches before may none (subst (λ (xs : List Item). AreBarredInSlots aside list b [] (schedule_from b first xs batches) batches) reached.are in_full)) reached.are

-- the same, as the code has it
pub tested_window : (endpoints b size first : ℕ) (marks : WindowMarks) (list items found : List Item) (places : List ℕ) (batches : List DemandBatch) (slots more : List (List Flow)) → FlowsFitPairs → EveryBatchKeepsItsFlows
    → EveryBatchHasItsSlots → ListedFlowsAreOpen → ItemsBarredInSlotsMayBeSetAside → 0 < length batches → MayBeApplied endpoints b first list batches → IsListBefore (first_slot b first) list
    → ((flow : Flow) → has_mark marks flow ≡ false → OnlyOpen batches flow) → (reached : IsReached marks list found places) → items ≡ list → size ≡ b → slots ≡ schedule_from b first found batches ++ more
    → ((aside : Item → Bool) → places ≡ places_from aside 0 items → OpenNew items batches → AreOut size (length batches * size) slots items aside (λ flow. false) items)
    → IsPicked endpoints b first reached.aside list found batches
tested_window endpoints b size first marks list items found places batches slots more fit flows counts listed law some may before unmarked reached items_are size_is slots_are out =
    let aside = reached.aside in
    let there : AreOut size (length batches * size) slots items aside (λ flow. false) items =
    out aside (reached.at ∙ ap (places_from aside 0) (sym items_are)) (subst (λ (xs : List Item). OpenNew xs batches) (sym items_are) (opens_new endpoints b first list batches may)) in
    reached_window endpoints b first marks list found places batches slots more fit flows counts listed law some may before unmarked reached slots_are
    (subst (λ (m : ℕ). AreOut m (length batches * m) slots list aside (λ flow. false) list) size_is (subst (λ (xs : List Item). AreOut size (length batches * size) slots xs aside (λ flow. false) xs) items_are there))

-- ---- the whole list after all

-- a table of the batches' slots is as long as it was
pub as_long : (b n total : ℕ) (full slots : List (List Flow)) → length full ≡ n * b → n * b ≤ total → slots ≡ full ++ replicate (total - n * b) [] → length slots ≡ total
as_long b n total full slots size fits is =
    let none : List Flow = [] in
    omega (arith, ap length is, length-append full (replicate (total - n * b) none), length-replicate (total - n * b) none, size, fits)

pub may_again : (old mid : RingWork) (first : ℕ) (list : Demands) (batches : List DemandBatch) (out now : Slots) → IsSameRingWork old mid → now.endpoints ≡ out.endpoints → length now.slots ≡ length out.slots
    → MayAllocate old first list batches out → MayAllocate mid first list batches now
may_again old mid first list batches out now same endpoints long may = record {
  count = omega (arith, may.count, same.batches);
  may = subst (λ (n : ℕ). MayBeApplied n mid.b first list.items batches) (sym same.endpoints) (subst (λ (m : ℕ). MayBeApplied old.endpoints m first list.items batches) (sym same.b) may.may);
  before = subst (λ (m : ℕ). IsListBefore (first_slot m first) list.items) (sym same.b) may.before;
  numbers = subst (λ (m : ℕ). first_slot m (first + length batches) ≤ 2 ^ 32) (sym same.b) may.numbers;
  fits = rw same.endpoints may.fits;
  room = rw same.b may.room;
  serves = omega (arith, may.serves, same.endpoints, endpoints);
  places = rw (same.b, long) may.places;
}

pub gives_again : (old mid new : RingWork) (first : ℕ) (list list_new : Demands) (batches : List DemandBatch) (out now out_new : Slots) → IsSameRingWork old mid → now.endpoints ≡ out.endpoints → length now.slots ≡ length out.slots
    → GivesSlots mid new first list list_new batches now out_new → GivesSlots old new first list list_new batches out out_new
gives_again old mid new first list list_new batches out now out_new same endpoints long gives =
    let none : List Flow = [] in
    record {
      list = gives.list ∙ ap (λ (m : ℕ). rest_from m first list.items batches) same.b;
      spare = gives.spare;
      next = subst (λ (m : ℕ). IsListBefore (first_slot m (first + length batches)) list_new.items) same.b gives.next;
      slots = gives.slots ∙ (λ i. schedule_from (same.b i) first list.items batches ++ replicate (long i - length batches * same.b i) none);
      endpoints = gives.endpoints ∙ endpoints;
      same = record {
        workers = gives.same.workers ∙ same.workers;
        endpoints = gives.same.endpoints ∙ same.endpoints;
        batches = gives.same.batches ∙ same.batches;
        b = gives.same.b ∙ same.b;
        spare = gives.same.spare ∙ same.spare;
      };
    }

-- what was tried, and then the whole list
pub come_after : (b k workers b_then workers_then : ℕ) (aside : Item → Bool) (list found : List Item) (batches : List DemandBatch) (old mid new : List ℕ) → b_then ≡ b → workers_then ≡ workers → ArePlayed b k workers found batches old mid
    → found ≡ picked aside list → ArePlayed b_then k workers_then list batches mid new → ComeOfRing b k workers list batches (schedule_from b k list batches) old new
come_after b k workers b_then workers_then aside list found batches old mid new same_b same_workers first picked_is then =
    let Tried : Handed → Type 0 = λ handed. (aside : Item → Bool) × IsOfWindow list batches aside handed in
    let second : ArePlayed b k workers list batches mid new =
    subst (λ (n : ℕ). ArePlayed b k n list batches mid new) same_workers (subst (λ (m : ℕ). ArePlayed m k workers_then list batches mid new) same_b then) in
    record {
      tried = record { items = found; parts = first.parts } ∷ [];
      tries = All-cons Tried (record { items = found; parts = first.parts }) [] (aside, record { items = picked_is; whole = first.are; passed = first.passed }) (All-nil Tried);
      handed = record { items = list; parts = second.parts };
      aside = λ item. false;
      of_window = record { items = all_picked list; whole = second.are; passed = second.passed };
      named = λ i d below out. absurd (both_ways _ refl out);
      given = sym second.given;
      moved = second.moved ∙ ap (moved_over b k workers list second.parts) first.moved;
    }
