-- What of a window the ring was handed, part by part.
use Rattle.std.proofs.Common.{◌≡◌, ◌≢◌, ◌+◌, ◌-◌, ◌≤◌, ℕ, List, [], ◌∷◌, ◌++◌, length, take, drop, get_or, Bool, true, false, not, cond, Some, None, All, refl, sym, ap, ◌∙◌, subst, arith}
use Rattle.std.proofs.lemmas.Bool.{cond_both, cond-false, both_ways, false_from_ne_true}
use Rattle.std.proofs.lemmas.List.{append-nil, append_assoc, length-append, length-take-le, take_all}
use Rattle.std.proofs.lemmas.List.Sums.{sum_by-append}
use Rattle.std.proofs.lemmas.List.Elements.{All-nil, All-cons, All-head, All-tail, All-append, All-filter}
use Rattle.list_facts.proofs.Pairs.{AllPairs-head, AllPairs-tail}
use Rattle.greedy_rules.specs.declared.flows.Flow.{Flow}
use Rattle.greedy_rules.specs.declared.flows.Item.{Item}
use Rattle.greedy_rules.specs.Flows.{same_flow}
use Rattle.greedy_rules.specs.Batches.{DemandBatch, entry_of}
use Rattle.greedy_rules.specs.Slot.{has_flow}
use Rattle.greedy_rules.specs.Demands.{HasEachFlowOnce, item_of, need_in, need_with}
use Rattle.greedy_rules.specs.Allocation.{slots_of}
use Rattle.greedy_rules.specs.Balance.{EveryBatchBalances}
use Rattle.greedy_rules.specs.Fronts.{SchedulesGoOn}
use Rattle.greedy_rules.specs.Recorded.{MayBeApplied}
use Rattle.greedy_rules.specs.Schedule.{first_slot, slots_then, list_then, schedule_from, rest_from}
use Rattle.greedy_rules.proofs.Facts.{same_flow-true}
use Rattle.slot_batches.specs.Woven.{picked, HaveNoEntry}
use Rattle.window_allocation.specs.Handed.{HandedPart, slots_of_part, moved_by_part, batches_of, slots_over, moved_over, IsPassedEmpty, ComeOfRing}
use Rattle.window_allocation.specs.Runs.{IsPlayed, ArePlayed}
use Rattle.window_allocation.proofs.RunLemmas.{run_behind}

-- one part more, behind others
parts_and_one : (b k workers : ℕ) (list : List Item) (parts : List HandedPart) (part : HandedPart) (moved : List ℕ) → SchedulesGoOn
    → (batches_of (parts ++ part ∷ []) ≡ batches_of parts ++ part.batches)
    × (slots_over b k list (parts ++ part ∷ []) ≡ slots_over b k list parts ++ slots_of_part b (k + length (batches_of parts)) (rest_from b k list (batches_of parts)) part)
    × (moved_over b k workers list (parts ++ part ∷ []) moved
    ≡ moved_by_part b (k + length (batches_of parts)) workers (rest_from b k list (batches_of parts)) part (moved_over b k workers list parts moved))
parts_and_one b k workers list [] part moved on =
    let here : k ≡ k + 0 = omega arith in (
      append-nil part.batches,
      append-nil (slots_of_part b k list part) ∙ ap (λ (n : ℕ). slots_of_part b n list part) here,
      ap (λ (n : ℕ). moved_by_part b n workers list part moved) here,
    )
parts_and_one b k workers list (first ∷ parts) part moved on =
    let next : ℕ = k + length first.batches in
    let then : List Item = rest_from b k list first.batches in
    let raised : List ℕ = moved_by_part b k workers list first moved in
    let own : List (List Flow) = slots_of_part b k list first in
    let more = parts_and_one b next workers then parts part raised on in
    let count : next + length (batches_of parts) ≡ k + length (first.batches ++ batches_of parts) = omega (arith, length-append first.batches (batches_of parts)) in
    let left : rest_from b next then (batches_of parts) ≡ rest_from b k list (first.batches ++ batches_of parts) = sym (on b k list first.batches (batches_of parts)).1 in
    let last : List (List Flow) = slots_of_part b (next + length (batches_of parts)) (rest_from b next then (batches_of parts)) part in (
      ap (λ (ds : List DemandBatch). first.batches ++ ds) more.0 ∙ sym (append_assoc first.batches (batches_of parts) part.batches),
      ap (λ (xs : List (List Flow)). own ++ xs) more.1
          ∙ (sym (append_assoc own (slots_over b next then parts) last) ∙ (λ i. (own ++ slots_over b next then parts) ++ slots_of_part b (count i) (left i) part)),
      more.2 ∙ (λ i. moved_by_part b (count i) workers (left i) part (moved_over b next workers then parts raised)),
    )

pub none_played : (b k workers : ℕ) (found : List Item) (batches : List DemandBatch) (moved : List ℕ) → ArePlayed b k workers found (take 0 batches) moved moved
none_played b k workers found batches moved = record {
  parts = [];
  are = refl;
  passed = All-nil IsPassedEmpty;
  given = refl;
  moved = refl;
}

-- so many batches were played, and then a run of those behind them
pub played_on : (b k workers : ℕ) (found : List Item) (batches : List DemandBatch) (served n : ℕ) (list : List Item) (old mid new : List ℕ) → SchedulesGoOn → served ≤ length batches
    → list ≡ rest_from b k found (take served batches) → ArePlayed b k workers found (take served batches) old mid
    → IsPlayed b (k + served) workers list (take n (take (length batches - served) (drop served batches))) mid new → ArePlayed b k workers found (take (served + n) batches) old new
played_on b k workers found batches served n list old mid new on within list_is are one =
    let front : List DemandBatch = take served batches in
    let run : List DemandBatch = take n (take (length batches - served) (drop served batches)) in
    let long : length front ≡ served = length-take-le served batches within in
    let more = parts_and_one b k workers found are.parts one.part old on in
    let whole : front ++ run ≡ take (served + n) batches = sym (run_behind served n batches) in
    let here : k + length (batches_of are.parts) ≡ k + served = ap (λ (m : ℕ). k + m) (ap length are.are ∙ long) in
    let left : rest_from b k found (batches_of are.parts) ≡ list = ap (rest_from b k found) are.are ∙ sym list_is in
    let reached : List ℕ = moved_over b k workers found are.parts old in
    record {
      parts = are.parts ++ one.part ∷ [];
      are = more.0 ∙ ((λ i. are.are i ++ one.are i) ∙ whole);
      passed = All-append IsPassedEmpty are.parts (one.part ∷ []) are.passed (All-cons IsPassedEmpty one.part [] one.passed (All-nil IsPassedEmpty));
      given = more.1
          ∙ ((λ i. are.given i ++ slots_of_part b (here i) (left i) one.part)
          ∙ (ap (λ (xs : List (List Flow)). schedule_from b k found front ++ xs) one.given
          ∙ ((λ i. schedule_from b k found front ++ schedule_from b (k + sym long i) (list_is i) (one.are i))
          ∙ (sym (on b k found front run).0 ∙ ap (schedule_from b k found) whole))));
      moved = one.moved
          ∙ (ap (moved_by_part b (k + served) workers list one.part) are.moved
          ∙ ((λ i. moved_by_part b (sym here i) workers (sym left i) one.part reached) ∙ sym more.2));
    }

pub all_played : (b k workers : ℕ) (found : List Item) (batches : List DemandBatch) (served : ℕ) (old new : List ℕ) → length batches ≤ served → ArePlayed b k workers found (take served batches) old new
    → ArePlayed b k workers found batches old new
all_played b k workers found batches served old new all are = subst (λ (ds : List DemandBatch). ArePlayed b k workers found ds old new) (take_all served batches all) are

-- batches that were played over items of a window's list make its slots come of the ring, where these are the window's
pub come_of_ring : (b k workers : ℕ) (aside : Item → Bool) (list found : List Item) (batches : List DemandBatch) (slots : List (List Flow)) (old new : List ℕ) → ArePlayed b k workers found batches old new
    → found ≡ picked aside list → schedule_from b k found batches ≡ slots → All (λ item. aside item ≡ true → slots_of item.flow slots ≡ 0) list
    → ComeOfRing b k workers list batches slots old new
come_of_ring b k workers aside list found batches slots old new are picked_is slots_are none = record {
  tried = [];
  tries = All-nil (λ handed. (aside : Item → Bool) × _);
  handed = record { items = found; parts = are.parts };
  aside = aside;
  of_window = record { items = picked_is; whole = are.are; passed = are.passed };
  named = none;
  given = sym (are.given ∙ slots_are);
  moved = are.moved;
}

-- no item is set aside
pub all_picked : (list : List Item) → list ≡ picked (λ item. false) list
all_picked [] = refl
all_picked (item ∷ list) = ap (λ (xs : List Item). item ∷ xs) (all_picked list)

pub come_of_all : (b k workers : ℕ) (list : List Item) (batches : List DemandBatch) (old new : List ℕ) → ArePlayed b k workers list batches old new
    → ComeOfRing b k workers list batches (schedule_from b k list batches) old new
come_of_all b k workers list batches old new are =
    come_of_ring b k workers (λ item. false) list list batches (schedule_from b k list batches) old new are (all_picked list) refl (λ i d below out. absurd (both_ways _ refl out))

-- a window of no batch has no slots, and moves nothing
pub come_of_none : (b k workers : ℕ) (list : List Item) (slots : List (List Flow)) (moved : List ℕ) → slots ≡ [] → ComeOfRing b k workers list [] slots moved moved
come_of_none b k workers list slots moved none =
    subst (λ (xs : List (List Flow)). ComeOfRing b k workers list [] xs moved moved) (sym none) (come_of_all b k workers list [] moved moved (none_played b k workers list [] moved))

-- a flow that needs nothing, and has no entry in the batches, gets no slot of them
module _ (endpoints b : ℕ) (flow : Flow) (balances : EveryBatchBalances) where
  abbrev NoEntry : DemandBatch → Type 0
  NoEntry batch = entry_of batch.entries flow ≡ None

  gets_none : (k : ℕ) (list : List Item) (batches : List DemandBatch) → MayBeApplied endpoints b k list batches → need_in (item_of list flow) ≡ 0 → HaveNoEntry batches flow
      → slots_of flow (schedule_from b k list batches) ≡ 0
  gets_none k list [] may needs none = refl
  gets_none k list (batch ∷ batches) may needs none =
      let then : List Item = list_then b k batch list in
      let kept : need_in (item_of then flow) + slots_of flow (slots_then b k batch list) ≡ need_with (entry_of batch.entries flow) (need_in (item_of list flow)) =
      (balances batch.limits endpoints (first_slot b k) b batch.entries list may.0.rises may.0.opens may.0.once may.0.below).balance flow in
      let same : need_with (entry_of batch.entries flow) (need_in (item_of list flow)) ≡ need_in (item_of list flow) =
      ap (λ e. need_with e (need_in (item_of list flow))) (All-head NoEntry batch batches none) in
      let later = gets_none (k + 1) then batches may.1 (omega (arith, kept, same, needs)) (All-tail NoEntry batch batches none) in
      omega (arith, kept, same, needs, later, sum_by-append (λ (slot : List Flow). cond (has_flow slot flow) 1 0) (slots_then b k batch list) (schedule_from b (k + 1) then batches))

-- no item of another flow is the flow's
pub none_of : (list : List Item) (flow : Flow) → All (λ x. flow ≢ x.flow) list → item_of list flow ≡ None
none_of [] flow others = refl
none_of (item ∷ list) flow others =
    let Other : Item → Type 0 = λ x. flow ≢ x.flow in
    cond-false (same_flow item.flow flow) (Some item) (item_of list flow) (false_from_ne_true _ (λ same. All-head Other item list others (sym (same_flow-true item.flow flow same))))
    ∙ none_of list flow (All-tail Other item list others)

-- an item that is set aside is not among the others
module _ (aside : Item → Bool) where
  abbrev IsGone : List Item → Item → Type 0
  IsGone list item = aside item ≡ true → item_of (picked aside list) item.flow ≡ None

  gone : (list : List Item) → HasEachFlowOnce list → All (IsGone list) list
  gone [] once = All-nil (IsGone [])
  gone (item ∷ list) once =
      let Other : Item → Item → Type 0 = λ i j. i.flow ≢ j.flow in
      let others = AllPairs-head Other item list once in
      let later = gone list (AllPairs-tail Other item list once) in
      let found : List Item = picked aside list in
      All-cons (IsGone (item ∷ list)) item list
      (λ out. cond_both (not (aside item)) (item ∷ found) found (λ xs. item_of xs item.flow ≡ None) (λ stays. absurd (both_ways _ (ap not out) stays))
      (λ _. none_of found item.flow (All-filter (λ x. not (aside x)) (Other item) list others)))
      (λ i d below out.
      let x : Item = get_or list i d in
      cond_both (not (aside item)) (item ∷ found) found (λ xs. item_of xs x.flow ≡ None)
      (λ _. cond-false (same_flow item.flow x.flow) (Some item) (item_of found x.flow) (false_from_ne_true _ (λ same. others i d below (same_flow-true item.flow x.flow same))) ∙ later i d below out)
      (λ _. later i d below out))

  pub none_named : (endpoints b k : ℕ) (list : List Item) (batches : List DemandBatch) → EveryBatchBalances → HasEachFlowOnce list → MayBeApplied endpoints b k (picked aside list) batches
      → All (λ item. aside item ≡ true → HaveNoEntry batches item.flow) list → All (λ item. aside item ≡ true → slots_of item.flow (schedule_from b k (picked aside list) batches) ≡ 0) list
  none_named endpoints b k list batches balances once may none i d below out =
      let flow : Flow = (get_or list i d).flow in
      gets_none endpoints b flow balances k (picked aside list) batches may (ap need_in (gone list once i d below out)) (none i d below out)
