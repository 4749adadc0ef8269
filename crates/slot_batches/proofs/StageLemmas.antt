-- What a stage takes up, as its items are fed.
use Rattle.std.proofs.Common.{◌≡◌, ◌≢◌, ◌<◌, ◌≤◌, ◌+◌, ℕ, List, [], ◌∷◌, ◌++◌, length, map, take, drop, Bool, true, false, not, ◌&&◌, ◌||◌, cond, Some, IsTrue, All, AllPairs, refl, sym, ap, ◌∙◌, subst, arith, inl, inr}
use Rattle.std.specs.Prelude.{slice_get}
use Rattle.std.proofs.lemmas.Bool.{cases_Bool, cond-true, cond-false, and_right}
use Rattle.std.proofs.lemmas.List.{append_assoc, take-append-drop, take-take, take_all}
use Rattle.std.proofs.lemmas.List.Elements.{All-append, All-map, All-weaker}
use Rattle.greedy_rules.specs.declared.flows.Item.{Item}
use Rattle.greedy_rules.specs.declared.flows.Entry.{Entry}
use Rattle.greedy_rules.specs.declared.limits.Limits.{Limits}
use Rattle.greedy_rules.specs.Batches.{IsBatch}
use Rattle.greedy_rules.specs.Demands.{AreBelow, with_batch, opened, after_batch}
use Rattle.list_facts.proofs.Pairs.{AllPairs-append, AllPairs-nil, AllPairs-cons, AllPairs-head, AllPairs-tail}
use Rattle.list_facts.proofs.Lists.{All-front}
use Rattle.greedy_rules.proofs.Facts.{opened-append, opened_more, InRange, All-opened, once-sort_by, once-map, once-opened, below-after_batch}
use Rattle.greedy_rules.proofs.OnceLemmas.{Other}
use Rattle.slot_batches.specs.Feeding.{was_served, has_served, taken_up}
use Rattle.slot_batches.specs.declared.filling.Filling.{Filling}
use Rattle.slot_batches.specs.Filled.{MayBeTakenUp}
use Rattle.slot_batches.specs.Parts.{IsSameBatch}
use Rattle.slot_batches.specs.ArrayStands.{OpensOthers, MayBeFed}
use Rattle.slot_batches.proofs.NextList.{lasts-after_batch}
use Rattle.slot_batches.proofs.OpenedFlows.{taken_up_all, taken_up_more, taken_up_end, taken_up_plainly, has_served_more}

pub AllPairs-front : {X : Type 0} (R : X → X → Type 0) (xs ys : List X) → AllPairs R (xs ++ ys) → AllPairs R xs
AllPairs-front R [] ys pairs = AllPairs-nil R
AllPairs-front R (x ∷ xs) ys pairs =
    AllPairs-cons R x xs (All-front (R x) xs ys (AllPairs-head R x (xs ++ ys) pairs)) (AllPairs-front R xs ys (AllPairs-tail R x (xs ++ ys) pairs))

-- the front of what may be taken up
pub may_front : (endpoints number : ℕ) (xs ys : List Item) → MayBeTakenUp endpoints number (xs ++ ys) → MayBeTakenUp endpoints number xs
may_front endpoints number xs ys may = record {
  once = AllPairs-front Other xs ys may.once;
  in_range = All-front (InRange endpoints) xs ys may.in_range;
  below = All-front (λ item. item.last < number) xs ys may.below;
}

-- the flow of an entry is among those that open
opened_front : (entries at : ℕ) (batch : List Entry) (entry : Entry) → at < entries → at < length batch → slice_get batch at ≡ Some entry
    → (rest : List Item) × (opened (take entries batch) ≡ (opened (take at batch) ++ opened (entry ∷ [])) ++ rest)
opened_front entries at batch entry before below here =
    let later : List Entry = drop (at + 1) (take entries batch) in (
      opened later,
      ap opened (sym (take-append-drop (at + 1) (take entries batch)) ∙ ap (λ (es : List Entry). es ++ later) (take-take (at + 1) entries batch (omega arith)))
          ∙ (opened-append (take (at + 1) batch) later ∙ ap (λ (xs : List Item). xs ++ opened later) (opened_more batch at entry below here)),
    )

-- so it may be taken up
pub may_open : (endpoints number entries at : ℕ) (batch : List Entry) (entry : Entry) (taken : List Item) → at < entries → at < length batch → slice_get batch at ≡ Some entry
    → MayBeTakenUp endpoints number (taken ++ opened (take entries batch)) → MayBeTakenUp endpoints number ((taken ++ opened (take at batch)) ++ opened (entry ∷ []))
may_open endpoints number entries at batch entry taken before below here may =
    let front = opened_front entries at batch entry before below here in
    let now : List Item = opened (take at batch) ++ opened (entry ∷ []) in
    subst (MayBeTakenUp endpoints number) (sym (append_assoc taken (opened (take at batch)) (opened (entry ∷ []))))
    (may_front endpoints number (taken ++ now) front.0
    (subst (MayBeTakenUp endpoints number) (ap (λ (xs : List Item). taken ++ xs) front.1 ∙ sym (append_assoc taken now front.0)) may))

pub opened_one_more : (at : ℕ) (batch : List Entry) (entry : Entry) (taken : List Item) → at < length batch → slice_get batch at ≡ Some entry
    → taken ++ opened (take (at + 1) batch) ≡ (taken ++ opened (take at batch)) ++ opened (entry ∷ [])
opened_one_more at batch entry taken below here =
    ap (λ (xs : List Item). taken ++ xs) (opened_more batch at entry below here) ∙ sym (append_assoc taken (opened (take at batch)) (opened (entry ∷ [])))

-- a batch that goes on
pub may_there : (limits : Limits) (endpoints b number : ℕ) (filling : Filling) (list : List Item) → IsSameBatch limits endpoints b number filling → MayBeTakenUp endpoints number list
    → MayBeTakenUp filling.endpoints filling.first_slot list
may_there limits endpoints b number filling list same may =
    subst (λ (n : ℕ). MayBeTakenUp n filling.first_slot list) (sym same.same_endpoints) (subst (λ (n : ℕ). MayBeTakenUp endpoints n list) (sym same.same_first) may)

-- no item that may be fed has a flow that opens
pub opens_others : (batch : List Entry) (item : Item) → OpensOthers batch item → All (Other item) (opened batch)
opens_others batch item others =
    All-opened (λ flow. item.flow ≢ flow) batch
    (All-weaker (λ entry. IsTrue entry.opens → entry.flow ≢ item.flow) (λ entry. IsTrue entry.opens → item.flow ≢ entry.flow) (λ entry other opens same. other opens (sym same)) batch others)

-- what is taken up of a list that may be fed may be taken up
pub may_all : (batch : List Entry) (endpoints number : ℕ) (list : List Item) → 1 ≤ number → IsBatch batch → AreBelow endpoints (opened batch) → MayBeFed batch endpoints number list
    → MayBeTakenUp endpoints number (taken_up batch list true)
may_all batch endpoints number list positive rising opening may =
    let whole : after_batch batch list ≡ taken_up batch list true = sym (taken_up_all batch list may.in_order) in
    let put : List Item = map (with_batch batch) list in
    let apart : All (λ x. All (Other x) (opened batch)) put =
    All-map (λ x. All (Other x) (opened batch)) (with_batch batch) list (All-weaker (OpensOthers batch) (λ x. All (Other x) (opened batch)) (opens_others batch) list may.others_open) in
    subst (MayBeTakenUp endpoints number) whole
    (record {
      once = once-sort_by (λ item. item.last) (put ++ opened batch) (AllPairs-append Other put (opened batch) (once-map (with_batch batch) (λ x. refl) list may.once) (once-opened batch rising) apart);
      in_range = below-after_batch endpoints batch list (All-append (InRange endpoints) list (opened batch) may.in_range opening);
      below = lasts-after_batch number batch list (omega arith) may.below;
    })

pub may_so_far : (batch : List Entry) (endpoints number : ℕ) (list : List Item) → 1 ≤ number → IsBatch batch → AreBelow endpoints (opened batch) → MayBeFed batch endpoints number list
    → MayBeTakenUp endpoints number (taken_up batch list false)
may_so_far batch endpoints number list positive rising opening may =
    may_front endpoints number (taken_up batch list false) (cond (has_served list) [] (opened batch))
    (subst (MayBeTakenUp endpoints number) (taken_up_end batch list) (may_all batch endpoints number list positive rising opening may))

-- the entries that are left open all that is due
pub open_now : (batch : List Entry) (fed : List Item) (left : ℕ) → left ≡ cond (has_served fed) 0 (length batch) → taken_up batch fed false ++ opened (take left batch) ≡ taken_up batch fed true
open_now batch fed left is =
    elim (cases_Bool (has_served fed)) [
      | inl served ↦
          let none : left ≡ 0 = is ∙ cond-true (has_served fed) 0 (length batch) served in
          ap (λ (n : ℕ). taken_up batch fed false ++ opened (take n batch)) none
          ∙ sym (taken_up_end batch fed ∙ ap (λ (xs : List Item). taken_up batch fed false ++ xs) (cond-true (has_served fed) [] (opened batch) served))
      | inr not_yet ↦
          let all : left ≡ length batch = is ∙ cond-false (has_served fed) 0 (length batch) not_yet in
          ap (λ (es : List Entry). taken_up batch fed false ++ opened es) (take_all left batch (omega (arith, all)))
          ∙ sym (taken_up_end batch fed ∙ ap (λ (xs : List Item). taken_up batch fed false ++ xs) (cond-false (has_served fed) [] (opened batch) not_yet))
    ]

-- one item more
pub feed_one : (batch : List Entry) (fed : List Item) (item : Item) → taken_up batch fed (was_served item) ++ with_batch batch item ∷ [] ≡ taken_up batch (fed ++ item ∷ []) false
feed_one batch fed item =
    let last : List Item = with_batch batch item ∷ [] in
    elim (cases_Bool (was_served item)) [
      | inl served ↦
          ap (λ (b : Bool). taken_up batch fed b ++ last) served
          ∙ (ap (λ (xs : List Item). xs ++ last) (taken_up_end batch fed)
          ∙ (ap (λ (xs : List Item). taken_up batch fed false ++ xs ++ last) (either (has_served fed) (was_served item) (opened batch) served)
          ∙ sym (taken_up_more batch fed item)))
      | inr never ↦
          ap (λ (b : Bool). taken_up batch fed b ++ last) never
          ∙ sym (taken_up_plainly batch fed item (and_right (not (has_served fed)) (was_served item) never))
    ]
  where
    either : (before now : Bool) (xs : List Item) → now ≡ true → cond before [] xs ≡ cond (not before && now) xs []
    either true now xs is = refl
    either false now xs is = sym (cond-true now xs [] is)

pub unopened_then : (fed : List Item) (item : Item) (left left' count : ℕ) → left ≡ cond (has_served fed) 0 count → left' ≡ cond (was_served item) 0 left → left' ≡ cond (has_served (fed ++ item ∷ [])) 0 count
unopened_then fed item left left' count before now =
    now ∙ (ap (λ (n : ℕ). cond (was_served item) 0 n) before ∙ (both (was_served item) (has_served fed) count ∙ ap (λ (b : Bool). cond b 0 count) (sym (has_served_more fed item))))
  where
    both : (now before : Bool) (count : ℕ) → cond now 0 (cond before 0 count) ≡ cond (before || now) 0 count
    both true true count = refl
    both true false count = refl
    both false true count = refl
    both false false count = refl
