-- Part of a list: a window's batches may be applied to it where they have no entry of what is left out.
use Rattle.std.proofs.Common.{◌≡◌, ◌≢◌, ◌<◌, ◌≤◌, ◌+◌, ℕ, List, [], ◌∷◌, ◌++◌, get_or, filter, Bool, true, false, not, ◌&&◌, ◌||◌, Some, None, is_some, All, refl, sym, ap, ◌∙◌, subst, arith, inl, inr}
use Rattle.std.specs.List.{list_any}
use Rattle.std.proofs.lemmas.Bool.{cases_Bool, cond-true, cond-false, and_left, and_right, or_left, or_parts, both_ways, not-true, not_from_true, not_from_false}
use Rattle.std.proofs.lemmas.List.{append-nil, append_assoc}
use Rattle.std.proofs.lemmas.List.Folds.{list_any_none}
use Rattle.std.proofs.lemmas.List.Elements.{All-nil, All-cons, All-head, All-tail, All-append, All-map, All-filter, All-weaker}
use Rattle.list_facts.proofs.Pairs.{AllPairs-head, AllPairs-tail}
use Rattle.greedy_rules.specs.declared.flows.Flow.{Flow}
use Rattle.greedy_rules.specs.declared.flows.Item.{Item}
use Rattle.greedy_rules.specs.declared.flows.Entry.{Entry}
use Rattle.greedy_rules.specs.declared.limits.Limits.{Limits}
use Rattle.greedy_rules.specs.Flows.{same_flow}
use Rattle.greedy_rules.specs.Batches.{DemandBatch, entry_of}
use Rattle.greedy_rules.specs.Demands.{HasEachFlowOnce, AreBelow, HaveTwoEnds, is_listed, item_of, need_in, opened, after_batch}
use Rattle.greedy_rules.specs.Limits.{is_barred}
use Rattle.greedy_rules.specs.Balance.{EveryBatchBalances, is_recorded}
use Rattle.greedy_rules.specs.Recorded.{demand_of, IsRecordedAfter, AreRecordedAfter, Applies, MayBeApplied, IsLeftBy}
use Rattle.greedy_rules.specs.Schedule.{first_slot, list_then}
use Rattle.greedy_rules.proofs.Facts.{same_flow-true, listed-after_slots, listed-after_batch, flows-after_slots, flows-after_batch}
use Rattle.greedy_rules.proofs.RecordedLemmas.{need_of_item, need_with-le, demand_more, is_recorded-more}
use Rattle.slot_batches.specs.Woven.{picked, HaveNoEntry}
use Rattle.slot_batches.proofs.SetAside.{once-filter}
use Rattle.slot_batches.proofs.WeaveLemmas.{no_entry_is}
use Rattle.window_allocation.specs.Reach.{OpenNew}
use Rattle.window_allocation.specs.Ready.{AnyPartMayBeApplied}
use Rattle.window_allocation.proofs.HandedLemmas.{none_of}

-- batches open no flow of the list
opens_from : (endpoints b k : ℕ) (list now : List Item) (batches : List DemandBatch) → ((flow : Flow) → is_listed list flow ≡ true → is_listed now flow ≡ true) → MayBeApplied endpoints b k now batches → OpenNew list batches
opens_from endpoints b k list now [] still may = All-nil (λ batch. All (λ entry. entry.opens ≡ true → is_listed list entry.flow ≡ false) batch.entries)
opens_from endpoints b k list now (batch ∷ batches) still may =
    All-cons (λ batch. All (λ entry. entry.opens ≡ true → is_listed list entry.flow ≡ false) batch.entries) batch batches
    (All-weaker (λ (entry : Entry). entry.opens ≡ not (is_listed now entry.flow)) (λ (entry : Entry). entry.opens ≡ true → is_listed list entry.flow ≡ false)
    (λ entry is opens. elim (cases_Bool (is_listed list entry.flow)) [
      | inl listed ↦ absurd (both_ways _ (not-true _ (sym is ∙ opens)) (still entry.flow listed))
      | inr new ↦ new
    ]) batch.entries may.0.opens)
    (opens_from endpoints b (k + 1) list (list_then b k batch now) batches
    (λ flow listed.
    listed-after_slots (is_barred batch.limits) (first_slot b k) b (after_batch batch.entries now) flow
    ∙ (listed-after_batch batch.entries now flow may.0.rises may.0.opens ∙ or_left (is_listed now flow) (is_some (entry_of batch.entries flow)) (still flow listed))) may.1)

pub opens_new : (endpoints b k : ℕ) (list : List Item) (batches : List DemandBatch) → MayBeApplied endpoints b k list batches → OpenNew list batches
opens_new endpoints b k list batches may = opens_from endpoints b k list list batches (λ flow listed. listed) may

module _ (endpoints b : ℕ) (limits : Limits) (gone : Flow → Bool) (balances : EveryBatchBalances) where
  -- part of a list that batches have left: of the flows that are not gone
  record IsPartLeft (batches : List DemandBatch) (list : List Item) : Type 0 where
    once : HasEachFlowOnce list
    below : AreBelow endpoints list
    apart : HaveTwoEnds list
    listed : (flow : Flow) → gone flow ≡ false → is_listed list flow ≡ is_recorded batches flow
    needs : (flow : Flow) → need_in (item_of list flow) ≤ demand_of batches flow

  abbrev Stay : DemandBatch → Type 0
  Stay batch = All (λ entry. gone entry.flow ≡ false) batch.entries

  part_applies : (earlier : List DemandBatch) (batch : DemandBatch) (list : List Item) → Stay batch → IsRecordedAfter endpoints limits earlier batch → IsPartLeft earlier list → Applies endpoints batch list
  part_applies earlier batch list stay is left =
      let Within : Flow → Type 0 = λ flow. (flow.src < endpoints) × (flow.dst < endpoints) in
      let Apart : Flow → Type 0 = λ flow. flow.src ≢ flow.dst in
      let opens : Entry → Item = λ entry. record { flow = entry.flow; need = entry.add; last = 0 } in
      record {
        rises = is.rises;
        opens = λ k d below. is.opens k d below ∙ ap not (sym (left.listed _ (stay k d below)));
        once = left.once;
        below = All-append (λ (item : Item). Within item.flow) list (opened batch.entries) left.below
            (All-map (λ (item : Item). Within item.flow) opens (filter (λ (e : Entry). e.opens) batch.entries) (All-filter (λ (e : Entry). e.opens) (λ (e : Entry). Within e.flow) batch.entries is.in_range));
        apart = All-append (λ (item : Item). Apart item.flow) list (opened batch.entries) left.apart
            (All-map (λ (item : Item). Apart item.flow) opens (filter (λ (e : Entry). e.opens) batch.entries) (All-filter (λ (e : Entry). e.opens) (λ (e : Entry). Apart e.flow) batch.entries is.apart));
        needs = λ at d within.
            let item : Item = get_or list at d in
            omega (
              arith,
              need_of_item list at d left.once within,
              is.fits item.flow,
              need_with-le (entry_of batch.entries item.flow) item.need (demand_of earlier item.flow) (omega (arith, left.needs item.flow, need_of_item list at d left.once within)),
            );
      }

  part_then : (k : ℕ) (earlier : List DemandBatch) (batch : DemandBatch) (list : List Item) → Stay batch → IsRecordedAfter endpoints limits earlier batch → IsPartLeft earlier list
      → IsPartLeft (earlier ++ batch ∷ []) (list_then b k batch list)
  part_then k earlier batch list stay is left =
      let may = part_applies earlier batch list stay is left in
      let what = balances batch.limits endpoints (first_slot b k) b batch.entries list may.rises may.opens may.once may.below in
      record {
        once = what.once;
        below = what.in_range;
        apart = flows-after_slots (λ flow. flow.src ≢ flow.dst) (is_barred batch.limits) (first_slot b k) b (after_batch batch.entries list) (flows-after_batch (λ flow. flow.src ≢ flow.dst) batch.entries list may.apart);
        listed = λ flow stays. what.listed flow ∙ (ap (λ p. p || is_some (entry_of batch.entries flow)) (left.listed flow stays) ∙ sym (is_recorded-more earlier batch flow));
        needs = λ flow.
            omega (
              arith,
              what.balance flow,
              need_with-le (entry_of batch.entries flow) (need_in (item_of list flow)) (demand_of earlier flow) (left.needs flow),
              demand_more earlier batch flow 0,
            );
      }

  part_may : (k : ℕ) (earlier batches : List DemandBatch) (list : List Item) → All Stay batches → AreRecordedAfter endpoints limits earlier batches → IsPartLeft earlier list → MayBeApplied endpoints b k list batches
  part_may k earlier [] list stay are left = tt
  part_may k earlier (batch ∷ batches) list stay are left =
      let here = All-head Stay batch batches stay in (
        part_applies earlier batch list here are.0 left,
        part_may (k + 1) (earlier ++ batch ∷ []) batches (list_then b k batch list) (All-tail Stay batch batches stay) are.1 (part_then k earlier batch list here are.0 left),
      )

-- later batches of recorded ones
recorded_later : (endpoints : ℕ) (limits : Limits) (before earlier later : List DemandBatch) → AreRecordedAfter endpoints limits before (earlier ++ later) → AreRecordedAfter endpoints limits (before ++ earlier) later
recorded_later endpoints limits before [] later are = subst (λ (bs : List DemandBatch). AreRecordedAfter endpoints limits bs later) (sym (append-nil before)) are
recorded_later endpoints limits before (batch ∷ earlier) later are =
    subst (λ (bs : List DemandBatch). AreRecordedAfter endpoints limits bs later) (append_assoc before (batch ∷ []) earlier)
    (recorded_later endpoints limits (before ++ batch ∷ []) earlier later are.1)

-- the flows of the items that are set aside
abbrev gone_of : (Item → Bool) → List Item → Flow → Bool
gone_of aside list flow = list_any (λ item. aside item && same_flow item.flow flow) list

listed_part : (aside : Item → Bool) (list : List Item) (flow : Flow) → gone_of aside list flow ≡ false → is_listed (picked aside list) flow ≡ is_listed list flow
listed_part aside [] flow none = refl
listed_part aside (item ∷ list) flow none =
    let parts = or_parts (aside item && same_flow item.flow flow) (gone_of aside list flow) none in
    let rest = listed_part aside list flow parts.1 in
    elim (cases_Bool (aside item)) [
      | inl out ↦
          ap (λ (xs : List Item). is_listed xs flow) (cond-false (not (aside item)) (item ∷ picked aside list) (picked aside list) (not_from_true _ out))
          ∙ (rest ∙ ap (λ (b : Bool). b || is_listed list flow) (sym (ap (λ (b : Bool). b && same_flow item.flow flow) (sym out) ∙ parts.0)))
      | inr stays ↦
          ap (λ (xs : List Item). is_listed xs flow) (cond-true (not (aside item)) (item ∷ picked aside list) (picked aside list) (not_from_false _ stays))
          ∙ ap (λ (b : Bool). same_flow item.flow flow || b) rest
    ]

need_part : (aside : Item → Bool) (list : List Item) (flow : Flow) → HasEachFlowOnce list → need_in (item_of (picked aside list) flow) ≤ need_in (item_of list flow)
need_part aside [] flow once = omega arith
need_part aside (item ∷ list) flow once =
    let Other : Item → Item → Type 0 = λ i j. i.flow ≢ j.flow in
    let rest = need_part aside list flow (AllPairs-tail Other item list once) in
    let others : All (λ j. item.flow ≢ j.flow) list = AllPairs-head Other item list once in
    elim (cases_Bool (same_flow item.flow flow)) [
      | inl same ↦
          let is : item.flow ≡ flow = same_flow-true item.flow flow same in
          let none : item_of (picked aside list) flow ≡ None =
          none_of (picked aside list) flow
          (All-filter (λ x. not (aside x)) (λ x. flow ≢ x.flow) list (All-weaker (λ j. item.flow ≢ j.flow) (λ j. flow ≢ j.flow) (λ j apart same_too. apart (is ∙ same_too)) list others)) in
          let whole : item_of (item ∷ list) flow ≡ Some item = cond-true (same_flow item.flow flow) (Some item) (item_of list flow) same in
          elim (cases_Bool (aside item)) [
            | inl out ↦
                let part : item_of (picked aside (item ∷ list)) flow ≡ None =
                ap (λ (xs : List Item). item_of xs flow) (cond-false (not (aside item)) (item ∷ picked aside list) (picked aside list) (not_from_true _ out)) ∙ none in
                omega (arith, ap need_in part)
            | inr stays ↦
                let part : item_of (picked aside (item ∷ list)) flow ≡ Some item =
                ap (λ (xs : List Item). item_of xs flow) (cond-true (not (aside item)) (item ∷ picked aside list) (picked aside list) (not_from_false _ stays))
                ∙ cond-true (same_flow item.flow flow) (Some item) (item_of (picked aside list) flow) same in
                omega (arith, ap need_in part, ap need_in whole)
          ]
      | inr other ↦
          let whole : item_of (item ∷ list) flow ≡ item_of list flow = cond-false (same_flow item.flow flow) (Some item) (item_of list flow) other in
          elim (cases_Bool (aside item)) [
            | inl out ↦
                let part : item_of (picked aside (item ∷ list)) flow ≡ item_of (picked aside list) flow =
                ap (λ (xs : List Item). item_of xs flow) (cond-false (not (aside item)) (item ∷ picked aside list) (picked aside list) (not_from_true _ out)) in
                omega (arith, ap need_in part, ap need_in whole, rest)
            | inr stays ↦
                let part : item_of (picked aside (item ∷ list)) flow ≡ item_of (picked aside list) flow =
                ap (λ (xs : List Item). item_of xs flow) (cond-true (not (aside item)) (item ∷ picked aside list) (picked aside list) (not_from_false _ stays))
                ∙ cond-false (same_flow item.flow flow) (Some item) (item_of (picked aside list) flow) other in
                omega (arith, ap need_in part, ap need_in whole, rest)
          ]
    ]

-- no entry is of an item that is set aside
none_gone : (aside : Item → Bool) (list : List Item) (batch : DemandBatch) → All (λ item. aside item ≡ true → entry_of batch.entries item.flow ≡ None) list → All (λ entry. gone_of aside list entry.flow ≡ false) batch.entries
none_gone aside list batch none k d below =
    list_any_none (λ (item : Item). aside item && same_flow item.flow (get_or batch.entries k d).flow) list
    (λ j e within. elim (cases_Bool (aside (get_or list j e))) [
      | inl out ↦ and_right _ _ (no_entry_is batch.entries (get_or list j e).flow (none j e within out) k d below)
      | inr stays ↦ and_left _ _ stays
    ])

all_stay : (aside : Item → Bool) (list : List Item) (batches : List DemandBatch) → All (λ item. aside item ≡ true → HaveNoEntry batches item.flow) list
    → All (λ batch. All (λ entry. gone_of aside list entry.flow ≡ false) batch.entries) batches
all_stay aside list batches none k d below = none_gone aside list (get_or batches k d) (λ j e within out. none j e within out k d below)

-- recorded batches may be applied to any part of what the earlier ones left that has all of whom they have an entry
pub parts_may : (endpoints b k : ℕ) (limits : Limits) (earlier batches : List DemandBatch) (list : List Item) → EveryBatchBalances → AreRecordedAfter endpoints limits [] (earlier ++ batches) → IsLeftBy endpoints earlier list
    → AnyPartMayBeApplied endpoints b k list batches
parts_may endpoints b k limits earlier batches list balances are left = λ aside none.
    let stays : Item → Bool = λ item. not (aside item) in
    part_may endpoints b limits (gone_of aside list) balances k earlier batches (picked aside list) (all_stay aside list batches none) (recorded_later endpoints limits [] earlier batches are)
    (record {
      once = once-filter stays list left.once;
      below = All-filter stays (λ (item : Item). (item.flow.src < endpoints) × (item.flow.dst < endpoints)) list left.below;
      apart = All-filter stays (λ (item : Item). item.flow.src ≢ item.flow.dst) list left.apart;
      listed = λ flow stays_too. listed_part aside list flow stays_too ∙ left.listed flow;
      needs = λ flow. omega (arith, need_part aside list flow left.once, left.needs flow);
    })
