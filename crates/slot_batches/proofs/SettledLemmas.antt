-- What is settled: the items that count as fed and have no slot, and the same flow by flow.
use Rattle.std.proofs.Common.{◌≡◌, ℕ, List, [], ◌∷◌, ◌++◌, map, filter, replicate, Bool, true, false, not, ◌&&◌, ◌||◌, nat_lt, get_or, All, refl, sym, ap, ◌∙◌, subst, inl, inr}
use Rattle.std.proofs.lemmas.Bool.{cases_Bool, cond-true, cond-false}
use Rattle.std.proofs.lemmas.List.{append-nil}
use Rattle.std.proofs.lemmas.List.Elements.{All-nil, All-cons, All-head, All-tail, All-map, All-weaker, filter-append}
use Rattle.std.proofs.Math.Bool.{or_assoc}
use Rattle.greedy_rules.specs.declared.flows.Flow.{Flow}
use Rattle.greedy_rules.specs.declared.flows.Item.{Item}
use Rattle.greedy_rules.specs.declared.flows.Entry.{Entry}
use Rattle.greedy_rules.specs.Batches.{DemandBatch, IsBatch}
use Rattle.greedy_rules.specs.Slot.{Bar}
use Rattle.greedy_rules.specs.Flows.{same_flow}
use Rattle.greedy_rules.specs.Limits.{is_barred}
use Rattle.greedy_rules.specs.Demands.{HasEachFlowOnce, is_listed, by_last, with_batch, opened, after_batch}
use Rattle.greedy_rules.specs.Allocation.{list_after_slots}
use Rattle.greedy_rules.proofs.Facts.{same_flow-true, once-map, once-opened, once-sort_by}
use Rattle.greedy_rules.proofs.OnceLemmas.{Other}
use Rattle.list_facts.proofs.Pairs.{AllPairs-append, AllPairs-head, AllPairs-tail}
use Rattle.list_facts.proofs.StableSort.{All-sort_by}
use Rattle.list_facts.proofs.Lists.{All-front, all_back, filter_all, filter_none}
use Rattle.slot_batches.specs.FlowByFlow.{slots_after, items_after}
use Rattle.slot_batches.specs.Feeding.{IsInOrder, was_served, has_served, taken_up, unserved, newly_served}
use Rattle.slot_batches.specs.Settled.{counts_as_fed, settled_of, settled, SettledItemsCountAsFed}
use Rattle.slot_batches.specs.ArrayStands.{OpensOthers}
use Rattle.slot_batches.proofs.OpenedFlows.{taken_up_all, taken_up_rest, in_order-after_batch}
use Rattle.slot_batches.proofs.StageLemmas.{AllPairs-front, opens_others}
use Rattle.slot_batches.proofs.FedLemmas.{others_open, in_order-front}
use Rattle.slot_batches.proofs.SlotExchange.{slot_by_slot}
use Rattle.slot_batches.proofs.SortedRuns.{two_runs}
use Rattle.slot_batches.proofs.TurnFacts.{All-items_after}
use Rattle.slot_batches.proofs.TurnSteps.{items_after-append}
use Rattle.slot_batches.proofs.SetAside.{each_is_listed}

-- ---- filters

module _ {X : Type 0} (p : X → Bool) where
  -- what holds of those that pass, holds of the filtered
  All-passing : (P : X → Type 0) (xs : List X) → All (λ x. p x ≡ true → P x) xs → All P (filter p xs)
  All-passing P [] all = All-nil P
  All-passing P (x ∷ xs) all =
      let rest = All-passing P xs (All-tail (λ y. p y ≡ true → P y) x xs all) in
      elim (cases_Bool (p x)) [
        | inl passes ↦
            subst (All P) (sym (cond-true (p x) (x ∷ filter p xs) (filter p xs) passes)) (All-cons P x (filter p xs) (All-head (λ y. p y ≡ true → P y) x xs all passes) rest)
        | inr fails ↦ subst (All P) (sym (cond-false (p x) (x ∷ filter p xs) (filter p xs) fails)) rest
      ]

-- ---- flows that are listed

listed-append : (xs ys : List Item) (flow : Flow) → is_listed (xs ++ ys) flow ≡ (is_listed xs flow || is_listed ys flow)
listed-append [] ys flow = refl
listed-append (x ∷ xs) ys flow = ap (λ (b : Bool). same_flow x.flow flow || b) (listed-append xs ys flow) ∙ sym (or_assoc (same_flow x.flow flow) (is_listed xs flow) (is_listed ys flow))

listed-put : (batch : List Entry) (xs : List Item) (flow : Flow) → is_listed (map (with_batch batch) xs) flow ≡ is_listed xs flow
listed-put batch [] flow = refl
listed-put batch (x ∷ xs) flow = ap (λ (b : Bool). same_flow x.flow flow || b) (listed-put batch xs flow)

-- the flows taken up so far are those that count as fed
listed-taken : (batch : List Entry) (fed : List Item) (flow : Flow) → is_listed (taken_up batch fed false) flow ≡ counts_as_fed batch fed flow
listed-taken batch [] flow = refl
listed-taken batch (item ∷ fed) flow = elim (cases_Bool (was_served item)) [
  | inl served ↦
      ap (λ (xs : List Item). is_listed xs flow) (cond-true (was_served item) (opened batch ++ map (with_batch batch) (item ∷ fed)) (with_batch batch item ∷ taken_up batch fed false) served)
      ∙ (listed-append (opened batch) (map (with_batch batch) (item ∷ fed)) flow
      ∙ (ap (λ (b : Bool). is_listed (opened batch) flow || b) (listed-put batch (item ∷ fed) flow)
      ∙ (turned (is_listed (opened batch) flow) (is_listed (item ∷ fed) flow) (has_served fed)
      ∙ ap (λ (b : Bool). is_listed (item ∷ fed) flow || ((b || has_served fed) && is_listed (opened batch) flow)) (sym served))))
  | inr never ↦
      ap (λ (xs : List Item). is_listed xs flow) (cond-false (was_served item) (opened batch ++ map (with_batch batch) (item ∷ fed)) (with_batch batch item ∷ taken_up batch fed false) never)
      ∙ (ap (λ (b : Bool). same_flow item.flow flow || b) (listed-taken batch fed flow)
      ∙ (sym (or_assoc (same_flow item.flow flow) (is_listed fed flow) (has_served fed && is_listed (opened batch) flow))
      ∙ ap (λ (b : Bool). is_listed (item ∷ fed) flow || ((b || has_served fed) && is_listed (opened batch) flow)) (sym never)))
]
  where
    turned : (a b c : Bool) → (a || b) ≡ (b || ((true || c) && a))
    turned true true c = refl
    turned true false c = refl
    turned false true c = refl
    turned false false c = refl

-- where each flow stands once, none of the later ones is listed before
none_listed : (xs ys : List Item) → HasEachFlowOnce (xs ++ ys) → All (λ y. is_listed xs y.flow ≡ false) ys
none_listed [] ys once = λ k d within. refl
none_listed (x ∷ xs) ys once =
    let others = all_back (Other x) xs ys (AllPairs-head Other x (xs ++ ys) once) in
    let rest = none_listed xs ys (AllPairs-tail Other x (xs ++ ys) once) in
    λ k d within. either (same_flow x.flow _) (is_listed xs _) (λ same. others k d within (same_flow-true x.flow _ same)) (rest k d within)
  where
    either : (a b : Bool) → (a ≡ true → ⊥) → b ≡ false → (a || b) ≡ false
    either true b never is = absurd (never refl)
    either false b never is = is

-- ---- what is settled

module _ (bar : Bar) (batch : List Entry) (number b : ℕ) (fed rest : List Item) (up : IsInOrder (fed ++ rest)) (once : HasEachFlowOnce (after_batch batch (fed ++ rest))) where
  abbrev taken : List Item
  taken = taken_up batch fed false

  abbrev empty : List (List Flow)
  empty = replicate b []

  abbrev passes : Item → Bool
  passes item = counts_as_fed batch fed item.flow && nat_lt item.last number

  abbrev later : List Item
  later = (taken_up_rest batch fed rest).0

  parts : after_batch batch (fed ++ rest) ≡ taken ++ later
  parts = sym (taken_up_all batch (fed ++ rest) up) ∙ (taken_up_rest batch fed rest).1

  abbrev front : List Item
  front = items_after bar number taken empty

  abbrev last : List Item
  last = items_after bar number later (slots_after bar number taken empty)

  abbrev items : List Item
  items = items_after bar number (after_batch batch (fed ++ rest)) empty

  items_are : items ≡ front ++ last
  items_are = ap (λ (xs : List Item). items_after bar number xs empty) parts ∙ items_after-append bar number taken later empty

  next_are : list_after_slots bar number b (after_batch batch (fed ++ rest)) ≡ unserved number items ++ by_last (newly_served number items)
  next_are = sym (ap by_last (slot_by_slot bar number b (after_batch batch (fed ++ rest)) once).items) ∙ two_runs bar number (after_batch batch (fed ++ rest)) empty (in_order-after_batch batch (fed ++ rest))

  served_out : filter passes (by_last (newly_served number items)) ≡ []
  served_out =
      filter_none passes (by_last (newly_served number items))
      (All-sort_by (λ x. passes x ≡ false) (λ item. item.last) (newly_served number items)
      (All-passing (λ item. not (nat_lt item.last number)) (λ x. passes x ≡ false) items (λ k d within is. out (counts_as_fed batch fed _) (nat_lt _ number) is)))
    where
      out : (c l : Bool) → not l ≡ true → (c && l) ≡ false
      out true true is = cc
      out true false is = refl
      out false l is = refl

  fed_in : filter passes (unserved number front) ≡ unserved number front
  fed_in =
      let listed : All (λ item. counts_as_fed batch fed item.flow ≡ true) taken = All-weaker (λ x. is_listed taken x.flow ≡ true) (λ x. counts_as_fed batch fed x.flow ≡ true) (λ x is. sym (listed-taken batch fed x.flow) ∙ is) taken (each_is_listed taken) in
      let all = All-items_after bar (λ flow. counts_as_fed batch fed flow ≡ true) number taken empty listed in
      filter_all passes (unserved number front)
      (All-passing (λ item. nat_lt item.last number) (λ x. passes x ≡ true) front (λ k d within is. both (counts_as_fed batch fed _) (nat_lt _ number) (all k d within) is))
    where
      both : (c l : Bool) → c ≡ true → l ≡ true → (c && l) ≡ true
      both true true a b = refl
      both true false a b = cc
      both false l a b = cc

  later_out : filter passes (unserved number last) ≡ []
  later_out =
      let unlisted : All (λ item. counts_as_fed batch fed item.flow ≡ false) later =
      All-weaker (λ x. is_listed taken x.flow ≡ false) (λ x. counts_as_fed batch fed x.flow ≡ false) (λ x is. sym (listed-taken batch fed x.flow) ∙ is) later (none_listed taken later (subst HasEachFlowOnce parts once)) in
      let all = All-items_after bar (λ flow. counts_as_fed batch fed flow ≡ false) number later (slots_after bar number taken empty) unlisted in
      filter_none passes (unserved number last)
      (All-passing (λ item. nat_lt item.last number) (λ x. passes x ≡ false) last (λ k d within is. ap (λ (c : Bool). c && nat_lt (get_or last k d).last number) (all k d within)))

  -- the items that count as fed and have no slot are, flow by flow, those taken up so far that have none
  pub in_turns : filter passes (list_after_slots bar number b (after_batch batch (fed ++ rest))) ≡ unserved number front
  in_turns =
      ap (filter passes) (next_are ∙ ap (λ (xs : List Item). xs ++ by_last (newly_served number items)) (ap (unserved number) items_are ∙ filter-append (λ item. nat_lt item.last number) front last))
      ∙ (filter-append passes (unserved number front ++ unserved number last) (by_last (newly_served number items))
      ∙ ((λ i. filter-append passes (unserved number front) (unserved number last) i ++ served_out i)
      ∙ ((λ i. (fed_in i ++ later_out i) ++ [])
      ∙ (append-nil (unserved number front ++ []) ∙ append-nil (unserved number front)))))

-- a list whose flows no entry opens has each flow once with the batch applied
pub once_fed : (batch : List Entry) (fed : List Item) → IsBatch batch → HasEachFlowOnce fed → All (OpensOthers batch) fed → HasEachFlowOnce (after_batch batch fed)
once_fed batch fed rising once others =
    let put : List Item = map (with_batch batch) fed in
    let apart : All (λ x. All (Other x) (opened batch)) put =
    All-map (λ x. All (Other x) (opened batch)) (with_batch batch) fed (All-weaker (OpensOthers batch) (λ x. All (Other x) (opened batch)) (opens_others batch) fed others) in
    once-sort_by (λ item. item.last) (put ++ opened batch) (AllPairs-append Other put (opened batch) (once-map (with_batch batch) (λ x. refl) fed once) (once-opened batch rising) apart)

-- so far, with nothing known of what follows
pub flow_by_flow : (batch : DemandBatch) (number b : ℕ) (fed : List Item) → IsBatch batch.entries → IsInOrder fed → HasEachFlowOnce fed → All (OpensOthers batch.entries) fed
    → settled batch number b fed false ≡ unserved number (items_after (is_barred batch.limits) number (taken_up batch.entries fed false) (replicate b []))
flow_by_flow batch number b fed rising up once others =
    let whole : fed ++ [] ≡ fed = append-nil fed in
    ap (λ (xs : List Item). settled_of batch number b xs fed) (sym whole)
    ∙ in_turns (is_barred batch.limits) batch.entries number b fed [] (subst IsInOrder (sym whole) up) (subst (λ (xs : List Item). HasEachFlowOnce (after_batch batch.entries xs)) (sym whole) (once_fed batch.entries fed rising once others))

pub are_settled : SettledItemsCountAsFed
are_settled batch number b fed rest rising opens before =
    let others = others_open batch.entries (fed ++ rest) opens in
    let once = once_fed batch.entries (fed ++ rest) rising before.once others in
    let here = flow_by_flow batch number b fed rising (in_order-front fed rest before.in_order) (AllPairs-front Other fed rest before.once) (All-front (OpensOthers batch.entries) fed rest others) in
    record {
      whatever_follows = in_turns (is_barred batch.limits) batch.entries number b fed rest before.in_order once ∙ sym here;
      flow_by_flow = here;
    }

-- before any item was fed nothing is settled
pub none_settled : (batch : DemandBatch) (number b : ℕ) → settled batch number b [] false ≡ []
none_settled batch number b = filter_none (λ item. false && nat_lt item.last number) (list_after_slots (is_barred batch.limits) number b (after_batch batch.entries [])) (λ k d within. refl)
