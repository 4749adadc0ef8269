-- Each flow stands once in the list, whatever a batch and its slots do to it, and its endpoints stay in range.
use Rattle.std.proofs.Common.{◌≡◌, ◌≢◌, ◌<◌, ◌+◌, ◌-◌, ℕ, zero, suc, List, [], ◌∷◌, ◌++◌, map, filter, true, false, not, nat_lt, IsTrue, All, refl, sym, ap, ◌∙◌, subst, inl, inr}
use Rattle.std.proofs.lemmas.Bool.{cond-true, cond-false, cond_both, cases_Bool, or_parts, not-true}
use Rattle.std.proofs.lemmas.List.Elements.{All-nil, All-cons, All-head, All-tail, All-map, All-weaker}
use Rattle.greedy_rules.specs.declared.flows.Flow.{Flow}
use Rattle.greedy_rules.specs.declared.flows.Item.{Item}
use Rattle.greedy_rules.specs.declared.flows.Entry.{Entry}
use Rattle.greedy_rules.specs.Flows.{same_flow, flow_below}
use Rattle.greedy_rules.specs.Batches.{IsBatch}
use Rattle.list_facts.specs.Order.{insert_by, sort_by}
use Rattle.greedy_rules.specs.Slot.{Bar, has_flow, greedy_slot}
use Rattle.greedy_rules.specs.Demands.{Key, last_served, HasEachFlowOnce, AreBelow, OpensNewFlows, is_listed, with_batch, opened, after_batch_by, after_batch}
use Rattle.greedy_rules.specs.Allocation.{served, after_slot, list_through, list_after_slots_by, list_after_slots}
use Rattle.greedy_rules.proofs.FlowOrder.{same_flow-refl, flow_below-not_same}
use Rattle.list_facts.proofs.Pairs.{AllPairs-nil, AllPairs-cons, AllPairs-head, AllPairs-tail, AllPairs-append}
use Rattle.list_facts.proofs.StableSort.{All-insert_by, All-sort_by}

abbrev pub Other : Item → Item → Type 0
Other i j = i.flow ≢ j.flow

once-insert_by : (number : Item → ℕ) (x : Item) (xs : List Item) → All (Other x) xs → HasEachFlowOnce xs → HasEachFlowOnce (insert_by number x xs)
once-insert_by number x [] others once = AllPairs-cons Other x [] others once
once-insert_by number x (y ∷ ys) others once =
    let back : Other y x = λ e. All-head (Other x) y ys others (sym e) in
    cond_both (nat_lt (number y) (number x)) (y ∷ insert_by number x ys) (x ∷ (y ∷ ys)) HasEachFlowOnce
    (λ _. AllPairs-cons Other y (insert_by number x ys) (All-insert_by (Other y) number x ys back (AllPairs-head Other y ys once))
    (once-insert_by number x ys (All-tail (Other x) y ys others) (AllPairs-tail Other y ys once)))
    (λ _. AllPairs-cons Other x (y ∷ ys) others once)

pub once-sort_by : (number : Item → ℕ) (xs : List Item) → HasEachFlowOnce xs → HasEachFlowOnce (sort_by number xs)
once-sort_by number [] once = once
once-sort_by number (x ∷ xs) once =
    once-insert_by number x (sort_by number xs) (All-sort_by (Other x) number xs (AllPairs-head Other x xs once)) (once-sort_by number xs (AllPairs-tail Other x xs once))

-- a change that keeps an item's flow
pub once-map : (f : Item → Item) → ((x : Item) → (f x).flow ≡ x.flow) → (xs : List Item) → HasEachFlowOnce xs → HasEachFlowOnce (map f xs)
once-map f keeps [] once = once
once-map f keeps (x ∷ xs) once =
    AllPairs-cons Other (f x) (map f xs)
    (All-map (Other (f x)) f xs (All-weaker (Other x) (λ y. Other (f x) (f y)) (λ y other e. other (sym (keeps x) ∙ (e ∙ keeps y))) xs (AllPairs-head Other x xs once)))
    (once-map f keeps xs (AllPairs-tail Other x xs once))

pub All-opened : (P : Flow → Type 0) (batch : List Entry) → All (λ entry. IsTrue entry.opens → P entry.flow) batch → All (λ item. P item.flow) (opened batch)
All-opened P [] all = All-nil (λ item. P item.flow)
All-opened P (entry ∷ batch) all =
    let rest = All-opened P batch (All-tail (λ (e : Entry). IsTrue e.opens → P e.flow) entry batch all) in
    elim (cases_Bool entry.opens) [
      | inl opens ↦ subst (λ (es : List Entry). All (λ (item : Item). P item.flow) (map (λ (e : Entry). record { flow = e.flow; need = e.add; last = 0 }) es))
          (sym (cond-true entry.opens (entry ∷ filter (λ e. e.opens) batch) (filter (λ e. e.opens) batch) opens))
          (All-cons (λ item. P item.flow) (record { flow = entry.flow; need = entry.add; last = 0 }) (opened batch)
          (All-head (λ e. IsTrue e.opens → P e.flow) entry batch all opens) rest)
      | inr stays ↦ subst (λ (es : List Entry). All (λ (item : Item). P item.flow) (map (λ (e : Entry). record { flow = e.flow; need = e.add; last = 0 }) es))
          (sym (cond-false entry.opens (entry ∷ filter (λ e. e.opens) batch) (filter (λ e. e.opens) batch) stays)) rest
    ]

pub once-opened : (batch : List Entry) → IsBatch batch → HasEachFlowOnce (opened batch)
once-opened [] rising = AllPairs-nil Other
once-opened (entry ∷ batch) rising =
    let Below : Entry → Entry → Type 0 = λ e f. IsTrue (flow_below e.flow f.flow) in
    let rest = once-opened batch (AllPairs-tail Below entry batch rising) in
    let distinct : (e : Entry) → IsTrue (flow_below entry.flow e.flow) → IsTrue e.opens → entry.flow ≢ e.flow =
    λ e below _ same. let clash : same_flow entry.flow e.flow ≡ false = flow_below-not_same entry.flow e.flow below in
    let hit : same_flow entry.flow e.flow ≡ true = ap (λ (f : Flow). same_flow entry.flow f) (sym same) ∙ same_flow-refl entry.flow in cc in
    let others : All (λ item. entry.flow ≢ item.flow) (opened batch) =
    All-opened (λ f. entry.flow ≢ f) batch
    (All-weaker (Below entry) (λ e. IsTrue e.opens → entry.flow ≢ e.flow) distinct batch (AllPairs-head Below entry batch rising)) in
    cond_both entry.opens (entry ∷ filter (λ e. e.opens) batch) (filter (λ e. e.opens) batch)
    (λ es. HasEachFlowOnce (map (λ (e : Entry). record { flow = e.flow; need = e.add; last = 0 }) es))
    (λ _. AllPairs-cons Other (record { flow = entry.flow; need = entry.add; last = 0 }) (opened batch) others rest) (λ _. rest)

-- a flow that a list has not is no item's
pub not_listed : (list : List Item) (flow : Flow) → is_listed list flow ≡ false → All (λ item. item.flow ≢ flow) list
not_listed [] flow none = All-nil (λ item. item.flow ≢ flow)
not_listed (item ∷ list) flow none =
    let parts = or_parts (same_flow item.flow flow) (is_listed list flow) none in
    let differs : item.flow ≢ flow = λ e. let hit : same_flow item.flow flow ≡ true = ap (λ (f : Flow). same_flow item.flow f) (sym e) ∙ same_flow-refl item.flow in cc in
    All-cons (λ x. x.flow ≢ flow) item list differs (not_listed list flow parts.1)

-- what a batch does to the list
pub once-after_batch_by : (key : Key) (batch : List Entry) (list : List Item) → IsBatch batch → OpensNewFlows batch list → HasEachFlowOnce list → HasEachFlowOnce (after_batch_by key batch list)
once-after_batch_by key batch list rising opens once =
    let fresh : All (λ item. All (λ x. x.flow ≢ item.flow) list) (opened batch) =
    All-opened (λ flow. All (λ x. x.flow ≢ flow) list) batch
    (All-weaker (λ entry. entry.opens ≡ not (is_listed list entry.flow)) (λ entry. IsTrue entry.opens → All (λ x. x.flow ≢ entry.flow) list)
    (λ entry is yes. not_listed list entry.flow (not-true (is_listed list entry.flow) (sym is ∙ yes))) batch opens) in
    let apart : All (λ x. All (Other x) (opened batch)) (map (with_batch batch) list) =
    All-map (λ x. All (Other x) (opened batch)) (with_batch batch) list (λ k d below j e within. fresh j e within k d below) in
    once-sort_by (λ item. key item.need item.last) (map (with_batch batch) list ++ opened batch)
    (AllPairs-append Other (map (with_batch batch) list) (opened batch) (once-map (with_batch batch) (λ x. refl) list once) (once-opened batch rising) apart)

-- what holds of the flows of a list
abbrev pub FlowsAre : (Flow → Type 0) → List Item → Type 0
FlowsAre P list = All (λ item. P item.flow) list

All-map_front : (P : Item → Type 0) (f : Item → Item) → ((x : Item) → P x → P (f x)) → (xs ys : List Item) → All P (xs ++ ys) → All P (map f xs ++ ys)
All-map_front P f keeps [] ys all = all
All-map_front P f keeps (x ∷ xs) ys all =
    All-cons P (f x) (map f xs ++ ys) (keeps x (All-head P x (xs ++ ys) all)) (All-map_front P f keeps xs ys (All-tail P x (xs ++ ys) all))

pub flows-after_batch_by : (key : Key) → (P : Flow → Type 0) (batch : List Entry) (list : List Item) → FlowsAre P (list ++ opened batch) → FlowsAre P (after_batch_by key batch list)
flows-after_batch_by key P batch list are =
    All-sort_by (λ (x : Item). P x.flow) (λ item. key item.need item.last) (map (with_batch batch) list ++ opened batch)
    (All-map_front (λ (x : Item). P x.flow) (with_batch batch) (λ x holds. holds) list (opened batch) are)

pub below-after_batch_by : (key : Key) (endpoints : ℕ) (batch : List Entry) (list : List Item) → AreBelow endpoints (list ++ opened batch) → AreBelow endpoints (after_batch_by key batch list)
below-after_batch_by key endpoints batch list below = flows-after_batch_by key (λ flow. (flow.src < endpoints) × (flow.dst < endpoints)) batch list below

pub served_flow : (number : ℕ) (slot : List Flow) (item : Item) → (served number slot item).flow ≡ item.flow
served_flow number slot item =
    cond_both (has_flow slot item.flow) (record item { need = item.need - 1; last = number }) item (λ x. x.flow ≡ item.flow) (λ _. refl) (λ _. refl)

-- what a slot does to the list
pub once-after_slot : (bar : Bar) (number : ℕ) (list : List Item) → HasEachFlowOnce list → HasEachFlowOnce (after_slot bar number list)
once-after_slot bar number list once = once-map (served number (greedy_slot bar list)) (served_flow number (greedy_slot bar list)) list once

pub flows-after_slot : (P : Flow → Type 0) (bar : Bar) (number : ℕ) (list : List Item) → FlowsAre P list → FlowsAre P (after_slot bar number list)
flows-after_slot P bar number list are =
    let f : Item → Item = served number (greedy_slot bar list) in
    All-map (λ (x : Item). P x.flow) f list
    (All-weaker (λ (x : Item). P x.flow) (λ x. P (f x).flow) (λ x holds. subst P (sym (served_flow number (greedy_slot bar list) x)) holds) list are)

pub below-after_slot : (endpoints : ℕ) (bar : Bar) (number : ℕ) (list : List Item) → AreBelow endpoints list → AreBelow endpoints (after_slot bar number list)
below-after_slot endpoints bar number list below = flows-after_slot (λ flow. (flow.src < endpoints) × (flow.dst < endpoints)) bar number list below

pub flows-through : (P : Flow → Type 0) (bar : Bar) (number count : ℕ) (list : List Item) → FlowsAre P list → FlowsAre P (list_through bar number count list)
flows-through P bar number zero list are = are
flows-through P bar number (suc count) list are = flows-through P bar (number + 1) count (after_slot bar number list) (flows-after_slot P bar number list are)

pub flows-after_slots_by : (key : Key) → (P : Flow → Type 0) (bar : Bar) (number count : ℕ) (list : List Item) → FlowsAre P list → FlowsAre P (list_after_slots_by key bar number count list)
flows-after_slots_by key P bar number count list are =
    All-sort_by (λ (x : Item). P x.flow) (λ item. key item.need item.last) (list_through bar number count list) (flows-through P bar number count list are)

abbrev pub InRange : ℕ → Item → Type 0
InRange endpoints item = (item.flow.src < endpoints) × (item.flow.dst < endpoints)

-- ---- by the slot in which a flow was last served

pub once-after_batch : (batch : List Entry) (list : List Item) → IsBatch batch → OpensNewFlows batch list → HasEachFlowOnce list → HasEachFlowOnce (after_batch batch list)
once-after_batch = once-after_batch_by last_served

pub flows-after_batch : (P : Flow → Type 0) (batch : List Entry) (list : List Item) → FlowsAre P (list ++ opened batch) → FlowsAre P (after_batch batch list)
flows-after_batch = flows-after_batch_by last_served

pub below-after_batch : (endpoints : ℕ) (batch : List Entry) (list : List Item) → AreBelow endpoints (list ++ opened batch) → AreBelow endpoints (after_batch batch list)
below-after_batch = below-after_batch_by last_served

pub flows-after_slots : (P : Flow → Type 0) (bar : Bar) (number count : ℕ) (list : List Item) → FlowsAre P list → FlowsAre P (list_after_slots bar number count list)
flows-after_slots = flows-after_slots_by last_served
