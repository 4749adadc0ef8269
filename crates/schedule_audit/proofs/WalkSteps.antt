-- A schedule goes by, place after place.
use Rattle.std.proofs.Common.{◌≡◌, ◌<◌, ◌≤◌, ◌+◌, ◌-◌, ◌*◌, ◌^◌, ℕ, zero, suc, List, [], ◌∷◌, ◌++◌, length, take, drop, cond, true, false, Option, Some, None, All, refl, sym, ap, ◌∙◌, subst, inl, inr, arith, append_assoc, append-nil, length-append}
use Rattle.std.specs.Prelude.{count_by}
use Rattle.std.specs.List.{slice_index_or}
use Rattle.std.proofs.lemmas.Bool.{cases_Bool, cases_lt, cond-true, cond-false}
use Rattle.std.proofs.lemmas.List.{take_more, length-take-le}
use Rattle.std.proofs.lemmas.List.Sums.{sum_by-append, sum_by-cons}
use Rattle.greedy_rules.proofs.Facts.{same_flow-true}
use Rattle.std.proofs.lemmas.List.Elements.{All-nil, All-cons, All-append, All-head, All-tail, All-weaker}
use Rattle.list_facts.proofs.Lists.{all_back, All-front}
use Rattle.greedy_rules.specs.declared.flows.Flow.{Flow}
use Rattle.greedy_rules.specs.Flows.{same_flow}
use Rattle.greedy_rules.specs.SlotTable.{flows_from}
use Rattle.greedy_rules.proofs.RowLemmas.{flows_from-append}
use Rattle.schedule_audit.specs.declared.judges.Judges.{Judges}
use Rattle.schedule_audit.specs.Lines.{Place}
use Rattle.schedule_audit.specs.FlowNumbers.{Numbers, flow_number_of}
use Rattle.schedule_audit.specs.Judged.{order_of, AreBefore}
use Rattle.schedule_audit.specs.Walked.{in_slot, JudgesStand, StandApart, IsSameText, FlowsAreBetween}

-- ---- orders

-- places before a place are of no later slot
pub no-later : (visited : List Place) (place : Place) → place.flow.src < 65536 → AreBefore (order_of place) visited → All (λ (p : Place). p.slot ≤ place.slot) visited
no-later visited place small before = All-weaker (λ (p : Place). order_of p < order_of place) (λ (p : Place). p.slot ≤ place.slot) (λ p less. lower p less) visited before
  where
    lower : (p : Place) → order_of p < order_of place → p.slot ≤ place.slot
    lower p less = elim (cases_lt place.slot p.slot) [
      | inl above ↦ absurd (omega (arith, above, less, small))
      | inr not_above ↦ not_above
    ]

pub rest-before : (order more : ℕ) (ps : List Place) → order ≤ more → AreBefore order ps → AreBefore more ps
rest-before order more ps le before = All-weaker (λ (p : Place). order_of p < order) (λ (p : Place). order_of p < more) (λ p less. omega (arith, less, le)) ps before

pub front-before : (order : ℕ) (ps qs : List Place) → AreBefore order (ps ++ qs) → AreBefore order ps
front-before order [] qs all = All-nil (λ (p : Place). order_of p < order)
front-before order (p ∷ ps) qs all = All-cons (λ (q : Place). order_of q < order) p ps (All-head (λ (q : Place). order_of q < order) p (ps ++ qs) all) (front-before order ps qs (All-tail (λ (q : Place). order_of q < order) p (ps ++ qs) all))

end-before : (order : ℕ) (ps : List Place) (place : Place) → AreBefore order (ps ++ place ∷ []) → order_of place < order
end-before order [] place all = All-head (λ (q : Place). order_of q < order) place [] all
end-before order (p ∷ ps) place all = end-before order ps place (All-tail (λ (q : Place). order_of q < order) p (ps ++ place ∷ []) all)

-- at most as many places as there are orders before them
pub few-more : (visited : List Place) (place : Place) → ((order : ℕ) → AreBefore order visited → length visited ≤ order) → AreBefore (order_of place) visited
    → (order : ℕ) → AreBefore order (visited ++ place ∷ []) → length (visited ++ place ∷ []) ≤ order
few-more visited place few before order all =
    let so_far = few (order_of place) before in
    let last = end-before order visited place all in omega (arith, so_far, last, length-append visited (place ∷ []))

-- ---- one place more

pub count-append : (flow : Flow) (ps qs : List Place) → count_by (λ place. same_flow place.flow flow) (ps ++ qs) ≡ count_by (λ place. same_flow place.flow flow) ps + count_by (λ place. same_flow place.flow flow) qs
count-append flow ps qs = sum_by-append (λ (place : Place). cond (same_flow place.flow flow) 1 0) ps qs

count-one : (place : Place) (flow : Flow) → same_flow place.flow flow ≡ true → count_by (λ (p : Place). same_flow p.flow flow) (place ∷ []) ≡ 1
count-one place flow is = sum_by-cons (λ (p : Place). cond (same_flow p.flow flow) 1 0) place [] ∙ ap (λ b. cond b 1 0 + 0) is

count-none : (place : Place) (flow : Flow) → same_flow place.flow flow ≡ false → count_by (λ (p : Place). same_flow p.flow flow) (place ∷ []) ≡ 0
count-none place flow is = sum_by-cons (λ (p : Place). cond (same_flow p.flow flow) 1 0) place [] ∙ ap (λ b. cond b 1 0 + 0) is

pub counted : (old new : Numbers) (visited : List Place) (place : Place) → ((flow : Flow) → flow_number_of old flow ≡ count_by (λ p. same_flow p.flow flow) visited)
    → ((other : Flow) → flow_number_of new other ≡ cond (same_flow place.flow other) (flow_number_of old place.flow + 1) (flow_number_of old other)) → (flow : Flow) → flow_number_of new flow ≡ count_by (λ p. same_flow p.flow flow) (visited ++ place ∷ [])
counted old new visited place are set flow = elim (cases_Bool (same_flow place.flow flow)) [
  | inl is ↦
      set flow ∙ (cond-true (same_flow place.flow flow) (flow_number_of old place.flow + 1) (flow_number_of old flow) is
      ∙ (ap (λ n. n + 1) (ap (λ f. flow_number_of old f) (same_flow-true place.flow flow is) ∙ are flow)
      ∙ sym (count-append flow visited (place ∷ []) ∙ ap (λ n. count_by (λ p. same_flow p.flow flow) visited + n) (count-one place flow is))))
  | inr other ↦
      set flow ∙ (cond-false (same_flow place.flow flow) (flow_number_of old place.flow + 1) (flow_number_of old flow) other
      ∙ (are flow ∙ sym (count-append flow visited (place ∷ []) ∙ (ap (λ n. count_by (λ p. same_flow p.flow flow) visited + n) (count-none place flow other) ∙ omega arith))))
]

-- a flow comes at most once in a slot, and slots count from 1
pub seldom-more : (visited : List Place) (place : Place) → 0 < place.slot
    → ((flow : Flow) (slot : ℕ) → AreBefore (slot * 65536 + flow.src) visited → count_by (λ p. same_flow p.flow flow) visited ≤ slot - 1) → AreBefore (order_of place) visited
    → (flow : Flow) (slot : ℕ) → AreBefore (slot * 65536 + flow.src) (visited ++ place ∷ []) → count_by (λ p. same_flow p.flow flow) (visited ++ place ∷ []) ≤ slot - 1
seldom-more visited place some seldom before flow slot all = elim (cases_Bool (same_flow place.flow flow)) [
  | inl is ↦
      let same : place.flow ≡ flow = same_flow-true place.flow flow is in
      let src : place.flow.src ≡ flow.src = ap (λ f. f.src) same in
      let so_far = seldom flow place.slot (subst (λ (f : Flow). AreBefore (place.slot * 65536 + f.src) visited) same before) in
      let last = end-before (slot * 65536 + flow.src) visited place all in
      let more = count-append flow visited (place ∷ []) in
      let one = count-one place flow is in omega (arith, some, src, so_far, last, more, one)
  | inr other ↦
      let so_far = seldom flow slot (front-before (slot * 65536 + flow.src) visited (place ∷ []) all) in
      let more = count-append flow visited (place ∷ []) in
      let none = count-none place flow other in omega (arith, so_far, more, none)
]

-- ---- rows

pub map-append : (slot : ℕ) (fs gs : List Flow) → in_slot slot (fs ++ gs) ≡ in_slot slot fs ++ in_slot slot gs
map-append slot [] gs = refl
map-append slot (f ∷ fs) gs = ap (λ ps. record { slot = slot; flow = f } ∷ ps) (map-append slot fs gs)

pub row-before : (slot src : ℕ) (xs : List (Option ℕ)) → AreBefore (slot * 65536 + (src + length xs)) (in_slot slot (flows_from src xs))
row-before slot src [] = All-nil (λ (p : Place). order_of p < slot * 65536 + (src + 0))
row-before slot src (None ∷ xs) = rest-before (slot * 65536 + ((src + 1) + length xs)) (slot * 65536 + (src + suc (length xs))) (in_slot slot (flows_from (src + 1) xs)) (omega arith) (row-before slot (src + 1) xs)
row-before slot src (Some dst ∷ xs) =
    All-cons (λ (p : Place). order_of p < slot * 65536 + (src + suc (length xs))) (record { slot = slot; flow = record { src = src; dst = dst } }) (in_slot slot (flows_from (src + 1) xs)) (omega arith)
    (rest-before (slot * 65536 + ((src + 1) + length xs)) (slot * 65536 + (src + suc (length xs))) (in_slot slot (flows_from (src + 1) xs)) (omega arith) (row-before slot (src + 1) xs))

pub both-before : (order : ℕ) (ps qs : List Place) → AreBefore order ps → AreBefore order qs → AreBefore order (ps ++ qs)
both-before order ps qs one other = All-append (λ (p : Place). order_of p < order) ps qs one other

-- the cells of a row so far, and one more
pub row-step : (slot src : ℕ) (visited : List Place) (row : List (Option ℕ)) (to : Option ℕ) → src < length row → to ≡ slice_index_or row src to
    → (visited ++ in_slot slot (flows_from 0 (take src row))) ++ in_slot slot (flows_from src (to ∷ [])) ≡ visited ++ in_slot slot (flows_from 0 (take (src + 1) row))
row-step slot src visited row to within is =
    append_assoc visited (in_slot slot (flows_from 0 (take src row))) (in_slot slot (flows_from src (to ∷ [])))
    ∙ ap (λ ps. visited ++ ps)
    (sym (map-append slot (flows_from 0 (take src row)) (flows_from src (to ∷ [])))
    ∙ ap (λ fs. in_slot slot fs)
    (ap (λ n. flows_from 0 (take src row) ++ flows_from n (to ∷ [])) (sym (taken))
    ∙ (sym (flows_from-append 0 (take src row) (to ∷ [])) ∙ ap (λ xs. flows_from 0 xs) (ap (λ x. take src row ++ x ∷ []) is ∙ sym (take_more row src to within)))))
  where
    taken : 0 + length (take src row) ≡ src
    taken = let len = length-take-le src row (omega (arith, within)) in omega (arith, len)

-- a flow's slots fit 32 bits, and all of them 64
pub few-slots : (held visited : List Place) (judges : Judges) (place : Place) → 0 < place.slot → place.slot < 2 ^ 32 → place.flow.src < 65536 → AreBefore (order_of place) visited → StandApart held visited judges → (length visited + 1 < 2 ^ 64) × (flow_number_of judges.slots place.flow + 1 < 2 ^ 32)
few-slots held visited judges place some slot src before stands =
    let few = stands.few (order_of place) before in
    let seldom = stands.seldom place.flow place.slot before in
    let is = stands.slots place.flow in (omega (arith, few, slot, src), omega (arith, seldom, some, slot, is))

-- ---- the flows of a row's cells

split-row : (row : List (Option ℕ)) (src : ℕ) (to : Option ℕ) → src < length row → to ≡ slice_index_or row src to → (row ≡ take src row ++ (to ∷ drop (suc src) row)) × (length (take src row) ≡ src)
split-row [] src to within is = absurd (omega arith)
split-row (x ∷ row) zero to within is = (ap (λ y. y ∷ row) (sym is), refl)
split-row (x ∷ row) (suc src) to within is = let rest = split-row row src to (omega arith) is in (ap (λ xs. x ∷ xs) rest.0, ap suc rest.1)

pub cell-between : (endpoints src : ℕ) (row : List (Option ℕ)) (to : Option ℕ) → src < length row → to ≡ slice_index_or row src to → FlowsAreBetween endpoints (flows_from 0 row) → FlowsAreBetween endpoints (flows_from src (to ∷ []))
cell-between endpoints src row to within is all =
    let P : Flow → Type 0 = λ f. (f.src < endpoints) × (f.dst < endpoints) in
    let parts = split-row row src to within is in
    let one = all_back P (flows_from 0 (take src row)) (flows_from (0 + length (take src row)) (to ∷ drop (suc src) row))
    (subst (λ fs. All P fs) (ap (λ xs. flows_from 0 xs) parts.0 ∙ flows_from-append 0 (take src row) (to ∷ drop (suc src) row)) all) in
    let at : 0 + length (take src row) ≡ src = omega (arith, parts.1) in
    All-front P (flows_from src (to ∷ [])) (flows_from (src + 1) (drop (suc src) row))
    (subst (λ fs. All P fs) (ap (λ n. flows_from n (to ∷ drop (suc src) row)) at ∙ flows_from-append src (to ∷ []) (drop (suc src) row)) one)

pub nothing-yet : (visited : List Place) (judges : Judges) → JudgesStand visited judges → JudgesStand (visited ++ []) judges
nothing-yet visited judges stands = subst (λ ps. JudgesStand ps judges) (sym (append-nil visited)) stands

-- before a cell come the places so far and those of its row
pub cells-before : (slot src : ℕ) (visited : List Place) (row : List (Option ℕ)) → src ≤ length row → AreBefore (slot * 65536) visited → AreBefore (slot * 65536 + src) (visited ++ in_slot slot (flows_from 0 (take src row)))
cells-before slot src visited row within before =
    both-before (slot * 65536 + src) visited (in_slot slot (flows_from 0 (take src row))) (rest-before (slot * 65536) (slot * 65536 + src) visited (omega arith) before)
    (rest-before (slot * 65536 + (0 + length (take src row))) (slot * 65536 + src) (in_slot slot (flows_from 0 (take src row))) (let long = taken row src within in omega (arith, long)) (row-before slot 0 (take src row)))
  where
    taken : (xs : List (Option ℕ)) (n : ℕ) → n ≤ length xs → length (take n xs) ≡ n
    taken xs zero le = refl
    taken [] (suc n) le = absurd (omega arith)
    taken (x ∷ xs) (suc n) le = ap suc (taken xs n (omega arith))

pub same-text : (a b d : Judges) → IsSameText a b → IsSameText b d → IsSameText a d
same-text a b d one other = record { net = other.net ∙ one.net; paths = other.paths ∙ one.paths; sends = other.sends ∙ one.sends }
