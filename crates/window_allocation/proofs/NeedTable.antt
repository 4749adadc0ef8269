-- The table of needs, one item after another.
use Rattle.std.proofs.Common.{◌≡◌, ◌≢◌, ◌<◌, ◌+◌, ◌*◌, ℕ, suc, List, [], ◌∷◌, ◌++◌, length, get_or, set, take, replicate, Option, Some, None, All, slice_get, refl, sym, ap, ◌∙◌, arith, inl, inr}
use Rattle.std.specs.Option.{option_or}
use Rattle.std.proofs.lemmas.Bool.{cond-true, cond-false, eq-eqb, and_from, cases_eq}
use Rattle.std.proofs.lemmas.Option.{get_or_from_slice_get}
use Rattle.std.proofs.lemmas.Nat.{same_from_place, mul-add-lt}
use Rattle.std.proofs.lemmas.List.{get_or-set_same, get_or-set_other, length-set, length-replicate, get_or-replicate, take_more, get_or-take, length-take}
use Rattle.std.proofs.lemmas.List.Folds.{find-append}
use Rattle.list_facts.proofs.Options.{option_or-none}
use Rattle.greedy_rules.specs.declared.flows.Flow.{Flow}
use Rattle.greedy_rules.specs.declared.flows.Item.{Item}
use Rattle.greedy_rules.specs.Flows.{same_flow}
use Rattle.greedy_rules.specs.Demands.{HasEachFlowOnce, item_of, need_in}
use Rattle.greedy_rules.proofs.CellLemmas.{differs}
use Rattle.greedy_rules.specs.Cells.{flow_of}
use Rattle.window_allocation.specs.Needs.{Needs, place_of}

-- no item of another flow is the flow's
item_of-other : (items : List Item) (flow : Flow) → All (λ i. i.flow ≢ flow) items → item_of items flow ≡ None
item_of-other [] flow other = refl
item_of-other (i ∷ items) flow other =
    cond-false (same_flow i.flow flow) (Some i) (item_of items flow) (differs i.flow flow (other 0 i (omega arith)))
    ∙ item_of-other items flow (λ k d below. other (suc k) d (omega arith))

item_of-one : (item : Item) → item_of (item ∷ []) item.flow ≡ Some item
item_of-one item = cond-true (same_flow item.flow item.flow) (Some item) None (and_from _ _ (eq-eqb item.flow.src item.flow.src refl) (eq-eqb item.flow.dst item.flow.dst refl))

-- a list with one item more
item_of-more : (items : List Item) (at : ℕ) (item : Item) (flow : Flow) → at < length items → slice_get items at ≡ Some item
    → item_of (take (at + 1) items) flow ≡ option_or (item_of (take at items) flow) (item_of (item ∷ []) flow)
item_of-more items at item flow below is =
    ap (λ (xs : List Item). item_of xs flow) (take_more items at item below ∙ ap (λ (x : Item). take at items ++ x ∷ []) (get_or_from_slice_get items at item item is))
    ∙ find-append (λ (i : Item). same_flow i.flow flow) (take at items) (item ∷ [])

earlier_others : (items : List Item) (at : ℕ) (item : Item) → HasEachFlowOnce items → at < length items → slice_get items at ≡ Some item → All (λ i. i.flow ≢ item.flow) (take at items)
earlier_others items at item once below is k d within =
    let under : k < at = omega (arith, length-take at items) in
    let apart : (get_or items k d).flow ≢ (get_or items at d).flow = once k at d under below in
    let that : get_or items at d ≡ item = get_or_from_slice_get items at item d is in
    let this : get_or (take at items) k d ≡ get_or items k d = get_or-take at items k d under in
    λ same. apart (ap (λ (i : Item). i.flow) (sym this) ∙ (same ∙ ap (λ (i : Item). i.flow) (sym that)))

pub needs_none : (endpoints n : ℕ) → n ≡ endpoints * endpoints → Needs endpoints [] (replicate n 0)
needs_none endpoints n is = record {
  long = length-replicate n 0 ∙ is;
  at = λ src dst s d. get_or-replicate n (place_of endpoints src dst) 0 0 (omega (arith, mul-add-lt src endpoints dst endpoints s d));
}

pub needs_more : (endpoints : ℕ) (items : List Item) (at : ℕ) (item : Item) (table : List ℕ) → at < length items → slice_get items at ≡ Some item → HasEachFlowOnce items
    → (item.flow.src < endpoints) × (item.flow.dst < endpoints) → Needs endpoints (take at items) table
    → Needs endpoints (take (at + 1) items) (set table (place_of endpoints item.flow.src item.flow.dst) item.need)
needs_more endpoints items at item table below is once within needs =
    let p : ℕ = place_of endpoints item.flow.src item.flow.dst in
    let inside : p < endpoints * endpoints = mul-add-lt item.flow.src endpoints item.flow.dst endpoints within.0 within.1 in
    record {
      long = length-set table p item.need ∙ needs.long;
      at = λ src dst s d.
          let q : ℕ = place_of endpoints src dst in
          let flow : Flow = flow_of src dst in
          elim (cases_eq q p) [
            | inl same ↦
                let parts = same_from_place src dst item.flow.src item.flow.dst endpoints d within.1 same in
                let own : flow ≡ item.flow = ap (λ (n : ℕ). flow_of n dst) parts.0 ∙ ap (λ (n : ℕ). flow_of item.flow.src n) parts.1 in
                let found : item_of (take (at + 1) items) item.flow ≡ Some item =
                item_of-more items at item item.flow below is
                ∙ (ap (λ (o : Option Item). option_or o (item_of (item ∷ []) item.flow)) (item_of-other (take at items) item.flow (earlier_others items at item once below is)) ∙ item_of-one item) in
                ap (λ (n : ℕ). get_or (set table p item.need) n 0) same
                ∙ (get_or-set_same table p item.need 0 (omega (arith, needs.long))
                ∙ (sym (ap need_in found) ∙ ap (λ (f : Flow). need_in (item_of (take (at + 1) items) f)) (sym own)))
            | inr other ↦
                let apart : item.flow ≢ flow = λ e. other (ap (λ (f : Flow). place_of endpoints f.src f.dst) (sym e)) in
                let none : item_of (item ∷ []) flow ≡ None = cond-false (same_flow item.flow flow) (Some item) None (differs item.flow flow apart) in
                let found : item_of (take (at + 1) items) flow ≡ item_of (take at items) flow =
                item_of-more items at item flow below is ∙ (ap (λ (o : Option Item). option_or (item_of (take at items) flow) o) none ∙ option_or-none (item_of (take at items) flow)) in
                get_or-set_other table p q item.need 0 other ∙ (needs.at src dst s d ∙ sym (ap need_in found))
          ];
    }
