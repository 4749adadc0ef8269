-- A slot's walk along the whole list leaves the greedy slot, and each item served by it.
use Rattle.std.proofs.Common.{◌≡◌, ◌≢◌, ◌<◌, ◌+◌, ◌-◌, ℕ, List, [], ◌∷◌, ◌++◌, length, take, drop, set, get_or, map, true, false, not, ◌&&◌, ◌||◌, nat_lt, cond, All, refl, sym, ap, ◌∙◌, arith, inl, inr}
use Rattle.std.proofs.lemmas.Bool.{cond-true, cond-false, cond_both, cases_Bool, or_left, false_from_ne_true}
use Rattle.std.proofs.lemmas.List.{drop-set-lt, take_more_set, drop_more, append_assoc}
use Rattle.std.proofs.lemmas.List.Elements.{All-head, All-tail}
use Rattle.greedy_rules.specs.declared.flows.Flow.{Flow}
use Rattle.greedy_rules.specs.declared.flows.Item.{Item}
use Rattle.greedy_rules.specs.Flows.{same_flow}
use Rattle.greedy_rules.specs.Demands.{HasEachFlowOnce}
use Rattle.greedy_rules.specs.Slot.{Bar, has_flow, slot_with, offered, chosen_after}
use Rattle.greedy_rules.specs.Allocation.{served, after_slot}
use Rattle.greedy_rules.specs.Walk.{turn, walk}
use Rattle.greedy_rules.proofs.FlowOrder.{same_flow-true, same_flow-refl}
use Rattle.list_facts.proofs.Pairs.{AllPairs-tail, AllPairs-head}
use Rattle.greedy_rules.proofs.OnceLemmas.{InRange}
use Rattle.greedy_rules.proofs.SlotLemmas.{any-slot_with}

-- the flow of an item that is not in a list is in the slot after it exactly where it was before
absent : (bar : Bar) (slot : List Flow) (list : List Item) (flow : Flow) → All (λ item. flow ≢ item.flow) list → has_flow (chosen_after bar slot list) flow ≡ has_flow slot flow
absent bar slot [] flow others = refl
absent bar slot (item ∷ list) flow others =
    let other : same_flow item.flow flow ≡ false = false_from_ne_true _ (λ same. All-head (λ x. flow ≢ x.flow) item list others (sym (same_flow-true item.flow flow same))) in
    absent bar (offered bar slot item) list flow (All-tail (λ x. flow ≢ x.flow) item list others)
    ∙ cond_both (nat_lt 0 item.need && not (bar slot item.flow)) (slot_with item.flow slot) slot (λ s. has_flow s flow ≡ has_flow slot flow)
    (λ _. any-slot_with (λ chosen. same_flow chosen flow) item.flow slot ∙ ap (λ b. b || has_flow slot flow) other) (λ _. refl)

-- where the slot has none of the list's flows yet
abbrev NoneIn : List Flow → List Item → Type 0
NoneIn slot list = All (λ item. has_flow slot item.flow ≡ false) list

turn-served : (bar : Bar) (number : ℕ) (slot : List Flow) (item : Item) → has_flow slot item.flow ≡ false → turn bar number slot item ≡ served number (offered bar slot item) item
turn-served bar number slot item none =
    elim (cases_Bool (nat_lt 0 item.need && not (bar slot item.flow))) [
      | inl fits ↦
          let in_slot : has_flow (offered bar slot item) item.flow ≡ true =
          ap (λ (s : List Flow). has_flow s item.flow) (cond-true (nat_lt 0 item.need && not (bar slot item.flow)) (slot_with item.flow slot) slot fits)
          ∙ (any-slot_with (λ chosen. same_flow chosen item.flow) item.flow slot ∙ or_left _ _ (same_flow-refl item.flow)) in
          cond-true (nat_lt 0 item.need && not (bar slot item.flow)) (record item { need = item.need - 1; last = number }) item fits
          ∙ sym (cond-true (has_flow (offered bar slot item) item.flow) (record item { need = item.need - 1; last = number }) item in_slot)
      | inr not_fits ↦
          let out : has_flow (offered bar slot item) item.flow ≡ false =
          ap (λ (s : List Flow). has_flow s item.flow) (cond-false (nat_lt 0 item.need && not (bar slot item.flow)) (slot_with item.flow slot) slot not_fits) ∙ none in
          cond-false (nat_lt 0 item.need && not (bar slot item.flow)) (record item { need = item.need - 1; last = number }) item not_fits
          ∙ sym (cond-false (has_flow (offered bar slot item) item.flow) (record item { need = item.need - 1; last = number }) item out)
    ]

none_more : (bar : Bar) (slot : List Flow) (item : Item) (list : List Item) → All (λ x. item.flow ≢ x.flow) list → NoneIn slot list → NoneIn (offered bar slot item) list
none_more bar slot item list others none k d below =
    let x : Item = get_or list k d in
    let other : same_flow item.flow x.flow ≡ false = false_from_ne_true _ (λ same. others k d below (same_flow-true item.flow x.flow same)) in
    cond_both (nat_lt 0 item.need && not (bar slot item.flow)) (slot_with item.flow slot) slot (λ s. has_flow s x.flow ≡ false)
    (λ _. any-slot_with (λ chosen. same_flow chosen x.flow) item.flow slot ∙ (ap (λ b. b || has_flow slot x.flow) other ∙ none k d below)) (λ _. none k d below)

walk-served : (bar : Bar) (number : ℕ) (slot : List Flow) (list : List Item) → HasEachFlowOnce list → NoneIn slot list → walk bar number slot list ≡ map (served number (chosen_after bar slot list)) list
walk-served bar number slot [] once none = refl
walk-served bar number slot (item ∷ list) once none =
    let others : All (λ x. item.flow ≢ x.flow) list = AllPairs-head (λ (i j : Item). i.flow ≢ j.flow) item list once in
    let slot' : List Flow = offered bar slot item in
    let final : List Flow = chosen_after bar slot' list in
    let here : turn bar number slot item ≡ served number final item =
    turn-served bar number slot item (All-head (λ x. has_flow slot x.flow ≡ false) item list none)
    ∙ ap (λ b. cond b (record item { need = item.need - 1; last = number }) item) (sym (absent bar slot' list item.flow others)) in
    ap (λ (x : Item). x ∷ walk bar number slot' list) here
    ∙ ap (λ (xs : List Item). served number final item ∷ xs)
    (walk-served bar number slot' list (AllPairs-tail (λ (i j : Item). i.flow ≢ j.flow) item list once)
    (none_more bar slot item list others (All-tail (λ x. has_flow slot x.flow ≡ false) item list none)))

pub walk_is : (bar : Bar) (number : ℕ) (list : List Item) → HasEachFlowOnce list → walk bar number [] list ≡ after_slot bar number list
walk_is bar number list once = walk-served bar number [] list once (λ k d below. refl)

-- one item more had its turn
pub turn_more : (bar : Bar) (number : ℕ) (slot : List Flow) (items : List Item) (i : ℕ) (d item : Item) → i < length items → item ≡ turn bar number slot (get_or items i d)
    → take (i + 1) (set items i item) ++ walk bar number (offered bar slot (get_or items i d)) (drop (i + 1) (set items i item)) ≡ take i items ++ walk bar number slot (drop i items)
turn_more bar number slot items i d item below is =
    let x : Item = get_or items i d in
    let later : List Item = walk bar number (offered bar slot x) (drop (i + 1) items) in
    ap (λ (xs : List Item). take (i + 1) (set items i item) ++ walk bar number (offered bar slot x) xs) (drop-set-lt (i + 1) items i item (omega arith))
    ∙ (ap (λ (xs : List Item). xs ++ later) (take_more_set items i item below)
    ∙ (append_assoc (take i items) (item ∷ []) later
    ∙ (ap (λ (y : Item). take i items ++ (y ∷ later)) is
    ∙ ap (λ (xs : List Item). take i items ++ walk bar number slot xs) (sym (drop_more items i d below)))))

pub chosen_more : (bar : Bar) (slot : List Flow) (items : List Item) (i : ℕ) (d item : Item) → i < length items
    → chosen_after bar (offered bar slot (get_or items i d)) (drop (i + 1) (set items i item)) ≡ chosen_after bar slot (drop i items)
chosen_more bar slot items i d item below =
    ap (chosen_after bar (offered bar slot (get_or items i d))) (drop-set-lt (i + 1) items i item (omega arith))
    ∙ ap (chosen_after bar slot) (sym (drop_more items i d below))

pub turned_below : (endpoints : ℕ) (bar : Bar) (number : ℕ) (slot : List Flow) (item : Item) → InRange endpoints item → InRange endpoints (turn bar number slot item)
turned_below endpoints bar number slot item below =
    cond_both (nat_lt 0 item.need && not (bar slot item.flow)) (record item { need = item.need - 1; last = number }) item (InRange endpoints) (λ _. below) (λ _. below)
