-- What the items before one leave of a slot for it.
use Rattle.std.proofs.Common.{◌≡◌, ◌<◌, ◌+◌, ℕ, zero, suc, List, [], ◌∷◌, ◌++◌, map, get_or, true, not, ◌&&◌, nat_lt, All, refl, ap, ◌∙◌, arith, inl, inr}
use Rattle.std.proofs.lemmas.Bool.{cases_Bool, cond-true, cond_both, or_left, or_right, and_from, lt-ltb, not_from_false, both_ways}
use Rattle.std.proofs.lemmas.List.Elements.{All-nil, All-cons, All-weaker}
use Rattle.greedy_rules.specs.declared.flows.Flow.{Flow}
use Rattle.greedy_rules.specs.declared.flows.Item.{Item}
use Rattle.greedy_rules.specs.Flows.{same_flow}
use Rattle.greedy_rules.specs.Demands.{is_listed}
use Rattle.greedy_rules.specs.Slot.{Bar, has_flow, slot_with, offered, chosen_after, greedy_slot}
use Rattle.greedy_rules.specs.Limits.{is_barred}
use Rattle.greedy_rules.specs.Allocation.{served, after_slot, batch_lists}
use Rattle.greedy_rules.specs.LeftOut.{EverySlotIsFilledInOrder, EveryBatchKeepsItsOrder}
use Rattle.greedy_rules.proofs.FlowOrder.{same_flow-refl}
use Rattle.greedy_rules.proofs.OnceLemmas.{FlowsAre, served_flow}
use Rattle.greedy_rules.proofs.SlotLemmas.{any-slot_with, All-slot_with, holds-chosen_after}

chosen_after-append : (bar : Bar) (slot : List Flow) (front later : List Item) → chosen_after bar slot (front ++ later) ≡ chosen_after bar (chosen_after bar slot front) later
chosen_after-append bar slot [] later = refl
chosen_after-append bar slot (item ∷ front) later = chosen_after-append bar (offered bar slot item) front later

-- a flow that was put in stays
has_flow-kept : (bar : Bar) (slot : List Flow) (list : List Item) (flow : Flow) → has_flow slot flow ≡ true → has_flow (chosen_after bar slot list) flow ≡ true
has_flow-kept bar slot [] flow has = has
has_flow-kept bar slot (item ∷ list) flow has =
    has_flow-kept bar (offered bar slot item) list flow
    (cond_both (nat_lt 0 item.need && not (bar slot item.flow)) (slot_with item.flow slot) slot (λ s. has_flow s flow ≡ true)
    (λ _. any-slot_with (λ f. same_flow f flow) item.flow slot ∙ or_right (same_flow item.flow flow) (has_flow slot flow) has) (λ _. has))

has_each : (slot : List Flow) → All (λ flow. has_flow slot flow ≡ true) slot
has_each [] = All-nil (λ flow. has_flow [] flow ≡ true)
has_each (flow ∷ slot) =
    let Has : Flow → Type 0 = λ f. has_flow (flow ∷ slot) f ≡ true in
    All-cons Has flow slot (or_left (same_flow flow flow) (has_flow slot flow) (same_flow-refl flow))
    (All-weaker (λ f. has_flow slot f ≡ true) Has (λ f has. or_right (same_flow flow f) (has_flow slot f) has) slot (has_each slot))

each_listed : (list : List Item) → FlowsAre (λ flow. is_listed list flow ≡ true) list
each_listed [] = All-nil (λ (item : Item). is_listed [] item.flow ≡ true)
each_listed (item ∷ list) =
    let Listed : Item → Type 0 = λ x. is_listed (item ∷ list) x.flow ≡ true in
    All-cons Listed item list (or_left (same_flow item.flow item.flow) (is_listed list item.flow) (same_flow-refl item.flow))
    (All-weaker (λ (x : Item). is_listed list x.flow ≡ true) Listed (λ x has. or_right (same_flow item.flow x.flow) (is_listed list x.flow) has) list (each_listed list))

pub every_slot_is_filled_in_order : EverySlotIsFilledInOrder
every_slot_is_filled_in_order limits front item later =
    let bar : Bar = is_barred limits in
    let first : List Flow = greedy_slot bar front in
    let whole : greedy_slot bar (front ++ item ∷ later) ≡ chosen_after bar (offered bar first item) later = chosen_after-append bar [] front (item ∷ later) in
    let Listed : Flow → Type 0 = λ flow. is_listed front flow ≡ true in
    record {
      chosen = All-weaker (λ flow. has_flow first flow ≡ true) (λ flow. has_flow (greedy_slot bar (front ++ item ∷ later)) flow ≡ true)
          (λ flow has. ap (λ (s : List Flow). has_flow s flow) (chosen_after-append bar [] front (item ∷ later)) ∙ has_flow-kept bar first (item ∷ later) flow has) first (has_each first);
      listed = holds-chosen_after bar Listed (All Listed) (λ slot flow is free all. All-slot_with Listed flow slot is all) [] front (each_listed front) (All-nil Listed);
      left_out = λ needs out. elim (cases_Bool (bar first item.flow)) [
        | inl barred ↦ barred
        | inr free ↦
            let fits : (nat_lt 0 item.need && not (bar first item.flow)) ≡ true = and_from _ _ (lt-ltb 0 item.need needs) (not_from_false _ free) in
            let put : offered bar first item ≡ slot_with item.flow first = cond-true (nat_lt 0 item.need && not (bar first item.flow)) (slot_with item.flow first) first fits in
            let here : has_flow (offered bar first item) item.flow ≡ true =
            ap (λ (s : List Flow). has_flow s item.flow) put
            ∙ (any-slot_with (λ f. same_flow f item.flow) item.flow first ∙ or_left (same_flow item.flow item.flow) (has_flow first item.flow) (same_flow-refl item.flow)) in
            absurd (both_ways (has_flow (greedy_slot bar (front ++ item ∷ later)) item.flow) out
            (ap (λ (s : List Flow). has_flow s item.flow) whole ∙ has_flow-kept bar (offered bar first item) later item.flow here))
      ];
    }

abbrev pub flows : List Item → List Flow
flows list = map (λ (item : Item). item.flow) list

flows-served : (number : ℕ) (slot : List Flow) (list : List Item) → flows (map (served number slot) list) ≡ flows list
flows-served number slot [] = refl
flows-served number slot (item ∷ list) = (λ i. served_flow number slot item i ∷ flows-served number slot list i)

kept_order : (bar : Bar) (number count at : ℕ) (list : List Item) → at < count → flows (get_or (batch_lists bar number count list) at []) ≡ flows list
kept_order bar number zero at list below = absurd (omega arith)
kept_order bar number (suc count) zero list below = refl
kept_order bar number (suc count) (suc at) list below =
    kept_order bar (number + 1) count at (after_slot bar number list) (omega arith) ∙ flows-served number (greedy_slot bar list) list

pub every_batch_keeps_its_order : EveryBatchKeepsItsOrder
every_batch_keeps_its_order limits number count at list below = kept_order (is_barred limits) number count at list below
