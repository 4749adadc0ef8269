-- What an endpoint sends of a batch, slot by slot.
use Rattle.std.proofs.Common.{◌≡◌, ◌<◌, ◌+◌, ◌==◌, ℕ, zero, suc, List, [], ◌∷◌, ◌++◌, take, length, Option, All, inl, inr, sym, ap, ◌∙◌, subst, arith, add-one}
use Rattle.std.specs.Prelude.{IfSome}
use Rattle.std.proofs.lemmas.Bool.{cases_Bool}
use Rattle.std.proofs.lemmas.List.{append_assoc, append-nil}
use Rattle.std.proofs.lemmas.List.Elements.{All-head, All-tail}
use Rattle.greedy_rules.specs.declared.flows.Flow.{Flow}
use Rattle.greedy_rules.specs.SlotTable.{destination_of, IsSlotOf}
use Rattle.greedy_rules.specs.Schedule.{slot_in}
use Rattle.takeover_history.specs.Endpoints.{Send, send_to, own_sends}

more : (src number k : ℕ) (slots : List (List Flow)) → k < length slots
    → own_sends src number (take (suc k) slots) ≡ own_sends src number (take k slots) ++ send_to src (number + k) (destination_of (slot_in slots k) src)
more src number k [] within = absurd (omega arith)
more src number zero (slot ∷ slots) within = append-nil (send_to src number (destination_of slot src)) ∙ ap (λ (n : ℕ). send_to src n (destination_of slot src)) (omega arith)
more src number (suc k) (slot ∷ slots) within =
    let here : List Send = send_to src number (destination_of slot src) in
    ap (λ (xs : List Send). here ++ xs)
    (more src (number + 1) k slots (omega arith) ∙ ap (λ (n : ℕ). own_sends src (number + 1) (take k slots) ++ send_to src n (destination_of (slot_in slots k) src)) (omega arith))
    ∙ sym (append_assoc here (own_sends src (number + 1) (take k slots)) (send_to src (number + suc k) (destination_of (slot_in slots k) src)))

-- one slot more
pub own_sends-more : (src number k : ℕ) (slots : List (List Flow)) → k < length slots
    → own_sends src number (take (k + 1) slots) ≡ own_sends src number (take k slots) ++ send_to src (number + k) (destination_of (slot_in slots k) src)
own_sends-more src number k slots within = ap (λ (n : ℕ). own_sends src number (take n slots)) (add-one k) ∙ more src number k slots within

-- where a source sends is in range
to_in_range : (endpoints src : ℕ) (slot : List Flow) → All (λ flow. (flow.src < endpoints) × (flow.dst < endpoints)) slot → IfSome (destination_of slot src) (λ dst. dst < endpoints)
to_in_range endpoints src [] all = tt
to_in_range endpoints src (f ∷ slot) all = elim (cases_Bool (f.src == src)) [
  | inl here ↦ rw here (All-head (λ (flow : Flow). (flow.src < endpoints) × (flow.dst < endpoints)) f slot all).1
  | inr other ↦ rw other (to_in_range endpoints src slot (All-tail (λ (flow : Flow). (flow.src < endpoints) × (flow.dst < endpoints)) f slot all))
]

pub destination_in_range : (endpoints other src at : ℕ) (slots : List (List Flow)) (to : Option ℕ) → All (IsSlotOf endpoints) slots → at < length slots → to ≡ destination_of (slot_in slots at) src → endpoints ≡ other
    → IfSome to (λ dst. dst < other)
destination_in_range endpoints other src at slots to all within is same =
    subst (λ (n : ℕ). IfSome to (λ dst. dst < n)) same
    (subst (λ (o : Option ℕ). IfSome o (λ dst. dst < endpoints)) (sym is) (to_in_range endpoints src (slot_in slots at) (all at [] within).in_range))
