-- The slots of a batch, place by place: what is filled, and what is left to fill.
use Rattle.std.proofs.Common.{◌≡◌, ◌≤◌, ◌<◌, ◌+◌, ◌-◌, ℕ, suc, List, [], ◌∷◌, ◌++◌, length, set, take, drop, replicate, sym, ap, ◌∙◌, arith}
use Rattle.std.proofs.lemmas.List.{drop-set-lt, take_more_set, drop_more, append_assoc}
use Rattle.greedy_rules.specs.declared.flows.Flow.{Flow}
use Rattle.greedy_rules.specs.declared.flows.Item.{Item}
use Rattle.greedy_rules.specs.Slot.{Bar, greedy_slot}
use Rattle.greedy_rules.specs.Schedule.{slot_in}
use Rattle.greedy_rules.specs.Allocation.{after_slot, batch_slots, list_through, list_after_slots}
use Rattle.greedy_rules.specs.Demands.{by_last}

-- the next of the slots that are left
abbrev one_more : ℕ → ℕ → Type 0
one_more offset b = b - offset ≡ suc (b - (offset + 1))

pub slots_more : (bar : Bar) (first offset b : ℕ) (slots : List (List Flow)) (list : List Item) → offset < b → offset < length slots
    → take (offset + 1) (set slots offset (greedy_slot bar list)) ++ batch_slots bar (first + (offset + 1)) (b - (offset + 1)) (after_slot bar (first + offset) list)
    ≡ take offset slots ++ batch_slots bar (first + offset) (b - offset) list
slots_more bar first offset b slots list more within =
    let left : one_more offset b = omega arith in
    let number : first + (offset + 1) ≡ (first + offset) + 1 = omega arith in
    let later : List Item = after_slot bar (first + offset) list in
    ap (λ (xs : List (List Flow)). xs ++ batch_slots bar (first + (offset + 1)) (b - (offset + 1)) later) (take_more_set slots offset (greedy_slot bar list) within)
    ∙ (append_assoc (take offset slots) (greedy_slot bar list ∷ []) (batch_slots bar (first + (offset + 1)) (b - (offset + 1)) later)
    ∙ (ap (λ (n : ℕ). take offset slots ++ (greedy_slot bar list ∷ batch_slots bar n (b - (offset + 1)) later)) number
    ∙ ap (λ (n : ℕ). take offset slots ++ batch_slots bar (first + offset) n list) (sym left)))

pub list_more : (bar : Bar) (first offset b : ℕ) (list : List Item) → offset < b
    → list_through bar (first + (offset + 1)) (b - (offset + 1)) (after_slot bar (first + offset) list) ≡ list_through bar (first + offset) (b - offset) list
list_more bar first offset b list more =
    let left : one_more offset b = omega arith in
    let number : first + (offset + 1) ≡ (first + offset) + 1 = omega arith in
    ap (λ (n : ℕ). list_through bar n (b - (offset + 1)) (after_slot bar (first + offset) list)) number
    ∙ ap (λ (n : ℕ). list_through bar (first + offset) n list) (sym left)

-- the places that are left are empty
pub empty_more : (offset n : ℕ) (slots : List (List Flow)) (slot : List Flow) → offset < length slots → offset < n → drop offset slots ≡ replicate (n - offset) []
    → (slot_in slots offset ≡ []) × (drop (offset + 1) (set slots offset slot) ≡ replicate (n - (offset + 1)) [])
empty_more offset n slots slot within more left =
    let none : List Flow = [] in
    let one : n - offset ≡ suc (n - (offset + 1)) = omega arith in
    let split : slot_in slots offset ∷ drop (offset + 1) slots ≡ none ∷ replicate (n - (offset + 1)) none =
    sym (drop_more slots offset none within) ∙ (left ∙ ap (λ (m : ℕ). replicate m none) one) in
    let head : slot_in slots offset ≡ none = cc in
    let tail : drop (offset + 1) slots ≡ replicate (n - (offset + 1)) none = cc in
    (head, drop-set-lt (offset + 1) slots offset slot (omega arith) ∙ tail)

-- once no slot is left, the list is the batch's but for its order
pub all_taken : (bar : Bar) (first offset b : ℕ) (list begun applied : List Item) → b ≤ offset → list_through bar (first + offset) (b - offset) list ≡ list_through bar first b begun → begun ≡ applied
    → by_last list ≡ list_after_slots bar first b applied
all_taken bar first offset b list begun applied ended through is =
    let none_left : 0 ≡ b - offset = omega arith in
    ap by_last (ap (λ (n : ℕ). list_through bar (first + offset) n list) none_left ∙ through) ∙ ap (list_after_slots bar first b) is
