-- A list whose items need no slot.
use Rattle.std.proofs.Common.{◌≡◌, ◌+◌, ℕ, zero, suc, List, [], ◌∷◌, map, replicate, false, not, ◌&&◌, nat_lt, All, refl, ap, ◌∙◌}
use Rattle.std.proofs.lemmas.Bool.{cond-false, and_left}
use Rattle.std.proofs.lemmas.List.{append-nil}
use Rattle.std.proofs.lemmas.List.Elements.{All-head, All-tail}
use Rattle.greedy_rules.specs.declared.flows.Flow.{Flow}
use Rattle.greedy_rules.specs.declared.flows.Item.{Item}
use Rattle.greedy_rules.specs.Slot.{Bar, slot_with, offered, chosen_after}
use Rattle.greedy_rules.specs.Demands.{by_last, with_batch, after_batch}
use Rattle.greedy_rules.specs.Allocation.{served, after_slot, batch_slots, list_through, list_after_slots}
use Rattle.slot_batches.specs.Feeding.{IsInOrder}
use Rattle.slot_batches.specs.NextList.{AnIdleListStays}
use Rattle.slot_batches.proofs.ListOrder.{sort_by-in_order}

abbrev pub NeedsNone : List Item → Type 0
NeedsNone list = All (λ item. item.need ≡ 0) list

module _ (bar : Bar) where
  pub none_chosen : (slot : List Flow) (list : List Item) → NeedsNone list → chosen_after bar slot list ≡ slot
  none_chosen slot [] none = refl
  none_chosen slot (item ∷ list) none =
      let no_need : nat_lt 0 item.need ≡ false = ap (nat_lt 0) (All-head (λ x. x.need ≡ 0) item list none) in
      let out : offered bar slot item ≡ slot = cond-false (nat_lt 0 item.need && not (bar slot item.flow)) (slot_with item.flow slot) slot (and_left _ _ no_need) in
      ap (λ (s : List Flow). chosen_after bar s list) out ∙ none_chosen slot list (All-tail (λ x. x.need ≡ 0) item list none)

  none_served : (number : ℕ) (list : List Item) → map (served number []) list ≡ list
  none_served number [] = refl
  none_served number (item ∷ list) = ap (λ (xs : List Item). item ∷ xs) (none_served number list)

  stays : (number : ℕ) (list : List Item) → NeedsNone list → after_slot bar number list ≡ list
  stays number list none = ap (λ (slot : List Flow). map (served number slot) list) (none_chosen [] list none) ∙ none_served number list

  no_slots : (number count : ℕ) (list : List Item) → NeedsNone list → batch_slots bar number count list ≡ replicate count []
  no_slots number zero list none = refl
  no_slots number (suc count) list none =
      ap (λ (slot : List Flow). slot ∷ batch_slots bar (number + 1) count (after_slot bar number list)) (none_chosen [] list none)
      ∙ ap (λ (slots : List (List Flow)). [] ∷ slots)
      (ap (batch_slots bar (number + 1) count) (stays number list none) ∙ no_slots (number + 1) count list none)

  through : (number count : ℕ) (list : List Item) → NeedsNone list → list_through bar number count list ≡ list
  through number zero list none = refl
  through number (suc count) list none = ap (list_through bar (number + 1) count) (stays number list none) ∙ through (number + 1) count list none

no_entry : (list : List Item) → map (with_batch []) list ≡ list
no_entry [] = refl
no_entry (item ∷ list) = ap (λ (xs : List Item). item ∷ xs) (no_entry list)

nothing_applied : (list : List Item) → IsInOrder list → after_batch [] list ≡ list
nothing_applied list up =
    ap by_last (append-nil (map (with_batch []) list) ∙ no_entry list) ∙ sort_by-in_order (λ (item : Item). item.last) list up

pub idle_list_stays : AnIdleListStays
idle_list_stays bar number count list up none =
    let same = nothing_applied list up in (
      ap (batch_slots bar number count) same ∙ no_slots bar number count list none,
      ap (list_after_slots bar number count) same ∙ (ap by_last (through bar number count list none) ∙ sort_by-in_order (λ (item : Item). item.last) list up),
    )
