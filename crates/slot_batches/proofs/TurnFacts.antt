-- What the turns of a batch keep of the items and of the slots.
use Rattle.std.proofs.Common.{◌≡◌, ◌≢◌, ◌<◌, ◌≤◌, ◌+◌, ◌-◌, ℕ, suc, List, [], ◌∷◌, length, All, not, ◌&&◌, nat_lt, refl, sym, ap, ◌∙◌, subst, arith, inl, inr}
use Rattle.std.proofs.lemmas.Bool.{cond_both}
use Rattle.std.proofs.lemmas.List.Elements.{All-nil, All-cons, All-head, All-tail, All-weaker}
use Rattle.greedy_rules.specs.declared.flows.Flow.{Flow}
use Rattle.greedy_rules.specs.declared.flows.Item.{Item}
use Rattle.greedy_rules.specs.Slot.{Bar}
use Rattle.greedy_rules.specs.Demands.{HasEachFlowOnce}
use Rattle.greedy_rules.proofs.OnceLemmas.{Other}
use Rattle.list_facts.proofs.Pairs.{AllPairs-cons, AllPairs-head, AllPairs-tail}
use Rattle.slot_batches.specs.FlowByFlow.{slots_with, item_after, slots_after, items_after}
use Rattle.slot_batches.proofs.SortedRuns.{item_after_cases}
use Rattle.slot_batches.proofs.FreePlaces.{length-slots_with, item_after-flow}

module _ (bar : Bar) where
  -- no need grows
  pub item_after_need : (number : ℕ) (item : Item) (slots : List (List Flow)) → (item_after bar number item slots).need ≤ item.need
  item_after_need number item [] = omega arith
  item_after_need number item (slot ∷ slots) =
      cond_both (nat_lt 0 item.need && not (bar slot item.flow)) (record item { need = item.need - 1; last = number }) item
      (λ now. (item_after bar (number + 1) now slots).need ≤ item.need)
      (λ _. omega (arith, item_after_need (number + 1) (record item { need = item.need - 1; last = number }) slots)) (λ _. item_after_need (number + 1) item slots)

  pub length-slots_after : (number : ℕ) (list : List Item) (slots : List (List Flow)) → length (slots_after bar number list slots) ≡ length slots
  length-slots_after number [] slots = refl
  length-slots_after number (item ∷ list) slots = length-slots_after number list (slots_with bar number item slots) ∙ length-slots_with bar number item slots

  pub length-items_after : (number : ℕ) (list : List Item) (slots : List (List Flow)) → length (items_after bar number list slots) ≡ length list
  length-items_after number [] slots = refl
  length-items_after number (item ∷ list) slots = ap (λ n. suc n) (length-items_after number list (slots_with bar number item slots))

  -- a fact on flows
  pub All-items_after : (P : Flow → Type 0) (number : ℕ) (list : List Item) (slots : List (List Flow)) → All (λ item. P item.flow) list → All (λ item. P item.flow) (items_after bar number list slots)
  All-items_after P number [] slots all = All-nil (λ item. P item.flow)
  All-items_after P number (item ∷ list) slots all =
      All-cons (λ x. P x.flow) (item_after bar number item slots) (items_after bar number list (slots_with bar number item slots))
      (subst P (sym (item_after-flow bar number item slots)) (All-head (λ x. P x.flow) item list all))
      (All-items_after P number list (slots_with bar number item slots) (All-tail (λ x. P x.flow) item list all))

  pub once-items_after : (number : ℕ) (list : List Item) (slots : List (List Flow)) → HasEachFlowOnce list → HasEachFlowOnce (items_after bar number list slots)
  once-items_after number [] slots once = once
  once-items_after number (item ∷ list) slots once =
      let now : Item = item_after bar number item slots in
      let kept : now.flow ≡ item.flow = item_after-flow bar number item slots in
      let others : All (Other now) list = All-weaker (Other item) (Other now) (λ x other e. other (sym kept ∙ e)) list (AllPairs-head Other item list once) in
      AllPairs-cons Other now (items_after bar number list (slots_with bar number item slots))
      (All-items_after (λ flow. now.flow ≢ flow) number list (slots_with bar number item slots) others)
      (once-items_after number list (slots_with bar number item slots) (AllPairs-tail Other item list once))

  -- every last is below the slot that follows the batch
  pub lasts-items_after : (number : ℕ) (list : List Item) (slots : List (List Flow)) → All (λ item. item.last < number) list
      → All (λ item. item.last < number + length slots) (items_after bar number list slots)
  lasts-items_after number [] slots below = All-nil (λ item. item.last < number + length slots)
  lasts-items_after number (item ∷ list) slots below =
      let now : Item = item_after bar number item slots in
      let later : List (List Flow) = slots_with bar number item slots in
      let long = length-slots_with bar number item slots in
      let here : now.last < number + length slots =
      elim (item_after_cases bar number item slots) [
        | inl same ↦ let kept : now.last ≡ item.last = ap (λ (x : Item). x.last) same in omega (arith, All-head (λ x. x.last < number) item list below)
        | inr within ↦ within.1
      ] in
      All-cons (λ x. x.last < number + length slots) now (items_after bar number list later) here
      (All-weaker (λ x. x.last < number + length later) (λ x. x.last < number + length slots) (λ x less. omega arith) (items_after bar number list later)
      (lasts-items_after number list later (All-tail (λ x. x.last < number) item list below)))
