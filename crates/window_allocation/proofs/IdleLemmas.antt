-- Batches that change nothing.
use Rattle.std.proofs.Common.{◌≡◌, ◌≤◌, ◌+◌, ◌-◌, ◌*◌, ℕ, List, [], ◌∷◌, ◌++◌, length, take, drop, replicate, All, refl, sym, ap, ◌∙◌, arith}
use Rattle.std.proofs.lemmas.List.{append_assoc, replicate-append-replicate, take-append-drop}
use Rattle.std.proofs.lemmas.List.Elements.{All-head, All-tail}
use Rattle.list_facts.proofs.Numbers.{rows_on}
use Rattle.greedy_rules.specs.declared.flows.Flow.{Flow}
use Rattle.greedy_rules.specs.declared.flows.Item.{Item}
use Rattle.greedy_rules.specs.declared.flows.Entry.{Entry}
use Rattle.greedy_rules.specs.Batches.{DemandBatch}
use Rattle.greedy_rules.specs.Demands.{after_batch}
use Rattle.greedy_rules.specs.Limits.{is_barred}
use Rattle.greedy_rules.specs.Allocation.{batch_slots, list_after_slots}
use Rattle.greedy_rules.specs.Schedule.{first_slot, slots_then, list_then, schedule_from, rest_from}
use Rattle.slot_batches.specs.Feeding.{IsInOrder}
use Rattle.slot_batches.specs.NextList.{AnIdleListStays}
use Rattle.window_allocation.specs.Idle.{AreIdle}

next_place : (p b : ℕ) → b + p * b ≡ (1 + p) * b
next_place p b = grind arith

-- one such batch
one_stays : (b k : ℕ) (list : List Item) (batch : DemandBatch) → AnIdleListStays → IsInOrder list → All (λ item. item.need ≡ 0) list → batch.entries ≡ [] → (slots_then b k batch list ≡ replicate b []) × (list_then b k batch list ≡ list)
one_stays b k list batch stays order needs empty =
    let bar = is_barred batch.limits in
    let idle = stays bar (first_slot b k) b list order needs in (
      ap (λ (entries : List Entry). batch_slots bar (first_slot b k) b (after_batch entries list)) empty ∙ idle.0,
      ap (λ (entries : List Entry). list_after_slots bar (first_slot b k) b (after_batch entries list)) empty ∙ idle.1,
    )

-- so many: their slots are empty, and the list stays
pub idle_stay : (b k : ℕ) (list : List Item) (batches : List DemandBatch) → AnIdleListStays → IsInOrder list → AreIdle list batches → (schedule_from b k list batches ≡ replicate (length batches * b) []) × (rest_from b k list batches ≡ list)
idle_stay b k list [] stays order idle =
    let none : List Flow = [] in
    let no_place : 0 ≡ 0 * b = omega arith in (ap (λ (n : ℕ). replicate n none) no_place, refl)
idle_stay b k list (batch ∷ batches) stays order idle =
    let none : List Flow = [] in
    let needs = idle.no_needs (omega arith) in
    let one = one_stays b k list batch stays order needs (All-head (λ (d : DemandBatch). d.entries ≡ []) batch batches idle.no_entries) in
    let on = idle_stay b (k + 1) list batches stays order (record { no_entries = All-tail (λ (d : DemandBatch). d.entries ≡ []) batch batches idle.no_entries; no_needs = λ some. needs }) in
    let count : 1 + length batches ≡ length (batch ∷ batches) = omega arith in (
      (λ i. one.0 i ++ schedule_from b (k + 1) (one.1 i) batches)
          ∙ (ap (λ (xs : List (List Flow)). replicate b none ++ xs) on.0
          ∙ (replicate-append-replicate b (length batches * b) none ∙ ap (λ (n : ℕ). replicate n none) (next_place (length batches) b ∙ ap (λ (n : ℕ). n * b) count))),
      ap (λ (l : List Item). rest_from b (k + 1) l batches) one.1 ∙ on.1,
    )

-- their places, which were empty, stay as they are
pub places_stay : (passed n b : ℕ) (slots idle : List (List Flow)) → (passed + n) * b ≤ length slots → drop (passed * b) slots ≡ replicate (length slots - passed * b) [] → idle ≡ replicate (n * b) []
    → slots ≡ (take (passed * b) slots ++ idle) ++ replicate (length slots - (passed + n) * b) []
places_stay passed n b slots idle fits empty is =
    let none : List Flow = [] in
    let front : List (List Flow) = take (passed * b) slots in
    let left : ℕ = length slots - (passed + n) * b in
    let all : length slots - passed * b ≡ n * b + left = omega (arith, rows_on passed n b, fits) in
    sym (take-append-drop (passed * b) slots)
    ∙ (ap (λ (xs : List (List Flow)). front ++ xs) (empty ∙ (ap (λ (m : ℕ). replicate m none) all ∙ sym (replicate-append-replicate (n * b) left none)))
    ∙ (sym (append_assoc front (replicate (n * b) none) (replicate left none)) ∙ ap (λ (xs : List (List Flow)). (front ++ xs) ++ replicate left none) (sym is)))
