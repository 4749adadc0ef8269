-- The cores that paths show.
use Rattle.std.proofs.Common.{◌≡◌, ◌<◌, ◌≤◌, ◌+◌, ◌-◌, ℕ, zero, suc, List, [], ◌∷◌, ◌++◌, map, length, get_or, Option, Some, All, refl, sym, ap, ◌∙◌, subst, arith}
use Rattle.std.proofs.lemmas.List.Elements.{All-nil, All-cons, All-head, All-tail, All-append, All-map}
use Rattle.greedy_rules.specs.declared.flows.Flow.{Flow}
use Rattle.greedy_rules.specs.Schedule.{slot_in, slot_at}
use Rattle.clos_topology.specs.NetSlots.{SlotCores}
use Rattle.report_text.specs.declared.line.Line.{Line}
use Rattle.schedule_audit.specs.declared.packets.Path.{Path}
use Rattle.schedule_audit.specs.Laws.{read}
use Rattle.own_texts.specs.SameCores.{AgreeOn}
use Rattle.own_texts.proofs.Shows.{path_at, paths_by}

-- a path's core is the one that these name for it
abbrev IsBy : SlotCores → Path → Type 0
IsBy cores p = p.core ≡ cores p.place.slot p.place.flow.src

by_own : (cores : SlotCores) (number : ℕ) (slots : List (List Flow)) → All (IsBy cores) (paths_by cores number slots)
by_own cores number [] = All-nil (IsBy cores)
by_own cores number (slot ∷ slots) =
    All-append (IsBy cores) (map (path_at number (cores number)) slot) (paths_by cores (number + 1) slots) (All-map (IsBy cores) (path_at number (cores number)) slot (λ i d within. refl)) (by_own cores (number + 1) slots)

parts_of : (P : Path → Type 0) (xs ys : List Path) → All P (xs ++ ys) → All P xs × All P ys
parts_of P [] ys all = (All-nil P, all)
parts_of P (x ∷ xs) ys all =
    let more = parts_of P xs ys (All-tail P x (xs ++ ys) all) in
    (All-cons P x xs (All-head P x (xs ++ ys) all) more.0, more.1)

of_slot : (P : Path → Type 0) (f : Flow → Path) (slot : List Flow) → All P (map f slot) → All (λ flow. P (f flow)) slot
of_slot P f [] all = All-nil (λ flow. P (f flow))
of_slot P f (x ∷ slot) all = All-cons (λ flow. P (f flow)) x slot (All-head P (f x) (map f slot) all) (of_slot P f slot (All-tail P (f x) (map f slot) all))

agree_from : (cores others : SlotCores) (number : ℕ) (slots : List (List Flow)) → All (IsBy others) (paths_by cores number slots)
    → (at : ℕ) → All (λ flow. cores (number + at) flow.src ≡ others (number + at) flow.src) (slot_in slots at)
agree_from cores others number [] all at = All-nil (λ (flow : Flow). cores (number + at) flow.src ≡ others (number + at) flow.src)
agree_from cores others number (slot ∷ slots) all zero =
    let same : number ≡ number + 0 = omega arith in
    subst (λ (n : ℕ). All (λ flow. cores n flow.src ≡ others n flow.src) slot) same
    (of_slot (IsBy others) (path_at number (cores number)) slot (parts_of (IsBy others) (map (path_at number (cores number)) slot) (paths_by cores (number + 1) slots) all).0)
agree_from cores others number (slot ∷ slots) all (suc at) =
    let same : number + 1 + at ≡ number + suc at = omega arith in
    subst (λ (n : ℕ). All (λ flow. cores n flow.src ≡ others n flow.src) (slot_in slots at)) same
    (agree_from cores others (number + 1) slots (parts_of (IsBy others) (map (path_at number (cores number)) slot) (paths_by cores (number + 1) slots) all).1 at)

-- where the paths are the same, so are the cores
pub agree : (cores others : SlotCores) (slots later : List (List Flow)) → paths_by cores 1 slots ≡ paths_by others 1 later → AgreeOn slots cores others
agree cores others slots later same number some =
    let there : 1 + (number - 1) ≡ number = omega arith in
    subst (λ (n : ℕ). All (λ flow. cores n flow.src ≡ others n flow.src) (slot_at slots number)) there
    (agree_from cores others 1 slots (subst (All (IsBy others)) (sym same) (by_own others 1 later)) (number - 1))
