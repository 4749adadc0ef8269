-- A batch that is entered destination by destination.
use Rattle.std.proofs.Common.{◌≡◌, ◌≤◌, ◌+◌, ◌-◌, ℕ, true, List, [], ◌∷◌, ◌++◌, IsTrue, Some, slice_get, get_or, set, sym, ap, subst, refl, arith, inl, inr, ◌∙◌}
use Rattle.std.proofs.lemmas.Bool.{cases_eq}
use Rattle.std.proofs.lemmas.List.{get_or-set_same, get_or-set_other, length-set, append_assoc}
use Rattle.std.proofs.lemmas.Option.{slice_get_within, get_or_from_slice_get}
use Rattle.std.proofs.lemmas.Bool.Decides.{nat_tests}
use Rattle.std.proofs.Common.{Bool, Option, None, option_to_list, zero, suc}
use Rattle.std.specs.List.{filter_map, range_with_len, cons_option}
use Rattle.std.specs.Option.{option_and_then}
use Rattle.std.proofs.lemmas.List.Elements.{filter_map-append}
use Rattle.list_facts.proofs.Lists.{next_number}
use Rattle.arbiter_lane.specs.Lines.{entry_on}
use Rattle.arbiter_lane.specs.Parts.{entry_of_line}
use Rattle.greedy_rules.specs.declared.flows.Flow.{Flow}
use Rattle.greedy_rules.specs.declared.flows.Entry.{Entry}
use Rattle.greedy_rules.specs.Flows.{flow_below}
use Rattle.greedy_rules.specs.Batches.{IsAboveLast}
use Rattle.greedy_rules.proofs.Facts.{flow_below-trans}
use Rattle.arbiter_lane.specs.declared.line.LaneLine.{LaneLine}
use Rattle.arbiter_lane.specs.Lines.{Become}
use Rattle.arbiter_lane.proofs.Changes.{UpTo, line_between}

-- ---- the batch stays below the next flow

below_next : (src dst : ℕ) → flow_below (record { src = src; dst = dst }) (record { src = src; dst = dst + 1 }) ≡ true
below_next src dst = grind (arith, nat_tests)

pub above_later : (entries : List Entry) (src dst : ℕ) → IsAboveLast entries (record { src = src; dst = dst }) → IsAboveLast entries (record { src = src; dst = dst + 1 })
above_later [] src dst above = tt
above_later (entry ∷ []) src dst above = flow_below-trans entry.flow (record { src = src; dst = dst }) (record { src = src; dst = dst + 1 }) above (below_next src dst)
above_later (_ ∷ (next ∷ entries)) src dst above = above_later (next ∷ entries) src dst above

pub above_pushed : (entries : List Entry) (entry : Entry) (src dst : ℕ) → entry.flow ≡ record { src = src; dst = dst } → IsAboveLast (entries ++ entry ∷ []) (record { src = src; dst = dst + 1 })
above_pushed [] entry src dst is = subst (λ (flow : Flow). IsTrue (flow_below flow (record { src = src; dst = dst + 1 }))) (sym is) (below_next src dst)
above_pushed (first ∷ []) entry src dst is = above_pushed [] entry src dst is
above_pushed (_ ∷ (next ∷ entries)) entry src dst is = above_pushed (next ∷ entries) entry src dst is

-- and so below each later flow of its source
above_more : (entries : List Entry) (src n m : ℕ) → IsAboveLast entries (record { src = src; dst = n }) → IsAboveLast entries (record { src = src; dst = n + m })
above_more entries src n zero above =
    let same : n ≡ n + zero = omega arith in
    subst (λ (d : ℕ). IsAboveLast entries (record { src = src; dst = d })) same above
above_more entries src n (suc m) above =
    let next : n + m + 1 ≡ n + suc m = omega arith in
    subst (λ (d : ℕ). IsAboveLast entries (record { src = src; dst = d })) next (above_later entries src (n + m) (above_more entries src n m above))

pub above_upward : (entries : List Entry) (src from to : ℕ) → from ≤ to → IsAboveLast entries (record { src = src; dst = from }) → IsAboveLast entries (record { src = src; dst = to })
above_upward entries src from to upward above =
    let whole : from + (to - from) ≡ to = omega (arith, upward) in
    subst (λ (d : ℕ). IsAboveLast entries (record { src = src; dst = d })) whole (above_more entries src from (to - from) above)

-- ---- the lines

-- the line of the next destination is still as it was
pub still : (relation : ℕ → LaneLine → LaneLine → Type 0) (before lines : List LaneLine) (at : ℕ) (line : LaneLine) → Become (UpTo relation at) before lines → slice_get lines at ≡ Some line → slice_get before at ≡ Some line
still relation before lines at line become here =
    let there = line_between lines before (sym become.as_many) at line here in
    let same : line ≡ get_or before at line = (become.each at (get_or before at line) line there here).1 (omega arith) in
    there ∙ ap Some (sym same)

-- and once it has changed the lines up to it have
pub changed_next : (relation : ℕ → LaneLine → LaneLine → Type 0) (before lines : List LaneLine) (at : ℕ) (old new : LaneLine) → Become (UpTo relation at) before lines → slice_get lines at ≡ Some old → relation at old new →
    Become (UpTo relation (at + 1)) before (set lines at new)
changed_next relation before lines at old new become here changed = record {
  as_many = length-set lines at new ∙ become.as_many;
  each = λ dst x z was is. elim (cases_eq dst at) [
    | inl same ↦
        let at_it : slice_get before at ≡ Some x = subst (λ d. slice_get before d ≡ Some x) same was in
        let x_is : x ≡ old = sym (get_or_from_slice_get before at x old at_it) ∙ get_or_from_slice_get before at old old (still relation before lines at old become here) in
        let z_is : z ≡ new = sym (get_or_from_slice_get (set lines at new) dst z new is) ∙ (ap (λ i. get_or (set lines at new) i new) same ∙ get_or-set_same lines at new new (slice_get_within lines at old here)) in (
          (λ below. subst (λ d. relation d x z) (sym same) (subst (λ x. relation at x z) (sym x_is) (subst (λ z. relation at old z) (sym z_is) changed))),
          (λ above. absurd (omega (arith, same, above))),
        )
    | inr other ↦
        let there = line_between before lines become.as_many dst x was in
        let z_is : z ≡ get_or lines dst x = sym (get_or_from_slice_get (set lines at new) dst z x is) ∙ get_or-set_other lines at dst new x other in
        let up_to = become.each dst x (get_or lines dst x) was there in
        ((λ below. subst (λ z. relation dst x z) (sym z_is) (up_to.0 (omega (arith, below, other)))), (λ above. z_is ∙ up_to.1 (omega (arith, above))))
  ];
}

-- ---- the entries

-- one destination more
cons_option-none : {X : Type 0} (o : Option X) → cons_option o [] ≡ option_to_list o
cons_option-none None = refl
cons_option-none (Some x) = refl

pub filter_map-more : {X : Type 0} (h : ℕ → Option X) (n : ℕ) → filter_map h (range_with_len 0 n) ++ option_to_list (h n) ≡ filter_map h (range_with_len 0 (n + 1))
filter_map-more h n =
    let more : range_with_len 0 (n + 1) ≡ range_with_len 0 n ++ n ∷ [] =
    (let same : 0 + n ≡ n = omega arith in next_number 0 n ∙ ap (λ (k : ℕ). range_with_len 0 n ++ k ∷ []) same) in
    sym (ap (filter_map h) more ∙ (filter_map-append h (range_with_len 0 n) (n ∷ []) ∙ ap (λ l. filter_map h (range_with_len 0 n) ++ l) (cons_option-none (h n))))

-- the entries up to a line, and that of the line
pub entries_next : (batch : List Entry) (lines : List LaneLine) (endpoint : ℕ) (resets : Bool) (at : ℕ) (line : LaneLine) → slice_get lines at ≡ Some line →
    (batch ++ filter_map (entry_of_line lines endpoint resets) (range_with_len 0 at)) ++ option_to_list (entry_on line (record { src = endpoint; dst = at }) resets)
    ≡ batch ++ filter_map (entry_of_line lines endpoint resets) (range_with_len 0 (at + 1))
entries_next batch lines endpoint resets at line here =
    let entry : Option LaneLine → Option Entry = option_and_then (λ (l : LaneLine). entry_on l (record { src = endpoint; dst = at }) resets) in
    let same : entry_of_line lines endpoint resets at ≡ entry_on line (record { src = endpoint; dst = at }) resets = ap entry here in
    append_assoc batch (filter_map (entry_of_line lines endpoint resets) (range_with_len 0 at)) (option_to_list (entry_on line (record { src = endpoint; dst = at }) resets))
    ∙ ap (λ xs. batch ++ xs) (ap (λ o. filter_map (entry_of_line lines endpoint resets) (range_with_len 0 at) ++ option_to_list o) (sym same) ∙ filter_map-more (entry_of_line lines endpoint resets) at)
