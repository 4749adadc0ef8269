-- What racks' limits bar: whoever is taken, for good, and what is one too many for a rack.
use Rattle.std.proofs.Common.{◌≡◌, ◌<◌, ◌≤◌, ◌+◌, ℕ, List, Bool, true, false, not, ◌==◌, ◌&&◌, ◌||◌, nat_lt, cond, refl, sym, ap, ◌∙◌, subst, arith, inl, inr}
use Rattle.std.specs.List.{count_by}
use Rattle.std.proofs.lemmas.Bool.{or_left, or_right, or_parts, or_cases, and_parts, and_from, eqb-true, ltb-true, not-false}
use Rattle.std.proofs.lemmas.Bool.Decides.{nat_tests}
use Rattle.greedy_rules.specs.declared.flows.Flow.{Flow}
use Rattle.greedy_rules.specs.declared.limits.Limits.{Limits}
use Rattle.greedy_rules.specs.Slot.{is_taken, slot_with, BarsTheTaken, BarsForGood}
use Rattle.greedy_rules.specs.Limits.{rack_of, is_outward, leaves, enters, leaving, entering, lacks_core, is_barred, KeepsLimits}
use Rattle.greedy_rules.proofs.SlotLemmas.{Keeps, any-slot_with, count-slot_with}

pub taken_is_barred : (limits : Limits) → BarsTheTaken (is_barred limits)
taken_is_barred limits slot flow taken = or_left (is_taken slot flow) (is_outward limits.hosts flow && lacks_core limits slot flow) taken

-- what is not barred is not taken
pub not_taken : (limits : Limits) (slot : List Flow) (flow : Flow) → is_barred limits slot flow ≡ false → is_taken slot flow ≡ false
not_taken limits slot flow free = (or_parts (is_taken slot flow) (is_outward limits.hosts flow && lacks_core limits slot flow) free).0

-- no fewer are too many as well
pub still_full : (m n cores : ℕ) → m ≤ n → not (nat_lt m cores) ≡ true → not (nat_lt n cores) ≡ true
still_full m n cores more full = grind (arith, nat_tests)

at_most_more : (p : Flow → Bool) (flow : Flow) (slot : List Flow) → count_by p slot ≤ count_by p (slot_with flow slot)
at_most_more p flow slot = omega (arith, count-slot_with p flow slot)

lacks_for_good : (limits : Limits) (slot : List Flow) (flow other : Flow) → lacks_core limits slot flow ≡ true → lacks_core limits (slot_with other slot) flow ≡ true
lacks_for_good limits slot flow other lacks =
    let hosts = limits.hosts in
    let from = rack_of hosts flow.src in
    let into = rack_of hosts flow.dst in
    elim (or_cases (not (nat_lt (leaving hosts from slot) limits.cores)) (not (nat_lt (entering hosts into slot) limits.cores)) lacks) [
      | inl sends ↦ or_left _ _ (still_full (leaving hosts from slot) (leaving hosts from (slot_with other slot)) limits.cores (at_most_more (leaves hosts from) other slot) sends)
      | inr receives ↦ or_right _ _ (still_full (entering hosts into slot) (entering hosts into (slot_with other slot)) limits.cores (at_most_more (enters hosts into) other slot) receives)
    ]

pub barred_for_good : (limits : Limits) → BarsForGood (is_barred limits)
barred_for_good limits slot flow other barred =
    let touches : Flow → Bool = λ chosen. (chosen.src == flow.src) || (chosen.dst == flow.dst) in
    elim (or_cases (is_taken slot flow) (is_outward limits.hosts flow && lacks_core limits slot flow) barred) [
      | inl taken ↦ or_left _ _ (any-slot_with touches other slot ∙ or_right (touches other) (is_taken slot flow) taken)
      | inr full ↦
          let parts = and_parts (is_outward limits.hosts flow) (lacks_core limits slot flow) full in
          or_right _ _ (and_from _ _ parts.0 (lacks_for_good limits slot flow other parts.1))
    ]

-- where a core is left, one flow more is not too many
one_more : (here : Bool) (count cores : ℕ) → count ≤ cores → (here ≡ true → count < cores) → cond here 1 0 + count ≤ cores
one_more true count cores kept room = let below : count < cores = room refl in omega arith
one_more false count cores kept room = omega arith

core_left : (limits : Limits) (slot : List Flow) (flow : Flow) → is_barred limits slot flow ≡ false → is_outward limits.hosts flow ≡ true
    → (leaving limits.hosts (rack_of limits.hosts flow.src) slot < limits.cores) × (entering limits.hosts (rack_of limits.hosts flow.dst) slot < limits.cores)
core_left limits slot flow free outward =
    let full : (is_outward limits.hosts flow && lacks_core limits slot flow) ≡ false = (or_parts (is_taken slot flow) (is_outward limits.hosts flow && lacks_core limits slot flow) free).1 in
    let lacks : lacks_core limits slot flow ≡ false = sym (ap (λ b. b && lacks_core limits slot flow) outward) ∙ full in
    let hosts = limits.hosts in
    let parts = or_parts (not (nat_lt (leaving hosts (rack_of hosts flow.src) slot) limits.cores)) (not (nat_lt (entering hosts (rack_of hosts flow.dst) slot) limits.cores)) lacks in
    (ltb-true _ _ (not-false _ parts.0), ltb-true _ _ (not-false _ parts.1))

pub keeps_limits : (limits : Limits) → Keeps (is_barred limits) (λ flow. Unit {0}) (KeepsLimits limits)
keeps_limits limits slot flow any free kept rack =
    let hosts = limits.hosts in
    let sends : leaves hosts rack flow ≡ true → leaving hosts rack slot < limits.cores =
    λ here. let parts = and_parts (is_outward hosts flow) (rack_of hosts flow.src == rack) here in
    subst (λ (r : ℕ). leaving hosts r slot < limits.cores) (eqb-true _ _ parts.1) (core_left limits slot flow free parts.0).0 in
    let receives : enters hosts rack flow ≡ true → entering hosts rack slot < limits.cores =
    λ here. let parts = and_parts (is_outward hosts flow) (rack_of hosts flow.dst == rack) here in
    subst (λ (r : ℕ). entering hosts r slot < limits.cores) (eqb-true _ _ parts.1) (core_left limits slot flow free parts.0).1 in
    let send = one_more (leaves hosts rack flow) (leaving hosts rack slot) limits.cores (kept rack).0 sends in
    let receive = one_more (enters hosts rack flow) (entering hosts rack slot) limits.cores (kept rack).1 receives in
    (omega (arith, send, count-slot_with (leaves hosts rack) flow slot), omega (arith, receive, count-slot_with (enters hosts rack) flow slot))
