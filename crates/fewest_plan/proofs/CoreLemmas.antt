-- Cores for the slots of a plan by need: those of one window can be put in place of others.
use Rattle.std.proofs.Common.{◌≡◌, ◌<◌, ◌≤◌, ◌+◌, ◌-◌, ◌*◌, ℕ, List, length, take, drop, ◌&&◌, nat_lt, nat_le, sym, subst, arith, inl, inr}
use Rattle.std.proofs.lemmas.Bool.{cond-true, cond-false, cases_Bool, and_parts, ltb-true, leb-true}
use Rattle.std.proofs.lemmas.List.{length-take, length-drop}
use Rattle.greedy_rules.specs.declared.flows.Flow.{Flow}
use Rattle.greedy_rules.specs.Schedule.{first_slot, schedule_by, slot_at}
use Rattle.greedy_rules.specs.Examples.{remaining}
use Rattle.clos_topology.specs.Links.{CoreOf, IsClean}
use Rattle.clos_topology.specs.NetSlots.{SlotCores}
use Rattle.trace_text.specs.Trace.{TraceContent}
use Rattle.plan_rounds.specs.Batches.{plan_batches}
use Rattle.window_allocation.specs.Scheduled.{AreClean}
use Rattle.run_text.proofs.CoreLemmas.{within_window, in_window, batches_lines-same, spliced, spliced-here, spliced-there}
use Rattle.fewest_plan.specs.Progress.{fewest_window_lines, fewest_rounds_lines}
use Rattle.fewest_plan.specs.Scheduled.{EverySlotIsScheduledBy, window_slots_by}

abbrev all_slots : ℕ → TraceContent → List (List Flow)
all_slots b trace = schedule_by remaining b (plan_batches trace)

pub clean_in_window : (b first count : ℕ) (trace : TraceContent) (cores : SlotCores) → EverySlotIsScheduledBy remaining b trace.net (plan_batches trace) cores
    → AreClean trace.net cores (first_slot b first) (window_slots_by remaining b (plan_batches trace) first count)
clean_in_window b first count trace cores scheduled at below =
    let low : ℕ = first * b in
    let size : ℕ = count * b in
    let all : List (List Flow) = all_slots b trace in
    let number : ℕ = low + 1 + at in
    subst (λ (slot : List Flow). IsClean trace.net.hosts trace.net.cores slot (cores number)) (sym (in_window low size at all below))
    (scheduled number (omega arith) (within_window low size at all below).1).clean

-- cores that are clean for the slots of a window, in place of those of a schedule
pub scheduled_spliced : (b first count : ℕ) (trace : TraceContent) (here there : SlotCores) → EverySlotIsScheduledBy remaining b trace.net (plan_batches trace) there
    → AreClean trace.net here (first_slot b first) (window_slots_by remaining b (plan_batches trace) first count)
    → EverySlotIsScheduledBy remaining b trace.net (plan_batches trace) (spliced (first * b) (count * b) here there)
scheduled_spliced b first count trace here there scheduled clean number positive within =
    let all : List (List Flow) = all_slots b trace in
    let low : ℕ = first * b in
    let size : ℕ = count * b in
    let test = nat_lt low number && nat_le number (low + size) in
    let old = scheduled number positive within in
    let Clean : CoreOf → Type 0 = λ core_of. IsClean trace.net.hosts trace.net.cores (slot_at all number) core_of in
    let new : Clean (spliced low size here there number) =
    elim (cases_Bool test) [
      | inl is ↦
          let parts = and_parts (nat_lt low number) (nat_le number (low + size)) is in
          let above : low < number = ltb-true _ _ parts.0 in
          let below : number ≤ low + size = leb-true _ _ parts.1 in
          let at : ℕ = number - (low + 1) in
          let is_number : low + 1 + at ≡ number = omega arith in
          let inside : at < length (take size (drop low all)) = omega (arith, length-take size (drop low all), length-drop low all) in
          let At : ℕ → Type 0 = λ m. IsClean trace.net.hosts trace.net.cores (slot_at all m) (here m) in
          let own : At number =
          subst At is_number (subst (λ (slot : List Flow). IsClean trace.net.hosts trace.net.cores slot (here (low + 1 + at))) (in_window low size at all inside) (clean at inside)) in
          subst Clean (sym (cond-true test (here number) (there number) is)) own
      | inr other ↦ subst Clean (sym (cond-false test (here number) (there number) other)) old.clean
    ] in
    record { matching = old.matching; maximal = old.maximal; within_cores = old.within_cores; clean = new }

-- the lines of a window name its own cores, and those of the rounds before it the others
pub window_spliced : (b first count : ℕ) (trace : TraceContent) (here there : SlotCores) → fewest_window_lines (spliced (first * b) (count * b) here there) b first count trace ≡ fewest_window_lines here b first count trace
window_spliced b first count trace here there =
    let low : ℕ = first * b in
    let size : ℕ = count * b in
    batches_lines-same (spliced low size here there) here b first (take count (drop first (plan_batches trace))) (window_slots_by remaining b (plan_batches trace) first count)
    (λ number above below. spliced-here low size here there number (omega arith) (omega (arith, length-take size (drop low (all_slots b trace)))))

pub rounds_spliced : (b k count : ℕ) (trace : TraceContent) (here there : SlotCores) → fewest_rounds_lines (spliced (k * b) (count * b) here there) b k trace ≡ fewest_rounds_lines there b k trace
rounds_spliced b k count trace here there =
    let low : ℕ = k * b in
    let start : 0 * b ≡ 0 = omega arith in
    batches_lines-same (spliced low (count * b) here there) there b 0 (take k (plan_batches trace)) (take low (all_slots b trace))
    (λ number above below. spliced-there low (count * b) here there number (omega (arith, length-take low (all_slots b trace), start)))
