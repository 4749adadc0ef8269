-- Cores for the slots of a plan: those of one window can be put in place of others.
use Rattle.std.proofs.Common.{◌≡◌, ◌<◌, ◌≤◌, ◌+◌, ◌-◌, ◌*◌, ℕ, suc, List, [], ◌∷◌, ◌++◌, length, get_or, map, take, drop, Option, false, ◌&&◌, nat_lt, nat_le, cond, refl, sym, ap, ◌∙◌, subst, arith, inl, inr}
use Rattle.std.proofs.lemmas.Bool.{cond-true, cond-false, cases_Bool, and_parts, and_from, ltb-true, leb-true, lt-ltb, le-leb}
use Rattle.std.proofs.lemmas.Bool.Decides.{nat_tests}
use Rattle.std.proofs.lemmas.List.{get_or-take, get_or-drop, length-take, length-drop}
use Rattle.greedy_rules.specs.declared.flows.Flow.{Flow}
use Rattle.greedy_rules.specs.Batches.{DemandBatch}
use Rattle.greedy_rules.specs.Schedule.{first_slot, schedule, slot_in, slot_at}
use Rattle.clos_topology.specs.Network.{Network}
use Rattle.clos_topology.specs.Links.{CoreOf, IsClean}
use Rattle.clos_topology.specs.NetSlots.{SlotCores}
use Rattle.report_text.specs.declared.line.Line.{Line}
use Rattle.report_text.specs.declared.line.Line.TheVariants as line
use Rattle.trace_text.specs.Trace.{TraceContent}
use Rattle.window_engine.specs.Batches.{plan_batches}
use Rattle.window_engine.specs.Scheduled.{EverySlotIsScheduled, AreClean}
use Rattle.window_engine.specs.Step.{window_slots}
use Rattle.run_text.specs.Progress.{window_lines, rounds_lines}
use Rattle.run_lines.specs.Text.{entry_line, slot_line, slots_lines, batch_lines}
use Rattle.run_text.specs.PlanText.{batches_lines}

abbrev pub all_slots : ℕ → TraceContent → List (List Flow)
all_slots b trace = schedule b (plan_batches trace)

-- the slots of a window by their numbers
pub within_window : (low count at : ℕ) (slots : List (List Flow)) → at < length (take count (drop low slots)) → (at < count) × (low + 1 + at ≤ length slots)
within_window low count at slots below = (omega (arith, length-take count (drop low slots)), omega (arith, length-take count (drop low slots), length-drop low slots))

pub in_window : (low count at : ℕ) (slots : List (List Flow)) → at < length (take count (drop low slots)) → slot_in (take count (drop low slots)) at ≡ slot_at slots (low + 1 + at)
in_window low count at slots below =
    let place : low + at ≡ low + 1 + at - 1 = omega arith in
    get_or-take count (drop low slots) at [] (within_window low count at slots below).0 ∙ (get_or-drop low slots at [] ∙ ap (λ (m : ℕ). get_or slots m []) place)

pub clean_in_window : (b first count : ℕ) (trace : TraceContent) (cores : SlotCores) → EverySlotIsScheduled b trace.net (plan_batches trace) cores → AreClean trace.net cores (first_slot b first) (window_slots b (plan_batches trace) first count)
clean_in_window b first count trace cores scheduled at below =
    let low : ℕ = first * b in
    let size : ℕ = count * b in
    let all : List (List Flow) = all_slots b trace in
    let number : ℕ = low + 1 + at in
    subst (λ (slot : List Flow). IsClean trace.net.hosts trace.net.cores slot (cores number)) (sym (in_window low size at all below))
    (scheduled number (omega arith) (within_window low size at all below).1).clean

-- some cores for the slots of a window, and others for the other slots
abbrev pub spliced : ℕ → ℕ → SlotCores → SlotCores → SlotCores
spliced low count here there number = cond (nat_lt low number && nat_le number (low + count)) (here number) (there number)

pub spliced-here : (low count : ℕ) (here there : SlotCores) (number : ℕ) → low < number → number ≤ low + count → spliced low count here there number ≡ here number
spliced-here low count here there number above below =
    cond-true (nat_lt low number && nat_le number (low + count)) (here number) (there number) (and_from _ _ (lt-ltb _ _ above) (le-leb _ _ below))

pub spliced-there : (low count : ℕ) (here there : SlotCores) (number : ℕ) → number ≤ low → spliced low count here there number ≡ there number
spliced-there low count here there number below =
    let before : (nat_lt low number && nat_le number (low + count)) ≡ false = grind (arith, nat_tests) in
    cond-false (nat_lt low number && nat_le number (low + count)) (here number) (there number) before

-- cores that are clean for some slots, in place of those of a schedule
pub scheduled_between : (b : ℕ) (net : Network) (batches : List DemandBatch) (low size : ℕ) (here there : SlotCores) → EverySlotIsScheduled b net batches there
    → ((number : ℕ) → low < number → number ≤ low + size → number ≤ length (schedule b batches) → IsClean net.hosts net.cores (slot_at (schedule b batches) number) (here number))
    → EverySlotIsScheduled b net batches (spliced low size here there)
scheduled_between b net batches low size here there scheduled clean number positive within =
    let test = nat_lt low number && nat_le number (low + size) in
    let old = scheduled number positive within in
    let Clean : CoreOf → Type 0 = λ core_of. IsClean net.hosts net.cores (slot_at (schedule b batches) number) core_of in
    let new : Clean (spliced low size here there number) =
    elim (cases_Bool test) [
      | inl is ↦
          let parts = and_parts (nat_lt low number) (nat_le number (low + size)) is in
          subst Clean (sym (cond-true test (here number) (there number) is)) (clean number (ltb-true _ _ parts.0) (leb-true _ _ parts.1) within)
      | inr other ↦ subst Clean (sym (cond-false test (here number) (there number) other)) old.clean
    ] in
    record { matching = old.matching; maximal = old.maximal; within_cores = old.within_cores; clean = new }

pub scheduled_spliced : (b first count : ℕ) (trace : TraceContent) (here there : SlotCores) → EverySlotIsScheduled b trace.net (plan_batches trace) there → AreClean trace.net here (first_slot b first) (window_slots b (plan_batches trace) first count)
    → EverySlotIsScheduled b trace.net (plan_batches trace) (spliced (first * b) (count * b) here there)
scheduled_spliced b first count trace here there scheduled clean =
    let all : List (List Flow) = all_slots b trace in
    let low : ℕ = first * b in
    let size : ℕ = count * b in
    scheduled_between b trace.net (plan_batches trace) low size here there scheduled (λ number above below within.
    let at : ℕ = number - (low + 1) in
    let is_number : low + 1 + at ≡ number = omega arith in
    let inside : at < length (take size (drop low all)) = omega (arith, length-take size (drop low all), length-drop low all) in
    let At : ℕ → Type 0 = λ m. IsClean trace.net.hosts trace.net.cores (slot_at all m) (here m) in
    subst At is_number (subst (λ (slot : List Flow). IsClean trace.net.hosts trace.net.cores slot (here (low + 1 + at))) (in_window low size at all inside) (clean at inside)))

-- cores that name the same give the same lines
slot_lines-same : (f h : CoreOf) (number : ℕ) (slot : List Flow) → ((source : ℕ) → f source ≡ h source) → map (slot_line number f) slot ≡ map (slot_line number h) slot
slot_lines-same f h number [] same = refl
slot_lines-same f h number (flow ∷ slot) same =
    ap (λ (core : Option ℕ). line.Slot number flow.src flow.dst core ∷ map (slot_line number f) slot) (same flow.src) ∙ ap (λ (ls : List Line). slot_line number h flow ∷ ls) (slot_lines-same f h number slot same)

pub slots_lines-same : (f h : SlotCores) (number : ℕ) (slots : List (List Flow)) → ((i source : ℕ) → i < length slots → f (number + i) source ≡ h (number + i) source) → slots_lines f number slots ≡ slots_lines h number slots
slots_lines-same f h number [] same = refl
slots_lines-same f h number (slot ∷ slots) same =
    let start : number + 0 ≡ number = omega arith in
    let here = slot_lines-same (f number) (h number) number slot (λ source. subst (λ (n : ℕ). f n source ≡ h n source) start (same 0 source (omega arith))) in
    let later = slots_lines-same f h (number + 1) slots (λ i source below.
    let on : number + suc i ≡ number + 1 + i = omega arith in
    subst (λ (n : ℕ). f n source ≡ h n source) on (same (suc i) source (omega arith))) in
    ap (λ (ls : List Line). ls ++ slots_lines f (number + 1) slots) here ∙ ap (λ (ls : List Line). map (slot_line number (h number)) slot ++ ls) later

pub next_first : (b k : ℕ) → first_slot b (k + 1) ≡ first_slot b k + b
next_first b k = grind arith

pub batches_lines-same : (f g : SlotCores) (b k : ℕ) (batches : List DemandBatch) (slots : List (List Flow)) → ((number : ℕ) → first_slot b k ≤ number → number < first_slot b k + length slots → f number ≡ g number)
    → batches_lines f b k batches slots ≡ batches_lines g b k batches slots
batches_lines-same f g b k [] slots same = refl
batches_lines-same f g b k (batch ∷ batches) slots same =
    let n : ℕ = first_slot b k in
    let own = slots_lines-same f g n (take b slots) (λ i source below. ap (λ (core_of : CoreOf). core_of source) (same (n + i) (omega arith) (omega (arith, length-take b slots)))) in
    let later = batches_lines-same f g b (k + 1) batches (drop b slots) (λ number above below. same number (omega (arith, next_first b k)) (omega (arith, next_first b k, length-drop b slots))) in
    ap (λ (lines : List Line). (map (entry_line k) batch.entries ++ lines) ++ batches_lines f b (k + 1) batches (drop b slots)) own
    ∙ ap (λ (lines : List Line). batch_lines g b k batch (take b slots) ++ lines) later

pub window_spliced : (b first count : ℕ) (trace : TraceContent) (here there : SlotCores) → window_lines (spliced (first * b) (count * b) here there) b first count trace ≡ window_lines here b first count trace
window_spliced b first count trace here there =
    let low : ℕ = first * b in
    let size : ℕ = count * b in
    let slots : List (List Flow) = window_slots b (plan_batches trace) first count in
    batches_lines-same (spliced low size here there) here b first (take count (drop first (plan_batches trace))) slots
    (λ number above below. spliced-here low size here there number (omega arith) (omega (arith, length-take size (drop low (all_slots b trace)))))

pub rounds_spliced : (b k count : ℕ) (trace : TraceContent) (here there : SlotCores) → rounds_lines (spliced (k * b) (count * b) here there) b k trace ≡ rounds_lines there b k trace
rounds_spliced b k count trace here there =
    let low : ℕ = k * b in
    let start : 0 * b ≡ 0 = omega arith in
    batches_lines-same (spliced low (count * b) here there) there b 0 (take k (plan_batches trace)) (take low (all_slots b trace))
    (λ number above below. spliced-there low (count * b) here there number (omega (arith, length-take low (all_slots b trace), start)))
