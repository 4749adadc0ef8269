-- Facts about each line of a replay's text, and sums over its lines, part by part.
use Rattle.std.proofs.Common.{◌≡◌, ◌<◌, ◌≤◌, ◌+◌, ◌-◌, ℕ, zero, suc, List, [], ◌∷◌, map, sum_by, Option, Some, None, All, refl, ap, ◌∙◌, arith}
use Rattle.std.specs.List.{flat_map, range_with_len}
use Rattle.std.proofs.lemmas.List.Concat.{flat_map-append}
use Rattle.std.proofs.lemmas.List.Elements.{All-nil, All-cons, All-head, All-tail, All-append, All-map}
use Rattle.std.proofs.lemmas.List.Sums.{sum_by-cons, sum_by-append}
use Rattle.list_facts.proofs.Lists.{range_both, flat-last}
use Rattle.greedy_rules.specs.declared.flows.Flow.{Flow}
use Rattle.greedy_rules.specs.Schedule.{first_slot}
use Rattle.clos_topology.specs.Links.{CoreOf}
use Rattle.clos_topology.specs.NetSlots.{SlotCores}
use Rattle.report_text.specs.declared.line.Line.{Line}
use Rattle.report_text.specs.declared.line.Line.TheVariants as line
use Rattle.trace_text.specs.Trace.{TraceContent}
use Rattle.trace_run.specs.Run.{Setting}
use Rattle.trace_run.specs.Windows.{collected_after}
use Rattle.replay_rounds.specs.Standing.{slots_between}
use Rattle.run_lines.specs.Text.{slot_line, slots_lines, each_destination, each_source, refused_line}
use Rattle.run_text.specs.ReplayText.{round_lines, replay_rounds_lines, replay_window_lines, step_lines, steps_lines}

-- ---- one more

pub sum-none : {X : Type 0} (m : X → ℕ) (xs : List X) → All (λ x. m x ≡ 0) xs → sum_by m xs ≡ 0
sum-none m [] all = refl
sum-none m (x ∷ xs) all = omega (arith, sum_by-cons m x xs, All-head (λ y. m y ≡ 0) x xs all, sum-none m xs (All-tail (λ y. m y ≡ 0) x xs all))

pub sum-last : {X : Type 0} (m : X → ℕ) (f : ℕ → List X) (n : ℕ) → sum_by m (flat_map f (range_with_len 0 (suc n))) ≡ sum_by m (flat_map f (range_with_len 0 n)) + sum_by m (f n)
sum-last m f n =
    let one : suc n ≡ n + 1 = omega arith in
    let at : 0 + n ≡ n = omega arith in
    ap (λ (k : ℕ). sum_by m (flat_map f (range_with_len 0 k))) one
    ∙ (ap (sum_by m) (flat-last f 0 n)
    ∙ (sum_by-append m (flat_map f (range_with_len 0 n)) (f (0 + n)) ∙ ap (λ (k : ℕ). sum_by m (flat_map f (range_with_len 0 n)) + sum_by m (f k)) at))

-- ---- the lines of a kind

pub refusals_all : (P : Line → Type 0) (round : ℕ) (answers : List (Option ℕ)) → ((number : ℕ) → P (line.Refused round number)) → All P (flat_map (refused_line round) answers)
refusals_all P round [] each = All-nil P
refusals_all P round (None ∷ answers) each = refusals_all P round answers each
refusals_all P round (Some number ∷ answers) each = All-cons P (line.Refused round number) (flat_map (refused_line round) answers) (each number) (refusals_all P round answers each)

pub slots_all : (P : Line → Type 0) (cores : SlotCores) (number : ℕ) (slots : List (List Flow)) → ((n : ℕ) (core_of : CoreOf) (flow : Flow) → P (slot_line n core_of flow)) → All P (slots_lines cores number slots)
slots_all P cores number [] each = All-nil P
slots_all P cores number (slot ∷ slots) each =
    All-append P (map (slot_line number (cores number)) slot) (slots_lines cores (number + 1) slots)
    (All-map P (slot_line number (cores number)) slot (λ i d below. each number (cores number) _)) (slots_all P cores (number + 1) slots each)

-- of each flow between so many endpoints
destinations_all : (P : Line → Type 0) (lines : Flow → List Line) (src dst count end : ℕ) → dst + count ≤ end → ((d : ℕ) → d < end → All P (lines (record { src = src; dst = d }))) → All P (each_destination lines src dst count)
destinations_all P lines src dst zero end within each = All-nil P
destinations_all P lines src dst (suc count) end within each =
    All-append P (lines (record { src = src; dst = dst })) (each_destination lines src (dst + 1) count) (each dst (omega (arith, within))) (destinations_all P lines src (dst + 1) count end (omega (arith, within)) each)

sources_from : (P : Line → Type 0) (lines : Flow → List Line) (endpoints src count : ℕ) → src + count ≤ endpoints → ((s d : ℕ) → s < endpoints → d < endpoints → All P (lines (record { src = s; dst = d })))
    → All P (each_source lines endpoints src count)
sources_from P lines endpoints src zero within each = All-nil P
sources_from P lines endpoints src (suc count) within each =
    All-append P (each_destination lines src 0 endpoints) (each_source lines endpoints (src + 1) count)
    (destinations_all P lines src 0 endpoints endpoints (omega arith) (λ d below. each src d (omega (arith, within)) below)) (sources_from P lines endpoints (src + 1) count (omega (arith, within)) each)

pub sources_all : (P : Line → Type 0) (lines : Flow → List Line) (endpoints : ℕ) → ((s d : ℕ) → s < endpoints → d < endpoints → All P (lines (record { src = s; dst = d }))) → All P (each_source lines endpoints 0 endpoints)
sources_all P lines endpoints each = sources_from P lines endpoints 0 endpoints (omega arith) each

-- ---- the steps

-- what no slot line adds to is the same over the steps and over the rounds that they collect
pub steps_sum : (m : Line → ℕ) (cores : SlotCores) (setting : Setting) (trace : TraceContent) (steps : ℕ) → ((n : ℕ) (core_of : CoreOf) (flow : Flow) → m (slot_line n core_of flow) ≡ 0)
    → sum_by m (steps_lines cores setting trace steps) ≡ sum_by m (replay_rounds_lines setting trace 0 (collected_after setting.g trace.rounds steps))
steps_sum m cores setting trace zero no_slots = refl
steps_sum m cores setting trace (suc steps) no_slots =
    let rounds : ℕ → ℕ → List Line = replay_rounds_lines setting trace in
    let here : ℕ = collected_after setting.g trace.rounds steps in
    let next : ℕ = collected_after setting.g trace.rounds (suc steps) in
    let start : 0 + here ≡ here = omega arith in
    let before : ℕ = collected_after setting.g trace.rounds (steps - 1) in
    let window : List Line = replay_window_lines cores setting before here in
    let split : sum_by m (steps_lines cores setting trace (suc steps)) ≡ sum_by m (steps_lines cores setting trace steps) + sum_by m (step_lines cores setting trace steps) = sum-last m (step_lines cores setting trace) steps in
    let own : sum_by m (step_lines cores setting trace steps) ≡ sum_by m (rounds here (next - here)) + sum_by m window = sum_by-append m (rounds here (next - here)) window in
    let parts : next ≡ here + (next - here) = omega arith in
    let all : sum_by m (rounds 0 next) ≡ sum_by m (rounds 0 here) + sum_by m (rounds here (next - here)) =
    ap (λ (n : ℕ). sum_by m (rounds 0 n)) parts
    ∙ (ap (λ (ks : List ℕ). sum_by m (flat_map (round_lines setting trace) ks)) (range_both 0 here (next - here))
    ∙ (ap (sum_by m) (flat_map-append (round_lines setting trace) (range_with_len 0 here) (range_with_len (0 + here) (next - here)))
    ∙ (sum_by-append m (rounds 0 here) (rounds (0 + here) (next - here)) ∙ ap (λ (k : ℕ). sum_by m (rounds 0 here) + sum_by m (rounds k (next - here))) start))) in
    let none : sum_by m window ≡ 0 = sum-none m window (slots_all (λ l. m l ≡ 0) cores (first_slot setting.b before) (slots_between setting before here) no_slots) in
    omega (arith, split, own, all, none, steps_sum m cores setting trace steps no_slots)
