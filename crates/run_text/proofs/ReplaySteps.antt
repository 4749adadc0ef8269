-- The steps of a replay: how many there are, what each gives, and with which cores.
use Rattle.std.proofs.Common.{◌≡◌, ◌≢◌, ◌<◌, ◌≤◌, ◌+◌, ◌-◌, ◌*◌, ◌/◌, ℕ, suc, List, [], ◌++◌, length, get_or, map, take, drop, min, nat_le, Option, All, IfSome, refl, sym, ap, ◌∙◌, subst, arith, inl, inr}
use Rattle.std.specs.List.{flat_map, range_with_len}
use Rattle.std.proofs.lemmas.Nat.{mul-le}
use Rattle.std.proofs.lemmas.Bool.{cases_Bool, leb-true, leb-false}
use Rattle.std.proofs.lemmas.List.{take_all}
use Rattle.std.proofs.lemmas.List.Elements.{All-map}
use Rattle.std.proofs.lemmas.List.FromFn.{length-map-range_with_len, get_or-map-range_with_len}
use Rattle.std.proofs.lemmas.List.Concat.{flat_map-append}
use Rattle.greedy_rules.specs.declared.flows.Flow.{Flow}
use Rattle.greedy_rules.specs.Batches.{DemandBatch}
use Rattle.greedy_rules.specs.Schedule.{first_slot, slot_in}
use Rattle.clos_topology.specs.Network.{Network}
use Rattle.clos_topology.specs.Links.{CoreOf, IsClean}
use Rattle.clos_topology.specs.NetSlots.{SlotCores}
use Rattle.greedy_rules.specs.SlotTable.{Slots}
use Rattle.window_engine.specs.CoreTable.{CoreSlots, core_of}
use Rattle.report_text.specs.declared.line.Line.{Line}
use Rattle.report_text.specs.Names.{IsRefusal}
use Rattle.trace_text.specs.Trace.{TraceContent}
use Rattle.trace_text.specs.Valid.{IsTrace}
use Rattle.trace_run.specs.Run.{Setting}
use Rattle.trace_run.specs.Windows.{collected_after, batch_at}
use Rattle.replay_rounds.specs.declared.played.Departure.{Departure}
use Rattle.replay_rounds.specs.Played.{Played, rounds_played, raw_answers, departures_in, EveryRefusalHasANumber}
use Rattle.replay_rounds.specs.Standing.{slots_between}
use Rattle.window_engine.specs.Step.{Span, StepContent, HasCoresOf}
use Rattle.window_engine.specs.Scheduled.{AreClean, cores_from}
use Rattle.window_engine.specs.Windows.{WindowContent, IsWindowOf}
use Rattle.window_engine.specs.Replay.{EveryReplayTakesItsSteps}
use Rattle.run_lines.specs.Text.{text_of, no_batch, entry_line, slots_lines, refused_line, sent_line, line_text}
use Rattle.run_text.specs.ReplayText.{round_lines, replay_rounds_lines, replay_window_lines, step_lines}
use Rattle.run_lines.specs.Steps.{played_round, StepIsPlayed, cores_of_step}
use Rattle.run_text.specs.ReplayProgress.{played_lines, HasSlots, step_text_lines, next_replay_lines}
use Rattle.run_text.specs.ReplayScheduled.{AgreeAbove}
use Rattle.run_text.proofs.CoreLemmas.{slots_lines-same}
use Rattle.run_text.proofs.NumberedTexts.{numbers-same}
use Rattle.run_text.proofs.ReplayCores.{limited, cores_small}
use Rattle.window_engine.specs.Standing.{EngineState, StandsForReplay, run_of, engine_window}
use Rattle.window_engine.proofs.EngineFacts.{replay_within}
use Rattle.window_engine.proofs.ReplayScheduled.{below_64-same, clean_limited}

-- ---- how many steps there are

abbrev pub windows_of : ℕ → ℕ → ℕ
windows_of g rounds = (rounds + g - 1) / g

-- a replay after so many steps, before none of which it was done
pub record IsAfter (g rounds steps : ℕ) (engine : EngineState) : Type 0 where
  pub collected : engine.collected ≡ collected_after g rounds steps
  pub published : engine.allocated ≡ collected_after g rounds (steps - 1)
  pub least : 1 ≤ steps → collected_after g rounds (steps - 2) ≢ rounds

pub after_step : (g rounds steps : ℕ) (old new : EngineState) → IsAfter g rounds steps old → old.rounds ≡ rounds → old.g ≡ g → old.allocated ≢ old.rounds
    → new.collected ≡ old.collected + engine_window old → new.allocated ≡ old.collected → IsAfter g rounds (suc steps) new
after_step g rounds steps old new after all window more collected published = record {
  collected = collected
      ∙ (ap (λ (n : ℕ). old.collected + min n (old.rounds - old.collected)) window
      ∙ (ap (λ (n : ℕ). old.collected + min g (n - old.collected)) all ∙ ap (λ (n : ℕ). n + min g (rounds - n)) after.collected));
  published = published ∙ (after.collected ∙ ap (collected_after g rounds) (omega arith));
  least = λ some.
      let place : steps - 1 ≡ suc steps - 2 = omega arith in
      subst (λ (n : ℕ). collected_after g rounds n ≢ rounds) place (λ is. more (after.published ∙ (is ∙ sym all)));
}

before_all : (g rounds steps : ℕ) → EveryReplayTakesItsSteps → 0 < g → 0 < rounds → collected_after g rounds (steps - 1) ≢ rounds → steps < windows_of g rounds + 1
before_all g rounds steps takes some positive more =
    elim (cases_Bool (nat_le (windows_of g rounds + 1) steps)) [
      | inl is ↦ absurd (more ((takes g rounds steps some positive).1 (leb-true (windows_of g rounds + 1) steps is)))
      | inr other ↦ leb-false (windows_of g rounds + 1) steps other
    ]

-- one that is not done has a step more
pub more_steps : (g rounds steps : ℕ) (engine : EngineState) → EveryReplayTakesItsSteps → 0 < g → 0 < rounds → IsAfter g rounds steps engine → engine.allocated ≢ rounds → steps < windows_of g rounds + 1
more_steps g rounds steps engine takes some positive after more = before_all g rounds steps takes some positive (λ is. more (after.published ∙ is))

-- one that is done has had all
pub all_steps : (g rounds steps : ℕ) (engine : EngineState) → EveryReplayTakesItsSteps → 0 < g → 0 < rounds → IsAfter g rounds steps engine → engine.allocated ≡ rounds → steps ≡ windows_of g rounds + 1
all_steps g rounds steps engine takes some positive after done =
    let enough : windows_of g rounds + 1 ≤ steps = (takes g rounds steps some positive).0 (sym after.published ∙ done) in
    let place : steps - 2 ≡ steps - 1 - 1 = omega arith in
    let more : steps - 1 < windows_of g rounds + 1 = before_all g rounds (steps - 1) takes some positive (subst (λ (n : ℕ). collected_after g rounds n ≢ rounds) place (after.least (omega (arith, enough)))) in
    omega (arith, enough, more)

-- ---- the text of a step

sent_entries : (first at : ℕ) (setting : Setting) (trace : TraceContent) (batch : DemandBatch) (answers : List (Option ℕ)) (departures : List Departure)
    → batch ≡ batch_at setting (first + at) → answers ≡ raw_answers setting trace (first + at) → departures ≡ departures_in setting (first + at)
    → (map (entry_line (first + at)) batch.entries ++ flat_map (refused_line (first + at)) answers) ++ map sent_line departures ≡ round_lines setting trace (first + at)
sent_entries first at setting trace batch answers departures batch_is answers_are departures_are =
    let round : ℕ = first + at in
    ap (λ (b : DemandBatch). (map (entry_line round) b.entries ++ flat_map (refused_line round) answers) ++ map sent_line departures) batch_is
    ∙ (ap (λ (a : List (Option ℕ)). (map (entry_line round) (batch_at setting round).entries ++ flat_map (refused_line round) a) ++ map sent_line departures) answers_are
    ∙ ap (λ (ds : List Departure). (map (entry_line round) (batch_at setting round).entries ++ flat_map (refused_line round) (raw_answers setting trace round)) ++ map sent_line ds) departures_are)

-- the rounds that were played
pub played_text : (setting : Setting) (trace : TraceContent) (first count : ℕ) → played_lines first (rounds_played setting trace first count) count ≡ replay_rounds_lines setting trace first count
played_text setting trace first count =
    numbers-same (played_round first (rounds_played setting trace first count)) (round_lines setting trace) first count
    (λ at below. sent_entries first at setting trace _ _ _ (get_or-map-range_with_len (batch_at setting) first count at (first + at) no_batch below refl)
    (get_or-map-range_with_len (raw_answers setting trace) first count at (first + at) [] below refl) (get_or-map-range_with_len (departures_in setting) first count at (first + at) [] below refl))

played_count : (setting : Setting) (trace : TraceContent) (first count : ℕ) (played : Played) → played ≡ rounds_played setting trace first count → length played.batches ≡ count
played_count setting trace first count played is = ap (λ (p : Played). length p.batches) is ∙ length-map-range_with_len (batch_at setting) first count

pub is_played : (setting : Setting) (trace : TraceContent) (first count : ℕ) (step : StepContent) → EveryRefusalHasANumber → IsTrace trace → first + count ≤ trace.rounds → step.collected.first ≡ first → step.played ≡ rounds_played setting trace first count
    → StepIsPlayed step
is_played setting trace first count step names sound within start is =
    let played : Played = step.played in
    let many : length played.batches ≡ count = played_count setting trace first count played is in
    record {
      answers = ap (λ (p : Played). length p.answers) is ∙ (length-map-range_with_len (raw_answers setting trace) first count ∙ sym many);
      departures = ap (λ (p : Played). length p.departures) is ∙ (length-map-range_with_len (departures_in setting) first count ∙ sym many);
      named = subst (λ (p : Played). All (All (λ answer. IfSome answer IsRefusal)) p.answers) (sym is) (All-map (All (λ answer. IfSome answer IsRefusal)) (raw_answers setting trace) (range_with_len first count) (λ i d below. names setting trace (get_or (range_with_len first count) i d)));
      numbers = omega (arith, many, within, start, sound.few_rounds);
    }

-- its slots, with the cores that it names
pub has_slots : (trace : TraceContent) (cores : SlotCores) (old : EngineState) (step : StepContent) → IsTrace trace → StandsForReplay trace cores old
    → step.window.span ≡ record { first = old.allocated; count = old.collected - old.allocated }
    → IsWindowOf trace.net old.b (slots_between (run_of trace cores old) old.allocated old.collected) step.window → HasSlots old.b step
has_slots trace cores old step sound stands span window =
    let b : ℕ = old.b in
    let first : step.window.span.first ≡ old.allocated = ap (λ (s : Span). s.first) span in
    let count : step.window.span.count ≡ old.collected - old.allocated = ap (λ (s : Span). s.count) span in
    let behind : old.allocated ≤ old.collected = (replay_within stands).behind in
    let rounds : step.window.span.first + step.window.span.count ≤ 100000 = omega (arith, first, count, behind, (replay_within stands).within, sound.few_rounds) in
    let small : (step.window.span.first + step.window.span.count) * b ≤ 100000 * 64 = mul-le (step.window.span.first + step.window.span.count) b 100000 64 rounds (replay_within stands).b.1 in
    record {
      slots = ap length window.is ∙ window.number;
      few = omega (arith, count, (replay_within stands).one_window, (replay_within stands).g.1);
      numbers = omega (arith, small);
      core_slots = window.core_slots;
      core_endpoints = window.core_endpoints ∙ sym window.endpoints;
    }

-- the cores that a window names for its slots
pub window_cores : (net : Network) (b first : ℕ) (slots : List (List Flow)) (window : WindowContent) → net.cores ≤ 64 → window.span.first ≡ first → IsWindowOf net b slots window
    → (at source : ℕ) → at < length slots → limited (cores_from (first_slot b window.span.first) window.cores) (first_slot b first + at) source ≡ core_of window.cores at source
window_cores net b first slots window few start is at source below =
    let n : ℕ = first_slot b window.span.first in
    let from : first_slot b first ≡ n = ap (first_slot b) (sym start) in
    let back : first_slot b first + at - n ≡ at = omega (arith, from) in
    let here : n + at - n ≡ at = omega arith in
    let clean : IsClean net.hosts net.cores (slot_in slots at) (core_of window.cores at) = subst (λ (m : ℕ). IsClean net.hosts net.cores (slot_in slots at) (core_of window.cores m)) here (is.clean at below) in
    ap (λ (m : ℕ). limited (λ number. core_of window.cores number) m source) back
    ∙ below_64-same (core_of window.cores at source) 64 (omega arith) (cores_small net.hosts net.cores source (slot_in slots at) (core_of window.cores at) few clean (is.others at below))

-- they are clean
pub window_clean : (net : Network) (b first : ℕ) (slots : List (List Flow)) (window : WindowContent) → net.cores ≤ 64 → window.span.first ≡ first → IsWindowOf net b slots window
    → AreClean net (limited (cores_from (first_slot b window.span.first) window.cores)) (first_slot b first) slots
window_clean net b first slots window few start is at below =
    let n : ℕ = first_slot b window.span.first in
    let table : SlotCores = cores_from n window.cores in
    let from : n + at ≡ first_slot b first + at = ap (λ (k : ℕ). first_slot b k + at) start in
    subst (λ (m : ℕ). IsClean net.hosts net.cores (slot_in slots at) (limited table m)) from (clean_limited net.hosts net.cores (slot_in slots at) (table (n + at)) few (is.clean at below))

-- for cores that agree with these the text is that of the window's slots
pub window_text : (net : Network) (b first size : ℕ) (slots : List (List Flow)) (window : WindowContent) (cores : SlotCores) → net.cores ≤ 64 → window.span.first ≡ first → IsWindowOf net b slots window → length slots ≡ size
    → AgreeAbove (first * b) size cores (limited (cores_from (first_slot b window.span.first) window.cores))
    → slots_lines (cores_from (first_slot b window.span.first) window.cores) (first_slot b window.span.first) window.slots.slots ≡ slots_lines cores (first_slot b first) slots
window_text net b first size slots window cores few start is long agree =
    let table : SlotCores = cores_from (first_slot b window.span.first) window.cores in
    ap (λ (xs : List (List Flow)). slots_lines table (first_slot b window.span.first) xs) is.is
    ∙ (ap (λ (k : ℕ). slots_lines table (first_slot b k) slots) start
    ∙ slots_lines-same table cores (first_slot b first) slots (λ i source below.
    let number : ℕ = first_slot b first + i in
    let back : number - first_slot b window.span.first ≡ i = omega (arith, ap (first_slot b) start) in
    ap (λ (m : ℕ). core_of window.cores m source) back
    ∙ (sym (window_cores net b first slots window few start is i source below) ∙ sym (ap (λ (core_of : CoreOf). core_of source) (agree number (omega arith) (omega (arith, long, below)))))))

-- and the replay goes on standing for them
pub has_cores_of : (net : Network) (b first size : ℕ) (slots : List (List Flow)) (step : StepContent) (cores : SlotCores) → net.cores ≤ 64 → step.window.span.first ≡ first → IsWindowOf net b slots step.window → length slots ≡ size
    → AgreeAbove (first * b) size cores (limited (cores_of_step b step)) → HasCoresOf b step cores
has_cores_of net b first size slots step cores few start is long agree at source below =
    let number : ℕ = first_slot b first + at in
    let inside : at < length slots = omega (arith, is.number, below) in
    ap (λ (k : ℕ). cores (first_slot b k + at) source) start
    ∙ (ap (λ (core_of : CoreOf). core_of source) (agree number (omega arith) (omega (arith, long, inside))) ∙ window_cores net b first slots step.window few start is at source inside)

-- what a step gives is what comes next in the run
pub next_text : (trace : TraceContent) (cores : SlotCores) (old : EngineState) (step : StepContent) (size : ℕ) → IsTrace trace
    → step.collected.first ≡ old.collected → step.played ≡ rounds_played (run_of trace cores old) trace old.collected (engine_window old) → step.window.span.first ≡ old.allocated
    → IsWindowOf trace.net old.b (slots_between (run_of trace cores old) old.allocated old.collected) step.window
    → length (slots_between (run_of trace cores old) old.allocated old.collected) ≡ size
    → AgreeAbove (old.allocated * old.b) size cores (limited (cores_of_step old.b step))
    → step_text_lines old.b step ≡ next_replay_lines cores trace old
next_text trace cores old step size sound first played start window long agree =
    let b : ℕ = old.b in
    let setting : Setting = run_of trace cores old in
    let count : ℕ = engine_window old in
    let slots : List Line = slots_lines (cores_of_step b step) (first_slot b step.window.span.first) step.window.slots.slots in
    ap (λ (k : ℕ). played_lines k step.played (length step.played.batches) ++ slots) first
    ∙ (ap (λ (n : ℕ). played_lines old.collected step.played n ++ slots) (played_count setting trace old.collected count step.played played)
    ∙ (ap (λ (p : Played). played_lines old.collected p count ++ slots) played
    ∙ (ap (λ (ls : List Line). ls ++ slots) (played_text setting trace old.collected count)
    ∙ ap (λ (ls : List Line). replay_rounds_lines setting trace old.collected count ++ ls)
    (window_text trace.net b old.allocated size (slots_between setting old.allocated old.collected) step.window cores sound.net.most_cores start window long agree))))

-- which step that is
pub next_step : (trace : TraceContent) (cores : SlotCores) (old : EngineState) (g steps : ℕ) → IsAfter g trace.rounds steps old → old.rounds ≡ trace.rounds → old.g ≡ g → next_replay_lines cores trace old ≡ step_lines cores (run_of trace cores old) trace steps
next_step trace cores old g steps after all window =
    let setting : Setting = run_of trace cores old in
    let from : ℕ → ℕ → ℕ → List Line = λ first count published. replay_rounds_lines setting trace first count ++ replay_window_lines cores setting published first in
    let collected : old.collected ≡ collected_after old.g trace.rounds steps = after.collected ∙ ap (λ (n : ℕ). collected_after n trace.rounds steps) (sym window) in
    let published : old.allocated ≡ collected_after old.g trace.rounds (steps - 1) = after.published ∙ ap (λ (n : ℕ). collected_after n trace.rounds (steps - 1)) (sym window) in
    let now : ℕ = collected_after old.g trace.rounds steps in
    let count : engine_window old ≡ collected_after old.g trace.rounds (suc steps) - now =
    ap (λ (n : ℕ). min old.g (n - old.collected)) all ∙ (ap (λ (n : ℕ). min old.g (trace.rounds - n)) collected ∙ omega arith) in
    ap (λ (n : ℕ). from n (engine_window old) old.allocated) collected ∙ (ap (λ (n : ℕ). from now n old.allocated) count ∙ ap (λ (n : ℕ). from now (collected_after old.g trace.rounds (suc steps) - now) n) published)

-- the text of a step in its two parts, as its tables hold it
pub step_parts : (b base count : ℕ) (slots : Slots) (table : CoreSlots) (step : StepContent) → HasSlots b step → slots ≡ step.window.slots → table ≡ step.window.cores
    → base ≡ first_slot b step.window.span.first → count ≡ step.window.span.count * b
    → text_of (played_lines step.collected.first step.played (length step.played.batches)) ++ text_of (slots_lines (cores_from base table) (base + 0) (take count (drop 0 slots.slots))) ≡ text_of (step_text_lines b step)
step_parts b base count slots table step has slots_are table_is base_is count_is =
    let start : ℕ = first_slot b step.window.span.first in
    let rounds : List Line = played_lines step.collected.first step.played (length step.played.batches) in
    let all : take count (drop 0 step.window.slots.slots) ≡ step.window.slots.slots = take_all count step.window.slots.slots (omega (arith, has.slots, count_is)) in
    let at : base + 0 ≡ start = omega (arith, base_is) in
    ap (λ (s : Slots). text_of rounds ++ text_of (slots_lines (cores_from base table) (base + 0) (take count (drop 0 s.slots)))) slots_are
    ∙ (ap (λ (t : CoreSlots). text_of rounds ++ text_of (slots_lines (cores_from base t) (base + 0) (take count (drop 0 step.window.slots.slots)))) table_is
    ∙ (ap (λ (xs : List (List Flow)). text_of rounds ++ text_of (slots_lines (cores_from base step.window.cores) (base + 0) xs)) all
    ∙ (ap (λ (n : ℕ). text_of rounds ++ text_of (slots_lines (cores_from base step.window.cores) n step.window.slots.slots)) at
    ∙ (ap (λ (n : ℕ). text_of rounds ++ text_of (slots_lines (cores_from n step.window.cores) start step.window.slots.slots)) base_is
    ∙ sym (flat_map-append line_text rounds (slots_lines (cores_of_step b step) start step.window.slots.slots))))))
