-- The `flow` and `count` lines of a text balance, and what the `batch` lines of a replay add is demanded and lost.
use Rattle.std.proofs.Common.{◌≡◌, ◌<◌, ◌+◌, ◌-◌, ℕ, zero, suc, Bool, true, false, cond, ◌&&◌, nat_le, List, [], ◌∷◌, ◌++◌, length, map, take, drop, sum_by, Option, Some, None, All, IsTrue, refl, sym, ap, ◌∙◌, subst, arith, inl, inr}
use Rattle.std.specs.Bool.{⊤}
use Rattle.std.specs.List.{flat_map, range_with_len}
use Rattle.std.proofs.lemmas.Bool.{cond-true, cond-false, cases_Bool, cases_lt, le-leb, lt-leb, false≢true, false_from_ne_true}
use Rattle.std.proofs.lemmas.List.{drop_all, drop-append-le, length-append}
use Rattle.std.proofs.lemmas.List.Elements.{All-nil, All-cons, All-head, All-tail, All-append, All-map, All-weaker}
use Rattle.std.proofs.lemmas.List.Sums.{sum_by-cons, sum_by-append, sum_by_push}
use Rattle.list_facts.proofs.Pairs.{AllPairs-head, AllPairs-tail}
use Rattle.list_facts.proofs.Lists.{All-flat, sum_by-map}
use Rattle.greedy_rules.specs.declared.flows.Flow.{Flow}
use Rattle.greedy_rules.specs.declared.flows.Entry.{Entry}
use Rattle.greedy_rules.specs.Flows.{same_flow, flow_below}
use Rattle.greedy_rules.specs.Batches.{DemandBatch, IsBatch, entry_of}
use Rattle.greedy_rules.specs.Balance.{AreInOrder, is_recorded, added_by, added_of}
use Rattle.greedy_rules.proofs.Facts.{same_flow-refl, same_flow-true, flow_below-not_same}
use Rattle.clos_topology.specs.Network.{endpoints_of}
use Rattle.clos_topology.specs.NetSlots.{SlotCores}
use Rattle.endpoint_history.specs.Entries.{had}
use Rattle.endpoint_history.specs.Lane.{last_reset}
use Rattle.endpoint_history.specs.Counts.{recorded, lost}
use Rattle.report_text.specs.declared.line.Line.{Line}
use Rattle.report_text.specs.declared.line.Line.TheVariants as line
use Rattle.trace_text.specs.Trace.{TraceContent}
use Rattle.trace_run.specs.Run.{Setting, replayed}
use Rattle.trace_run.specs.Histories.{lane_after}
use Rattle.trace_run.specs.Applicable.{EveryRunIsApplicable}
use Rattle.trace_run.specs.Counts.{IsCounted}
use Rattle.trace_run.specs.Shown.{IsShown, EveryReplayShows}
use Rattle.trace_run.specs.Windows.{batch_at, collected_after}
use Rattle.replay_rounds.specs.Played.{raw_answers, departures_in}
use Rattle.replay_rounds.specs.Standing.{slots_between}
use Rattle.greedy_rules.specs.Schedule.{first_slot, schedule}
use Rattle.window_engine.specs.declared.counts.Counts.{Counts}
use Rattle.window_engine.specs.Batches.{plan_batches}
use Rattle.window_engine.specs.Counts.{counts_of, AllIsAllocatedOrPending}
use Rattle.window_engine.specs.Replay.{replay_counts, EveryReplayTakesItsSteps}
use Rattle.run_lines.specs.Text.{entry_line, slots_lines, batch_lines, sent_line, refused_line, flow_lines_of, flows_lines, count_line, count_lines_of, counts_lines}
use Rattle.run_text.specs.PlanText.{batches_lines, plan_lines}
use Rattle.run_text.specs.ReplayText.{round_lines, replay_rounds_lines, replay_window_lines, step_lines, steps_lines, steps_of, replay_lines}
use Rattle.run_text.specs.Ledger.{IsBalanced, added_by_line, AddsUp, LedgerIsKept}
use Rattle.run_text.proofs.LineSums.{sum-none, sum-last, refusals_all, slots_all, sources_all, steps_sum}

-- ---- lines that name no counts

-- such a line says nothing of a flow's demand
abbrev pub NamesNoCounts : Line → Type 0
NamesNoCounts (line.Flow src dst demanded allocated pending) = ⊥
NamesNoCounts (line.Count src dst demanded acknowledged flight pending lost sent missed) = ⊥
NamesNoCounts _ = ⊤

pub balanced_without : (l : Line) → NamesNoCounts l → IsBalanced l
balanced_without (line.Flow src dst demanded allocated pending) is = absurd is
balanced_without (line.Count src dst demanded acknowledged flight pending lost sent missed) is = absurd is
balanced_without l is = tt

adds_up_without : (setting : Setting) (rounds : ℕ) (lines : List Line) (l : Line) → NamesNoCounts l → AddsUp setting rounds lines l
adds_up_without setting rounds lines (line.Flow src dst demanded allocated pending) is = absurd is
adds_up_without setting rounds lines (line.Count src dst demanded acknowledged flight pending lost sent missed) is = absurd is
adds_up_without setting rounds lines l is = tt

round_without : (setting : Setting) (trace : TraceContent) (round : ℕ) → All NamesNoCounts (round_lines setting trace round)
round_without setting trace round =
    let entries : List Line = map (entry_line round) (batch_at setting round).entries in
    let refusals : List Line = flat_map (refused_line round) (raw_answers setting trace round) in
    All-append NamesNoCounts (entries ++ refusals) (map sent_line (departures_in setting round))
    (All-append NamesNoCounts entries refusals (All-map NamesNoCounts (entry_line round) (batch_at setting round).entries (λ i d below. tt)) (refusals_all NamesNoCounts round (raw_answers setting trace round) (λ number. tt)))
    (All-map NamesNoCounts sent_line (departures_in setting round) (λ i d below. tt))

step_without : (cores : SlotCores) (setting : Setting) (trace : TraceContent) (step : ℕ) → All NamesNoCounts (step_lines cores setting trace step)
step_without cores setting trace step =
    let here : ℕ = collected_after setting.g trace.rounds step in
    let next : ℕ = collected_after setting.g trace.rounds (suc step) in
    let before : ℕ = collected_after setting.g trace.rounds (step - 1) in
    All-append NamesNoCounts (replay_rounds_lines setting trace here (next - here)) (replay_window_lines cores setting before here)
    (All-flat NamesNoCounts (round_lines setting trace) (range_with_len here (next - here)) (round_without setting trace))
    (slots_all NamesNoCounts cores (first_slot setting.b before) (slots_between setting before here) (λ number core_of flow. tt))

steps_without : (cores : SlotCores) (setting : Setting) (trace : TraceContent) (steps : ℕ) → All NamesNoCounts (steps_lines cores setting trace steps)
steps_without cores setting trace steps = All-flat NamesNoCounts (step_lines cores setting trace) (range_with_len 0 steps) (step_without cores setting trace)

-- ---- a plan

pub batches_without : (cores : SlotCores) (b k : ℕ) (batches : List DemandBatch) (slots : List (List Flow)) → All NamesNoCounts (batches_lines cores b k batches slots)
batches_without cores b k [] slots = All-nil NamesNoCounts
batches_without cores b k (batch ∷ batches) slots =
    let own : List (List Flow) = take b slots in
    All-append NamesNoCounts (batch_lines cores b k batch own) (batches_lines cores b (k + 1) batches (drop b slots))
    (All-append NamesNoCounts (map (entry_line k) batch.entries) (slots_lines cores (first_slot b k) own) (All-map NamesNoCounts (entry_line k) batch.entries (λ i d below. tt)) (slots_all NamesNoCounts cores (first_slot b k) own (λ number core_of flow. tt)))
    (batches_without cores b (k + 1) batches (drop b slots))

plan_flow : (b : ℕ) (batches : List DemandBatch) (flow : Flow) → AllIsAllocatedOrPending b batches → All IsBalanced (flow_lines_of flow (counts_of b batches flow))
plan_flow b batches flow balance =
    let P : Option Counts → Type 0 = λ o. All IsBalanced (flow_lines_of flow o) in
    elim (cases_Bool (is_recorded batches flow)) [
      | inl is ↦ subst P (sym (cond-true (is_recorded batches flow) _ _ is)) (All-cons IsBalanced _ [] (balance flow) (All-nil IsBalanced))
      | inr other ↦ subst P (sym (cond-false (is_recorded batches flow) _ _ other)) (All-nil IsBalanced)
    ]

pub plan_is_balanced : (cores : SlotCores) (b : ℕ) (trace : TraceContent) → AllIsAllocatedOrPending b (plan_batches trace) → All IsBalanced (plan_lines cores b trace)
plan_is_balanced cores b trace balance =
    let batches : List DemandBatch = plan_batches trace in
    let rounds : List Line = batches_lines cores b 0 batches (schedule b batches) in
    let last : List Line = line.End trace.rounds ∷ [] in
    All-append IsBalanced (rounds ++ flows_lines b trace) last
    (All-append IsBalanced rounds (flows_lines b trace) (All-weaker NamesNoCounts IsBalanced balanced_without rounds (batches_without cores b 0 batches (schedule b batches)))
    (sources_all IsBalanced (λ flow. flow_lines_of flow (counts_of b batches flow)) (endpoints_of trace.net) (λ src dst low high. plan_flow b batches (record { src = src; dst = dst }) balance)))
    (All-cons IsBalanced (line.End trace.rounds) [] tt (All-nil IsBalanced))

-- ---- what a batch adds

abbrev adds_to : Flow → Entry → ℕ
adds_to flow x = cond (same_flow x.flow flow) x.add 0

none_added : (e : Entry) (es : List Entry) → All (λ x. IsTrue (flow_below e.flow x.flow)) es → sum_by (adds_to e.flow) es ≡ 0
none_added e [] all = refl
none_added e (x ∷ es) all =
    let P : Entry → Type 0 = λ y. IsTrue (flow_below e.flow y.flow) in
    let other : same_flow x.flow e.flow ≡ false = false_from_ne_true (same_flow x.flow e.flow) (λ same.
    let equal : x.flow ≡ e.flow = same_flow-true x.flow e.flow same in
    let not_same : same_flow e.flow x.flow ≡ false = flow_below-not_same e.flow x.flow (All-head P x es all) in
    let is : same_flow e.flow x.flow ≡ true = subst (λ (f : Flow). same_flow e.flow f ≡ true) (sym equal) (same_flow-refl e.flow) in
    false≢true (sym not_same ∙ is)) in
    omega (arith, sum_by-cons (adds_to e.flow) x es, cond-false (same_flow x.flow e.flow) x.add 0 other, none_added e es (All-tail P x es all))

one_added : (es : List Entry) (flow : Flow) → IsBatch es → sum_by (adds_to flow) es ≡ added_by (entry_of es flow)
one_added [] flow rises = refl
one_added (e ∷ es) flow rises =
    let R : Entry → Entry → Type 0 = λ x y. IsTrue (flow_below x.flow y.flow) in
    let step = sum_by-cons (adds_to flow) e es in
    elim (cases_Bool (same_flow e.flow flow)) [
      | inl here ↦
          let same : e.flow ≡ flow = same_flow-true e.flow flow here in
          let rest : sum_by (adds_to flow) es ≡ 0 = subst (λ (f : Flow). sum_by (adds_to f) es ≡ 0) same (none_added e es (AllPairs-head R e es rises)) in
          let it : entry_of (e ∷ es) flow ≡ Some e = cond-true (same_flow e.flow flow) (Some e) (entry_of es flow) here in
          let by = ap added_by it in
          omega (arith, step, cond-true (same_flow e.flow flow) e.add 0 here, rest, by)
      | inr other ↦
          let it : entry_of (e ∷ es) flow ≡ entry_of es flow = cond-false (same_flow e.flow flow) (Some e) (entry_of es flow) other in
          let by = ap added_by it in
          omega (arith, step, cond-false (same_flow e.flow flow) e.add 0 other, one_added es flow (AllPairs-tail R e es rises), by)
    ]

-- the batch lines of a round: all where the round counts, else none
abbrev counted : Bool → Flow → Entry → ℕ
counted counts flow x = cond (counts && same_flow x.flow flow) x.add 0

entries_add : (first round : ℕ) (es : List Entry) (flow : Flow) → IsBatch es → sum_by (added_by_line first flow) (map (entry_line round) es) ≡ cond (nat_le first round) (added_by (entry_of es flow)) 0
entries_add first round es flow rises =
    let total : Bool → ℕ = λ counts. sum_by (counted counts flow) es in
    let lines : sum_by (added_by_line first flow) (map (entry_line round) es) ≡ total (nat_le first round) = sum_by-map (added_by_line first flow) (entry_line round) es in
    elim (cases_Bool (nat_le first round)) [
      | inl is ↦ lines ∙ (ap total is ∙ (one_added es flow rises ∙ sym (cond-true (nat_le first round) (added_by (entry_of es flow)) 0 is)))
      | inr other ↦ lines ∙ (ap total other ∙ (sum-none (counted false flow) es (λ i d below. refl) ∙ sym (cond-false (nat_le first round) (added_by (entry_of es flow)) 0 other)))
    ]

round_adds : (first round : ℕ) (setting : Setting) (trace : TraceContent) (flow : Flow) → IsBatch (batch_at setting round).entries
    → sum_by (added_by_line first flow) (round_lines setting trace round) ≡ cond (nat_le first round) (added_by (entry_of (batch_at setting round).entries flow)) 0
round_adds first round setting trace flow rises =
    let m : Line → ℕ = added_by_line first flow in
    let es : List Entry = (batch_at setting round).entries in
    let entries : List Line = map (entry_line round) es in
    let refusals : List Line = flat_map (refused_line round) (raw_answers setting trace round) in
    let sends : List Line = map sent_line (departures_in setting round) in
    let no_refusals : sum_by m refusals ≡ 0 = sum-none m refusals (refusals_all (λ l. m l ≡ 0) round (raw_answers setting trace round) (λ number. refl)) in
    let no_sends : sum_by m sends ≡ 0 = sum-none m sends (All-map (λ l. m l ≡ 0) sent_line (departures_in setting round) (λ i d below. refl)) in
    omega (arith, sum_by-append m (entries ++ refusals) sends, sum_by-append m entries refusals, no_refusals, no_sends, entries_add first round es flow rises)

-- ---- what the batches of a run add

last_rises : (before batches : List DemandBatch) (batch : DemandBatch) → AreInOrder before (batches ++ batch ∷ []) → IsBatch batch.entries
last_rises before [] batch are = are.0
last_rises before (x ∷ batches) batch are = last_rises (before ++ x ∷ []) batches batch are.2

abbrev added_from : ℕ → Flow → List DemandBatch → ℕ
added_from first flow batches = added_of flow (drop first batches)

one_batch_more : (first count : ℕ) (flow : Flow) (batches : List DemandBatch) (batch : DemandBatch) → length batches ≡ count
    → added_from first flow (batches ++ batch ∷ []) ≡ added_from first flow batches + cond (nat_le first count) (added_by (entry_of batch.entries flow)) 0
one_batch_more first count flow batches batch long =
    let m : DemandBatch → ℕ = λ x. added_by (entry_of x.entries flow) in
    elim (cases_lt count first) [
      | inl later ↦
          let none : drop first batches ≡ [] = drop_all first batches (omega (arith, long, later)) in
          let none_yet : drop first (batches ++ batch ∷ []) ≡ [] = drop_all first (batches ++ batch ∷ []) (omega (arith, long, later, length-append batches (batch ∷ []))) in
          let no : cond (nat_le first count) (m batch) 0 ≡ 0 = cond-false (nat_le first count) (m batch) 0 (lt-leb first count later) in
          omega (arith, ap (sum_by m) none, ap (sum_by m) none_yet, no)
      | inr counts ↦
          let all : drop first (batches ++ batch ∷ []) ≡ drop first batches ++ batch ∷ [] = drop-append-le first batches (batch ∷ []) (omega (arith, long, counts)) in
          let yes : cond (nat_le first count) (m batch) 0 ≡ m batch = cond-true (nat_le first count) (m batch) 0 (le-leb first count counts) in
          omega (arith, ap (sum_by m) all, sum_by_push m (drop first batches) batch, yes)
    ]

rounds_add : (first rounds : ℕ) (setting : Setting) (trace : TraceContent) (flow : Flow) → EveryRunIsApplicable → ((n : ℕ) → length (replayed setting n).batches ≡ n)
    → sum_by (added_by_line first flow) (replay_rounds_lines setting trace 0 rounds) ≡ added_from first flow (replayed setting rounds).batches
rounds_add first zero setting trace flow applicable long =
    let none : drop first (replayed setting 0).batches ≡ [] = drop_all first (replayed setting 0).batches (omega (arith, long 0)) in
    sym (ap (added_of flow) none)
rounds_add first (suc round) setting trace flow applicable long =
    let m : Line → ℕ = added_by_line first flow in
    let batches : List DemandBatch = (replayed setting round).batches in
    let batch : DemandBatch = batch_at setting round in
    let rises : IsBatch batch.entries = last_rises [] batches batch (applicable setting (suc round)).in_order in
    omega (
      arith,
      sum-last m (round_lines setting trace) round,
      rounds_add first round setting trace flow applicable long,
      round_adds first round setting trace flow rises,
      one_batch_more first round flow batches batch (long round),
    )

-- ---- a replay

flow_balances : (setting : Setting) (rounds src dst : ℕ) → IsCounted setting rounds src dst → All IsBalanced (count_lines_of (record { src = src; dst = dst }) (replay_counts setting rounds (record { src = src; dst = dst })))
flow_balances setting rounds src dst counted =
    let flow : Flow = record { src = src; dst = dst } in
    let known : Bool = had setting.g (lane_after setting rounds src) dst in
    let Q : Option Counts → Type 0 = λ o. All IsBalanced (count_lines_of flow o) in
    elim (cases_Bool known) [
      | inl is ↦ subst Q (sym (cond-true known _ _ is)) (All-cons IsBalanced _ [] counted.counted (All-nil IsBalanced))
      | inr other ↦ subst Q (sym (cond-false known _ _ other)) (All-nil IsBalanced)
    ]

flow_adds_up : (setting : Setting) (rounds src dst : ℕ) (lines : List Line)
    → sum_by (added_by_line (last_reset (lane_after setting rounds src)) (record { src = src; dst = dst })) lines ≡ recorded (lane_after setting rounds src) dst + lost setting.g (lane_after setting rounds src) dst
    → All (AddsUp setting rounds lines) (count_lines_of (record { src = src; dst = dst }) (replay_counts setting rounds (record { src = src; dst = dst })))
flow_adds_up setting rounds src dst lines adds =
    let flow : Flow = record { src = src; dst = dst } in
    let P : Line → Type 0 = AddsUp setting rounds lines in
    let known : Bool = had setting.g (lane_after setting rounds src) dst in
    let Q : Option Counts → Type 0 = λ o. All P (count_lines_of flow o) in
    elim (cases_Bool known) [
      | inl is ↦ subst Q (sym (cond-true known _ _ is)) (All-cons P _ [] adds (All-nil P))
      | inr other ↦ subst Q (sym (cond-false known _ _ other)) (All-nil P)
    ]

no_counts_add : (setting : Setting) (rounds first : ℕ) (flow named : Flow) → All (λ l. added_by_line first flow l ≡ 0) (count_lines_of named (replay_counts setting rounds named))
no_counts_add setting rounds first flow named = of_counts (replay_counts setting rounds named)
  where
    of_counts : (o : Option Counts) → All (λ l. added_by_line first flow l ≡ 0) (count_lines_of named o)
    of_counts None = All-nil (λ l. added_by_line first flow l ≡ 0)
    of_counts (Some counts) = All-cons (λ l. added_by_line first flow l ≡ 0) (count_line named counts) [] refl (All-nil (λ l. added_by_line first flow l ≡ 0))

all_collected : (setting : Setting) (trace : TraceContent) → EveryReplayTakesItsSteps → 0 < setting.g → 0 < trace.rounds → collected_after setting.g trace.rounds (steps_of setting trace) ≡ trace.rounds
all_collected setting trace takes some positive =
    let steps : ℕ = steps_of setting trace in
    let back : steps + 1 - 1 ≡ steps = omega arith in
    let done : collected_after setting.g trace.rounds (steps + 1 - 1) ≡ trace.rounds = (takes setting.g trace.rounds (steps + 1) some positive).1 (omega arith) in
    sym (ap (collected_after setting.g trace.rounds) back) ∙ done

-- over the whole text
text_adds : (cores : SlotCores) (setting : Setting) (trace : TraceContent) (first : ℕ) (flow : Flow) → EveryRunIsApplicable → ((n : ℕ) → length (replayed setting n).batches ≡ n) → EveryReplayTakesItsSteps → 0 < setting.g → 0 < trace.rounds
    → sum_by (added_by_line first flow) (replay_lines cores setting trace) ≡ added_from first flow (replayed setting trace.rounds).batches
text_adds cores setting trace first flow applicable long takes some positive =
    let m : Line → ℕ = added_by_line first flow in
    let all : ℕ = steps_of setting trace in
    let steps : List Line = steps_lines cores setting trace all in
    let counts : List Line = counts_lines setting trace in
    let last : List Line = line.End trace.rounds ∷ [] in
    let no_counts : sum_by m counts ≡ 0 = sum-none m counts (sources_all (λ l. m l ≡ 0) (λ f. count_lines_of f (replay_counts setting trace.rounds f)) (endpoints_of trace.net) (λ src dst low high. no_counts_add setting trace.rounds first flow (record { src = src; dst = dst }))) in
    let no_last : sum_by m last ≡ 0 = sum-none m last (All-cons (λ l. m l ≡ 0) (line.End trace.rounds) [] refl (All-nil (λ l. m l ≡ 0))) in
    let reached : sum_by m (replay_rounds_lines setting trace 0 (collected_after setting.g trace.rounds all)) ≡ sum_by m (replay_rounds_lines setting trace 0 trace.rounds) =
    ap (λ (n : ℕ). sum_by m (replay_rounds_lines setting trace 0 n)) (all_collected setting trace takes some positive) in
    omega (
      arith,
      sum_by-append m (steps ++ counts) last,
      sum_by-append m steps counts,
      no_counts,
      no_last,
      steps_sum m cores setting trace all (λ number core_of f. refl),
      reached,
      rounds_add first trace.rounds setting trace flow applicable long,
    )

pub ledger_is_kept : (cores : SlotCores) (setting : Setting) (trace : TraceContent) → setting.endpoints ≡ endpoints_of trace.net → EveryReplayShows → EveryRunIsApplicable → EveryReplayTakesItsSteps → 0 < setting.g → 0 < trace.rounds
    → LedgerIsKept setting trace.rounds (replay_lines cores setting trace)
ledger_is_kept cores setting trace endpoints shows applicable takes some positive =
    let lines : List Line = replay_lines cores setting trace in
    let steps : List Line = steps_lines cores setting trace (steps_of setting trace) in
    let counts : List Line = counts_lines setting trace in
    let last : List Line = line.End trace.rounds ∷ [] in
    let shown : IsShown setting trace.rounds = shows setting some trace.rounds in
    let long : (n : ℕ) → length (replayed setting n).batches ≡ n = λ n. (shows setting some n).batches in
    let parts : (P : Line → Type 0) → ((l : Line) → NamesNoCounts l → P l) → All P counts → All P lines = λ P without own.
    All-append P (steps ++ counts) last (All-append P steps counts (All-weaker NamesNoCounts P without steps (steps_without cores setting trace (steps_of setting trace))) own)
    (All-cons P (line.End trace.rounds) [] (without (line.End trace.rounds) tt) (All-nil P)) in
    let flows : (P : Line → Type 0) → ((src dst : ℕ) → src < setting.endpoints → dst < setting.endpoints → All P (count_lines_of (record { src = src; dst = dst }) (replay_counts setting trace.rounds (record { src = src; dst = dst })))) → All P counts = λ P each.
    sources_all P (λ f. count_lines_of f (replay_counts setting trace.rounds f)) (endpoints_of trace.net) (λ src dst low high. each src dst (omega (arith, low, endpoints)) (omega (arith, high, endpoints))) in
    record {
      balanced = parts IsBalanced balanced_without (flows IsBalanced (λ src dst low high. flow_balances setting trace.rounds src dst (shown.counted src dst low high)));
      added = parts (AddsUp setting trace.rounds lines) (adds_up_without setting trace.rounds lines)
          (flows (AddsUp setting trace.rounds lines) (λ src dst low high.
          flow_adds_up setting trace.rounds src dst lines
          (text_adds cores setting trace (last_reset (lane_after setting trace.rounds src)) (record { src = src; dst = dst }) applicable long takes some positive ∙ shown.added src dst low high)));
    }
