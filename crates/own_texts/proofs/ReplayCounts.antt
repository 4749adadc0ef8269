-- The count lines of a replay say what its batches come to.
use Rattle.std.proofs.Common.{◌≡◌, ◌⊎◌, ◌<◌, ◌≤◌, ◌+◌, ◌-◌, ◌*◌, ◌==◌, ◌||◌, not, ℕ, zero, suc, List, [], ◌∷◌, ◌++◌, map, drop, length, cond, Bool, true, false, Option, Some, None, All, refl, sym, ap, ◌∙◌, subst, inl, inr, arith}
use Rattle.std.proofs.lemmas.Bool.{eq-eqb, or_from}
use Rattle.std.proofs.lemmas.List.Elements.{All-nil, All-cons}
use Rattle.greedy_rules.specs.declared.flows.Flow.{Flow}
use Rattle.greedy_rules.specs.declared.flows.Entry.{Entry}
use Rattle.greedy_rules.specs.Batches.{DemandBatch, entry_of}
use Rattle.greedy_rules.specs.Allocation.{slots_of}
use Rattle.greedy_rules.specs.Balance.{clears, NoneClears}
use Rattle.greedy_rules.specs.Schedule.{schedule}
use Rattle.endpoint_history.specs.Agent.{asked, missed, in_time, slots_taken}
use Rattle.endpoint_history.specs.AgentLaws.{TakingBringsSlots}
use Rattle.endpoint_history.specs.Bounds.{TakenIsFew}
use Rattle.endpoint_history.specs.Counts.{recorded, acknowledged, lost, owed}
use Rattle.endpoint_history.specs.Entries.{entries_of_batches, had}
use Rattle.endpoint_history.specs.Lane.{LaneHistory, last_reset}
use Rattle.endpoint_history.specs.LedgerLaws as ledger
use Rattle.endpoint_history.specs.Rest as lane
use Rattle.endpoint_history.specs.RoundLaws.{RoundsAreInOrder}
use Rattle.endpoint_history.specs.Sending.{sends}
use Rattle.endpoint_history.specs.Steps.{Step, TakesInRound, lane_of}
use Rattle.endpoint_history.specs.Tellings.{Told}
use Rattle.schedule_audit.specs.Counts.{FlowClearsAt, FlowOpensFrom}
use Rattle.schedule_audit.specs.Wrong.{Expected, expected_of_batches, allocated_since, left_of, is_bad_count}
use Rattle.schedule_audit.specs.Texts.{records_of}
use Rattle.trace_text.specs.Trace.{TraceContent}
use Rattle.trace_run.specs.Applicable.{IsApplicable, EveryRunIsApplicable}
use Rattle.trace_run.specs.Counts.{flight, IsCounted}
use Rattle.trace_run.specs.Histories.{played_after, agent_after, lane_after}
use Rattle.trace_run.specs.Premises.{Schedules}
use Rattle.trace_run.specs.Recorded.{KeepsTraceRules}
use Rattle.trace_run.specs.Rest.{allocated_from, left_after}
use Rattle.trace_run.specs.Run.{Setting, told_in, replayed}
use Rattle.trace_run.proofs.Applicable.{recording}
use Rattle.trace_run.proofs.Sends.{told_are, are-within, are-rising}
use Rattle.trace_run.proofs.Through.{rounds_length}
use Rattle.trace_run.proofs.ToldOf.{told_in-within, told_in-rises}
use Rattle.window_engine.specs.declared.counts.Counts.{Counts}
use Rattle.window_engine.specs.Replay.{replay_counts}
use Rattle.run_lines.specs.Text.{count_lines_of, count_lines, counts_lines}
use Rattle.clos_topology.specs.Network.{endpoints_of}
use Rattle.own_texts.specs.Premises.{SlotsPremises, EndsPremises, RunsPremises}
use Rattle.own_texts.proofs.Shows.{Shows, shows-nil}
use Rattle.own_texts.proofs.EachFlow.{each_flow}
use Rattle.own_texts.proofs.ReplayAsks.{slots_few}
use Rattle.own_texts.proofs.Formed.{below_most}

-- ---- where a flow's slots begin to count

abbrev entries : Flow → List DemandBatch → List (Option Entry)
entries flow batches = map (λ batch. entry_of batch.entries flow) batches

none_clears : (flow : Flow) (batches : List DemandBatch) → lane.NoEntryClears (entries flow batches) → NoneClears flow batches
none_clears flow [] none = All-nil (λ (x : DemandBatch). clears (entry_of x.entries flow) ≡ false)
none_clears flow (batch ∷ batches) none = All-cons (λ (x : DemandBatch). clears (entry_of x.entries flow) ≡ false) batch batches none.0 (none_clears flow batches none.1)

clears_at : (flow : Flow) (place : ℕ) (batches : List DemandBatch) → lane.EntryClearsAt place (entries flow batches) → FlowClearsAt flow place batches
clears_at flow place [] is = absurd is
clears_at flow zero (batch ∷ batches) is = (is.0, none_clears flow batches is.1)
clears_at flow (suc place) (batch ∷ batches) is = clears_at flow place batches is

opens_from : (flow : Flow) (place : ℕ) (batches : List DemandBatch) → lane.EntryOpensFrom place (entries flow batches) → FlowOpensFrom flow place batches
opens_from flow place [] is = absurd is
opens_from flow zero (batch ∷ batches) is = All-cons (λ (x : DemandBatch). clears (entry_of x.entries flow) ≡ false) batch batches is.0 (none_clears flow batches is.1)
opens_from flow (suc place) (batch ∷ batches) is = (is.0, opens_from flow place batches is.1)

begins : RoundsAreInOrder → ledger.CountsBeginAtTheLastClear → EveryRunIsApplicable → (setting : Setting) (rounds src dst : ℕ) → src < setting.endpoints → dst < setting.endpoints → 0 < rounds
    → FlowClearsAt (record { src = src; dst = dst }) (last_reset (lane_after setting rounds src)) (replayed setting rounds).batches
    ⊎ FlowOpensFrom (record { src = src; dst = dst }) (last_reset (lane_after setting rounds src)) (replayed setting rounds).batches
begins order law applicable setting zero src dst near far some = absurd (omega arith)
begins order law applicable setting (suc rounds) src dst near far some =
    elim (law src setting.g (length ((replayed setting rounds).rounds src)) (recording setting rounds src) dst takes) [
      | inl is ↦ inl (clears_at flow place batches (subst (λ (es : List (Option Entry)). lane.EntryClearsAt place es) (sym same) is))
      | inr is ↦ inr (opens_from flow place batches (subst (λ (es : List (Option Entry)). lane.EntryOpensFrom place es) (sym same) is))
    ]
  where
    flow : Flow
    flow = record { src = src; dst = dst }

    batches : List DemandBatch
    batches = (replayed setting (suc rounds)).batches

    place : ℕ
    place = last_reset (recording setting rounds src)

    takes : TakesInRound (recording setting rounds src)
    takes = (order setting.endpoints setting.g ((replayed setting (suc rounds)).rounds src)).takes

    same : entries flow batches ≡ entries_of_batches src setting.g (lane_after setting (suc rounds) src) dst
    same = (applicable setting (suc rounds)).entries src dst near far

-- ---- the numbers of a count line

-- what holds of the counts of a flow, so that its line is right and its numbers fit
record IsRight (setting : Setting) (rounds src dst : ℕ) : Type 0 where
  counted : IsCounted setting rounds src dst
  demanded : recorded (lane_after setting rounds src) dst ≤ 200000000
  owing : owed setting.g (lane_after setting rounds src) dst ≤ 206400000
  sent : sends setting.b setting.g (agent_after setting rounds src) dst ≤ 100000000
  missed : missed setting.g (agent_after setting rounds src) dst ≤ 6400000
  since : allocated_since setting.b (expected_of_batches setting.b (records_of 0 (replayed setting rounds).batches) (replayed setting rounds).batches) (record { src = src; dst = dst })
      ≡ allocated_from setting rounds (last_reset (lane_after setting rounds src)) src dst

missed_few : Schedules → RoundsAreInOrder → TakenIsFew → TakingBringsSlots → (setting : Setting) (rounds src dst : ℕ) → 0 < setting.g → rounds * setting.b ≤ 6400000
    → missed setting.g (agent_after setting rounds src) dst ≤ 6400000
missed_few s order few taking setting rounds src dst some wide =
    let steps : List Step = (played_after setting rounds src).steps in
    let of : ℕ → List Told = λ round. told_in setting (replayed setting rounds).batches round src in
    let are = told_are s setting some rounds rounds src (omega arith) in
    let in_order = order setting.endpoints setting.g ((replayed setting rounds).rounds src) in
    let taken = few setting.b setting.g steps in_order.from_lane in_order.rise
    (are-within setting.b of (λ r. told_in-within setting (replayed setting rounds).batches r src) (lane_of steps) are)
    (are-rising of (λ r. told_in-rises setting (replayed setting rounds).batches r src) (lane_of steps) are) dst in
    let both = taking.both setting.g (agent_after setting rounds src) dst in
    let begun = in_order.begun ∙ rounds_length setting rounds src in
    let bound : slots_taken (agent_after setting rounds src) dst ≤ rounds * setting.b = subst (λ (n : ℕ). slots_taken (agent_after setting rounds src) dst ≤ n * setting.b) begun taken in
    omega (arith, bound, both, wide)

-- a sum of three parts, and what is neither acknowledged nor lost
parts_of : (all acknowledged lost : ℕ) → acknowledged + lost ≤ all → acknowledged + (all - acknowledged - lost) + lost ≡ all
parts_of all acknowledged lost within = omega arith

good_count : (setting : Setting) (rounds src dst : ℕ) → IsRight setting rounds src dst
    → is_bad_count setting.b (expected_of_batches setting.b (records_of 0 (replayed setting rounds).batches) (replayed setting rounds).batches) (record { src = src; dst = dst })
    (recorded (lane_after setting rounds src) dst) (acknowledged setting.g (lane_after setting rounds src) dst) (flight setting rounds src dst) (left_after setting rounds src dst)
    (lost setting.g (lane_after setting rounds src) dst) ≡ false
good_count setting rounds src dst is =
    let h : LaneHistory = lane_after setting rounds src in
    let flow : Flow = record { src = src; dst = dst } in
    let e : Expected = expected_of_batches setting.b (records_of 0 (replayed setting rounds).batches) (replayed setting rounds).batches in
    let a : ℕ = acknowledged setting.g h dst in
    let l : ℕ = lost setting.g h dst in
    let f : ℕ = flight setting rounds src dst in
    let n : ℕ = left_after setting rounds src dst in
    let all : ℕ = allocated_from setting rounds (last_reset h) src dst in
    or_from (not (recorded h dst == a + f + n)) (not (n == left_of e flow) || not (a + f + l == allocated_since setting.b e flow))
    (ap not (eq-eqb (recorded h dst) (a + f + n) is.counted.counted))
    (or_from (not (n == left_of e flow)) (not (a + f + l == allocated_since setting.b e flow)) (ap not (eq-eqb n (left_of e flow) refl))
    (ap not (eq-eqb (a + f + l) (allocated_since setting.b e flow) (parts_of all a l is.counted.within ∙ sym is.since))))

one_count : (setting : Setting) (rounds src dst : ℕ) → IsRight setting rounds src dst → setting.endpoints ≤ 256 → src < setting.endpoints → dst < setting.endpoints
    → Shows setting.b (expected_of_batches setting.b (records_of 0 (replayed setting rounds).batches) (replayed setting rounds).batches)
    (count_lines_of (record { src = src; dst = dst }) (replay_counts setting rounds (record { src = src; dst = dst }))) [] [] []
one_count setting rounds src dst is few near far = either (had setting.g h dst)
  where
    h : LaneHistory
    h = lane_after setting rounds src

    e : Expected
    e = expected_of_batches setting.b (records_of 0 (replayed setting rounds).batches) (replayed setting rounds).batches

    counts : Counts
    counts = record {
      demanded = recorded h dst;
      allocated = allocated_from setting rounds (last_reset h) src dst;
      acknowledged = acknowledged setting.g h dst;
      lost = lost setting.g h dst;
      pending = left_after setting rounds src dst;
      sent = sends setting.b setting.g (agent_after setting rounds src) dst;
      missed = missed setting.g (agent_after setting rounds src) dst;
    }

    acknowledged_fits : acknowledged setting.g h dst ≤ 4294967295
    acknowledged_fits = let sum = is.counted.counted in let most = is.demanded in omega arith

    flight_fits : flight setting rounds src dst ≤ 4294967295
    flight_fits = let sum = is.counted.counted in let most = is.demanded in omega arith

    pending_fits : left_after setting rounds src dst ≤ 4294967295
    pending_fits = let sum = is.counted.counted in let most = is.demanded in omega arith

    either : (some : Bool) → Shows setting.b e (count_lines_of (record { src = src; dst = dst }) (cond some (Some counts) None)) [] [] []
    either false = shows-nil setting.b e
    either true = record {
      inner = (tt, tt);
      good = (good_count setting rounds src dst is, tt);
      figures = ((below_most src setting.endpoints near few, (below_most dst setting.endpoints far few, (omega (arith, is.demanded), (acknowledged_fits, (flight_fits, (pending_fits, (omega (arith, is.owing), (omega (arith, is.sent), (omega (arith, is.missed), tt))))))))), tt);
      recorded = refl;
      routed = refl;
      sent = refl;
    }

-- ---- all of them

module _ (slots : SlotsPremises) (ends : EndsPremises) (runs : RunsPremises) where
  is_right : (setting : Setting) (rounds src dst : ℕ) → KeepsTraceRules setting rounds → 0 < rounds → src < setting.endpoints → dst < setting.endpoints → IsRight setting rounds src dst
  is_right setting rounds src dst trace some near far =
      let run = runs.recorded setting rounds rounds (omega arith) trace in
      let wide = slots_few rounds rounds setting.b (omega arith) trace.length trace.batch in
      record {
        counted = runs.counted setting trace.window rounds src dst near far;
        demanded = run.demanded src dst;
        owing = let owing = run.owing src dst in omega arith;
        sent = let one = ends.asks setting.b setting.g (agent_after setting rounds src) dst in let two = runs.asked setting rounds src dst in let most = trace.few src dst in omega arith;
        missed = missed_few slots.schedules ends.order ends.few ends.taking setting rounds src dst trace.window wide;
        since = slots.since setting.endpoints setting.b setting.limits (replayed setting rounds).batches (record { src = src; dst = dst }) (last_reset (lane_after setting rounds src)) run.batches
            (begins ends.order ends.begins runs.applicable setting rounds src dst near far some);
      }

  pub counts_show : (setting : Setting) (trace : TraceContent) → setting.endpoints ≡ endpoints_of trace.net → endpoints_of trace.net ≤ 256 → KeepsTraceRules setting trace.rounds → 0 < trace.rounds
      → Shows setting.b (expected_of_batches setting.b (records_of 0 (replayed setting trace.rounds).batches) (replayed setting trace.rounds).batches) (counts_lines setting trace) [] [] []
  counts_show setting trace wide most is some =
      each_flow setting.b (expected_of_batches setting.b (records_of 0 (replayed setting trace.rounds).batches) (replayed setting trace.rounds).batches) (count_lines setting trace) (endpoints_of trace.net)
      (λ src dst near far.
      let near' : src < setting.endpoints = omega arith in
      let far' : dst < setting.endpoints = omega arith in
      one_count setting trace.rounds src dst (is_right setting trace.rounds src dst is some near' far') (omega arith) near' far')
