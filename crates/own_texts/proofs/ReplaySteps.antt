-- The steps of a replay show its batches, their schedule on the named cores, and its sends.
use Rattle.std.proofs.Common.{◌≡◌, ◌<◌, ◌≤◌, ◌+◌, ◌-◌, ◌*◌, ◌/◌, ℕ, zero, suc, List, [], ◌∷◌, ◌++◌, map, take, drop, length, min, refl, sym, ap, ◌∙◌, subst, arith}
use Rattle.std.specs.List.{flat_map, range_with_len}
use Rattle.std.proofs.lemmas.List.{append_assoc, append-nil, take-append-drop}
use Rattle.std.proofs.lemmas.List.Concat.{flat_map-append}
use Rattle.list_facts.proofs.Lists.{range_both}
use Rattle.greedy_rules.specs.declared.flows.Flow.{Flow}
use Rattle.greedy_rules.specs.Batches.{DemandBatch}
use Rattle.greedy_rules.specs.Fronts.{FrontsAreFronts, EveryBatchHasItsSlots}
use Rattle.greedy_rules.specs.Schedule.{first_slot, schedule}
use Rattle.clos_topology.specs.NetSlots.{SlotCores}
use Rattle.report_text.specs.declared.line.Line.{Line}
use Rattle.schedule_audit.specs.declared.recorded.Recorded.{Recorded}
use Rattle.schedule_audit.specs.declared.packets.Place.{Place}
use Rattle.schedule_audit.specs.declared.packets.Path.{Path}
use Rattle.schedule_audit.specs.Wrong.{Expected}
use Rattle.schedule_audit.specs.Texts.{records_of}
use Rattle.schedule_audit.proofs.Batches.{records_of-append}
use Rattle.trace_text.specs.Trace.{TraceContent}
use Rattle.trace_run.specs.Fronts.{EveryRoundHasABatch}
use Rattle.trace_run.specs.Run.{Setting, replayed}
use Rattle.trace_run.specs.Windows.{collected_after}
use Rattle.replay_rounds.specs.Played.{EveryRefusalHasANumber}
use Rattle.replay_rounds.specs.Standing.{slots_between}
use Rattle.window_engine.specs.Replay.{EveryReplayTakesItsSteps}
use Rattle.run_text.specs.ReplayText.{step_lines, steps_lines, steps_of}
use Rattle.run_text.proofs.NumberedTexts.{numbers-last}
use Rattle.run_text.proofs.SentLemmas.{collected_within}
use Rattle.own_texts.proofs.Shows.{Shows, shows-nil, shows-append, shows-as, shows-slots, paths_by, paths_by-append}
use Rattle.own_texts.proofs.ReplayRounds.{batches_from, sent_from, rounds_show, batches_grow, places_in}

collected_rises : (g rounds steps : ℕ) → collected_after g rounds steps ≤ collected_after g rounds (suc steps)
collected_rises g rounds steps = omega arith

-- the step before collected no more
before_rises : (g rounds steps : ℕ) → collected_after g rounds (steps - 1) ≤ collected_after g rounds steps
before_rises g rounds zero = omega arith
before_rises g rounds (suc steps) =
    let before : suc steps - 1 ≡ steps = omega arith in
    subst (λ (n : ℕ). collected_after g rounds n ≤ collected_after g rounds (suc steps)) (sym before) (collected_rises g rounds steps)

module _ (fronts : FrontsAreFronts) (slots_of_all : EveryBatchHasItsSlots) (long : EveryRoundHasABatch) (named : EveryRefusalHasANumber) (e : Expected) (cores : SlotCores) (setting : Setting) (trace : TraceContent) (low : trace.rounds ≤ 100000) where
  abbrev b : ℕ
  b = setting.b

  abbrev batches : ℕ → List DemandBatch
  batches n = (replayed setting n).batches

  abbrev slots : ℕ → List (List Flow)
  slots n = schedule b (batches n)

  abbrev c : ℕ → ℕ
  c j = collected_after setting.g trace.rounds j

  -- one run's records, slots and sends begin with a shorter one's
  more_records : (u v : ℕ) → u ≤ v → records_of 0 (batches u) ++ records_of u (batches_from setting u (v - u)) ≡ records_of 0 (batches v)
  more_records u v up =
      let later : List DemandBatch = batches_from setting u (v - u) in
      let at : 0 + length (batches u) ≡ u = omega (arith, long setting u) in
      let there : u + (v - u) ≡ v = omega arith in
      ap (λ (n : ℕ). records_of 0 (batches u) ++ records_of n later) (sym at)
      ∙ (sym (records_of-append 0 (batches u) later) ∙ (ap (records_of 0) (sym (batches_grow setting u (v - u))) ∙ ap (λ (n : ℕ). records_of 0 (batches n)) there))

  slots_long : (n : ℕ) → length (slots n) ≡ n * b
  slots_long n = slots_of_all b 0 [] (batches n) ∙ ap (λ (m : ℕ). m * b) (long setting n)

  slots_begin : (p u : ℕ) → p ≤ u → slots p ++ slots_between setting p u ≡ slots u
  slots_begin p u up =
      let later : List DemandBatch = batches_from setting p (u - p) in
      let there : p + (u - p) ≡ u = omega arith in
      let whole : batches p ++ later ≡ batches u = sym (batches_grow setting p (u - p)) ∙ ap batches there in
      let front : take (p * b) (slots u) ≡ slots p =
      ap (λ (bs : List DemandBatch). take (p * b) (schedule b bs)) (sym whole)
      ∙ (ap (λ (n : ℕ). take (n * b) (schedule b (batches p ++ later))) (sym (long setting p)) ∙ (fronts b (batches p) later).2) in
      ap (λ (xs : List (List Flow)). xs ++ drop (p * b) (slots u)) (sym front) ∙ take-append-drop (p * b) (slots u)

  more_paths : (p u : ℕ) → p ≤ u → paths_by cores 1 (slots p) ++ paths_by cores (first_slot b p) (slots_between setting p u) ≡ paths_by cores 1 (slots u)
  more_paths p u up =
      let at : first_slot b p ≡ 1 + length (slots p) = omega (arith, slots_long p) in
      ap (λ (n : ℕ). paths_by cores 1 (slots p) ++ paths_by cores n (slots_between setting p u)) at
      ∙ (sym (paths_by-append cores 1 (slots p) (slots_between setting p u)) ∙ ap (paths_by cores 1) (slots_begin p u up))

  more_sends : (u v : ℕ) → u ≤ v → sent_from setting 0 u ++ sent_from setting u (v - u) ≡ sent_from setting 0 v
  more_sends u v up =
      let there : u + (v - u) ≡ v = omega arith in
      let at : 0 + u ≡ u = omega arith in
      ap (λ (n : ℕ). sent_from setting 0 u ++ sent_from setting n (v - u)) (sym at)
      ∙ (sym (flat_map-append (places_in setting) (range_with_len 0 u) (range_with_len (0 + u) (v - u)))
      ∙ (ap (flat_map (places_in setting)) (sym (range_both 0 u (v - u))) ∙ ap (sent_from setting 0) there))

  step_shows : (j : ℕ) → Shows b e (step_lines cores setting trace j) (records_of (c j) (batches_from setting (c j) (c (suc j) - c j))) (paths_by cores (first_slot b (c (j - 1))) (slots_between setting (c (j - 1)) (c j)))
      (sent_from setting (c j) (c (suc j) - c j))
  step_shows j =
      let up = collected_rises setting.g trace.rounds j in
      let within = collected_within setting.g trace.rounds (suc j) in
      shows-as (shows-append (rounds_show named b e setting trace (c j) (c (suc j) - c j) (omega arith)) (shows-slots b e cores (first_slot b (c (j - 1))) (slots_between setting (c (j - 1)) (c j))))
      (append-nil (records_of (c j) (batches_from setting (c j) (c (suc j) - c j)))) refl (append-nil (sent_from setting (c j) (c (suc j) - c j)))

  steps_show : (steps : ℕ) → Shows b e (steps_lines cores setting trace steps) (records_of 0 (batches (c steps))) (paths_by cores 1 (slots (c (steps - 1)))) (sent_from setting 0 (c steps))
  steps_show zero = shows-nil b e
  steps_show (suc j) =
      let one : suc j ≡ j + 1 = omega arith in
      let at : 0 + j ≡ j = omega arith in
      let before : suc j - 1 ≡ j = omega arith in
      let last : steps_lines cores setting trace (suc j) ≡ steps_lines cores setting trace j ++ step_lines cores setting trace j =
      ap (steps_lines cores setting trace) one ∙ (numbers-last (step_lines cores setting trace) 0 j ∙ ap (λ (n : ℕ). steps_lines cores setting trace j ++ step_lines cores setting trace n) at) in
      rw last
      (shows-as (shows-append (steps_show j) (step_shows j)) (more_records (c j) (c (suc j)) (collected_rises setting.g trace.rounds j))
      (more_paths (c (j - 1)) (c j) (before_rises setting.g trace.rounds j) ∙ ap (λ (n : ℕ). paths_by cores 1 (slots (c n))) (sym before)) (more_sends (c j) (c (suc j)) (collected_rises setting.g trace.rounds j)))

  -- all of them
  pub all_steps_show : EveryReplayTakesItsSteps → 0 < setting.g → 0 < trace.rounds
      → Shows b e (steps_lines cores setting trace (steps_of setting trace)) (records_of 0 (batches trace.rounds)) (paths_by cores 1 (slots trace.rounds)) (sent_from setting 0 trace.rounds)
  all_steps_show takes some positive =
      let steps : ℕ = steps_of setting trace in
      let published : c (steps - 1) ≡ trace.rounds = (takes setting.g trace.rounds steps some positive).1 (omega arith) in
      let all : c steps ≡ trace.rounds =
      let back : steps + 1 - 1 ≡ steps = omega arith in
      ap c (sym back) ∙ (takes setting.g trace.rounds (steps + 1) some positive).1 (omega arith) in
      shows-as (steps_show steps) (ap (λ (n : ℕ). records_of 0 (batches n)) all) (ap (λ (n : ℕ). paths_by cores 1 (slots n)) published) (ap (sent_from setting 0) all)
