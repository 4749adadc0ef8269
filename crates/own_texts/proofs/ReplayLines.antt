-- The lines of a replay are those of its batches, with their schedule on the named cores.
use Rattle.std.proofs.Common.{◌≡◌, ◌≢◌, ◌<◌, ◌≤◌, ◌+◌, ◌*◌, ℕ, zero, suc, List, [], ◌∷◌, ◌++◌, map, length, true, false, All, AllPairs, refl, sym, ap, ◌∙◌, subst, arith}
use Rattle.std.specs.List.{list_any}
use Rattle.std.proofs.lemmas.List.{append-nil}
use Rattle.greedy_rules.specs.declared.flows.Flow.{Flow}
use Rattle.greedy_rules.specs.Batches.{DemandBatch}
use Rattle.greedy_rules.specs.Schedule.{schedule}
use Rattle.clos_topology.specs.Network.{endpoints_of}
use Rattle.clos_topology.specs.NetSlots.{SlotCores}
use Rattle.report_text.specs.declared.line.Line.{Line}
use Rattle.report_text.specs.declared.line.Line.TheVariants as line
use Rattle.schedule_audit.specs.declared.packets.Place.{Place}
use Rattle.schedule_audit.specs.declared.packets.Path.{Path}
use Rattle.schedule_audit.specs.Lines.{sent_by_line, sends_in_lines}
use Rattle.schedule_audit.specs.Wrong.{Expected, expected_of_batches, slot_places_from, has_wrong_core, share_a_link, same_place}
use Rattle.schedule_audit.specs.Laws.{read}
use Rattle.schedule_audit.specs.ReadLaws.{EachTextIsRead, EachTextHasOneReading}
use Rattle.schedule_audit.specs.Texts.{records_of, IsTextOf, ATextOfBatchesHasNoBadLine}
use Rattle.trace_text.specs.Trace.{TraceContent}
use Rattle.trace_run.specs.Recorded.{KeepsTraceRules}
use Rattle.trace_run.specs.Run.{Setting, replayed}
use Rattle.replay_rounds.specs.Setting.{setting_of}
use Rattle.window_engine.specs.Scheduled.{AreClean}
use Rattle.run_lines.specs.Text.{counts_lines}
use Rattle.run_text.specs.ReplayText.{all_steps_lines, replay_lines}
use Rattle.run_text.specs.Sends.{SendsAreScheduled}
use Rattle.run_text.proofs.SentLemmas.{sends_are_scheduled}
use Rattle.own_texts.specs.Premises.{SlotsPremises, EndsPremises, RunsPremises}
use Rattle.own_texts.specs.Replays.{IsReplay, NoReplayHasABadLine}
use Rattle.own_texts.proofs.Shows.{Shows, shows-append, shows-as, paths_by, read-append}
use Rattle.own_texts.proofs.PathLemmas.{places-by, clean_slots, cores-by, apart-by}
use Rattle.own_texts.proofs.ReplayRounds.{sent_from}
use Rattle.own_texts.proofs.ReplaySteps.{all_steps_show}
use Rattle.own_texts.proofs.ReplaySends.{sends_scheduled, sends_once}
use Rattle.own_texts.proofs.ReplayAsks.{adds_few, entries_say}
use Rattle.own_texts.proofs.ReplayCounts.{counts_show}
use Rattle.own_texts.proofs.Formed.{text_formed}
use Rattle.own_texts.proofs.Pass.{passes}

-- the lines before the last
abbrev pub replay_body : SlotCores → Setting → TraceContent → List Line
replay_body cores setting trace = all_steps_lines cores setting trace ++ counts_lines setting trace

module _ (schedules : SlotsPremises) (ends : EndsPremises) (runs : RunsPremises) where
  pub replay_shows : (b g : ℕ) (trace : TraceContent) (cores : SlotCores) → IsReplay b g trace cores →
      let setting : Setting = setting_of trace b g cores in
      let batches : List DemandBatch = (replayed setting trace.rounds).batches in
      Shows b (expected_of_batches b (records_of 0 batches) batches) (replay_body cores setting trace) (records_of 0 batches) (paths_by cores 1 (schedule b batches)) (sent_from setting 0 trace.rounds)
  replay_shows b g trace cores is =
      let setting : Setting = setting_of trace b g cores in
      let batches : List DemandBatch = (replayed setting trace.rounds).batches in
      let e : Expected = expected_of_batches b (records_of 0 batches) batches in
      let run : KeepsTraceRules setting trace.rounds = runs.setting trace b g cores is.accepted is.batch.1 is.window.0 in
      let some = is.accepted.some_round in
      shows-as
      (shows-append
      (all_steps_show schedules.fronts schedules.schedules.count runs.long runs.named e cores setting trace is.accepted.few_rounds runs.takes is.window.0 (omega arith))
      (counts_show schedules ends runs setting trace refl is.accepted.net.most_endpoints run (omega arith)))
      (append-nil (records_of 0 batches)) (append-nil (paths_by cores 1 (schedule b batches))) (append-nil (sent_from setting 0 trace.rounds))

  pub text_of_replay : (b g : ℕ) (trace : TraceContent) (cores : SlotCores) → IsReplay b g trace cores
      → IsTextOf trace.net b (replayed (setting_of trace b g cores) trace.rounds).batches (replay_body cores (setting_of trace b g cores) trace)
  text_of_replay b g trace cores is =
      let setting : Setting = setting_of trace b g cores in
      let batches : List DemandBatch = (replayed setting trace.rounds).batches in
      let slots : List (List Flow) = schedule b batches in
      let body : List Line = replay_body cores setting trace in
      let last : List Line = line.End trace.rounds ∷ [] in
      let shows = replay_shows b g trace cores is in
      let run : KeepsTraceRules setting trace.rounds = runs.setting trace b g cores is.accepted is.batch.1 is.window.0 in
      let long : length batches ≡ trace.rounds = runs.long setting trace.rounds in
      let clean : AreClean trace.net cores 1 slots = clean_slots b trace.net batches cores is.scheduled in
      let right : SendsAreScheduled setting trace.rounds (body ++ last) = sends_are_scheduled cores setting trace runs.scheduled runs.once is.window.0 in
      let same : sends_in_lines (read (body ++ last)) ≡ sends_in_lines (read body) = read-append sent_by_line body last ∙ append-nil (sends_in_lines (read body)) in
      record {
        inner = shows.inner;
        recorded = (runs.recorded setting trace.rounds trace.rounds (omega arith) run).batches;
        some_round = let some = is.accepted.some_round in omega arith;
        most_rounds = let few = is.accepted.few_rounds in omega arith;
        say = entries_say runs.applicable runs.recorded setting trace.rounds run;
        few = adds_few runs.owed runs.applicable runs.recorded setting trace.rounds trace.rounds (omega arith) run;
        records = shows.recorded;
        places = ap (λ (ps : List Path). map (λ (p : Path). p.place) ps) shows.routed ∙ places-by cores 1 slots;
        cores = subst (λ (ps : List Path). All (λ (p : Path). has_wrong_core trace.net p.place.flow p.core ≡ false) ps) (sym shows.routed) (cores-by trace.net cores 1 slots clean);
        apart = subst (λ (ps : List Path). AllPairs (λ (p q : Path). share_a_link trace.net q p ≡ false) ps) (sym shows.routed) (apart-by trace.net cores 1 slots clean);
        scheduled = subst (λ (ss : List Place). All (λ (s : Place). list_any (same_place s) (slot_places_from 1 slots) ≡ true) ss) same (sends_scheduled setting trace.rounds (body ++ last) right.scheduled);
        once = subst (λ (ss : List Place). AllPairs (λ (s t : Place). s.slot ≡ t.slot → s.flow.src ≢ t.flow.src) ss) same (sends_once (body ++ last) right.once);
        lines = shows.good;
      }

  pub no_replay_has_a_bad_line : EachTextIsRead → EachTextHasOneReading → ATextOfBatchesHasNoBadLine → NoReplayHasABadLine
  no_replay_has_a_bad_line is_read one_reading no_bad_line b g trace cores is =
      let setting : Setting = setting_of trace b g cores in
      let batches : List DemandBatch = (replayed setting trace.rounds).batches in
      let body : List Line = replay_body cores setting trace in
      let text = text_of_replay b g trace cores is in
      let figures = (replay_shows b g trace cores is).figures in
      passes is_read one_reading no_bad_line trace.net b trace.rounds batches body text (text_formed schedules.schedules.count schedules.in_range trace.net b batches body is.accepted.net is.batch.1 text figures) (runs.long setting trace.rounds)
