-- The lines of a plan are those of its batches, with their schedule on the named cores.
use Rattle.std.proofs.Common.{◌≡◌, ◌≢◌, ◌<◌, ◌≤◌, ◌+◌, ◌*◌, ℕ, zero, suc, List, [], ◌∷◌, ◌++◌, map, take, drop, length, true, false, All, AllPairs, refl, sym, ap, ◌∙◌, subst, arith}
use Rattle.std.specs.List.{list_any}
use Rattle.std.proofs.Math.Nat.{suc-mul}
use Rattle.std.proofs.lemmas.List.{append-nil, take-append-drop}
use Rattle.std.proofs.lemmas.List.Elements.{All-nil}
use Rattle.list_facts.proofs.Pairs.{AllPairs-nil}
use Rattle.list_facts.proofs.Numbers.{slots_on}
use Rattle.greedy_rules.specs.declared.flows.Flow.{Flow}
use Rattle.greedy_rules.specs.Batches.{DemandBatch}
use Rattle.greedy_rules.specs.Fronts.{EveryBatchHasItsSlots}
use Rattle.greedy_rules.specs.Matching.{EverySlotIsInRange}
use Rattle.greedy_rules.specs.Schedule.{first_slot, schedule}
use Rattle.clos_topology.specs.NetSlots.{SlotCores}
use Rattle.report_text.specs.declared.line.Line.{Line}
use Rattle.schedule_audit.specs.declared.recorded.Recorded.{Recorded}
use Rattle.schedule_audit.specs.declared.packets.Place.{Place}
use Rattle.schedule_audit.specs.declared.packets.Path.{Path}
use Rattle.schedule_audit.specs.Lines.{paths}
use Rattle.schedule_audit.specs.Wrong.{Expected, expected_of_batches, slot_places_from, has_wrong_core, share_a_link, same_place}
use Rattle.schedule_audit.specs.Laws.{read}
use Rattle.schedule_audit.specs.ReadLaws.{EachTextIsRead, EachTextHasOneReading}
use Rattle.schedule_audit.specs.Texts.{record_of, records_of, IsTextOf, ATextOfBatchesHasNoBadLine}
use Rattle.trace_text.specs.Trace.{TraceContent}
use Rattle.window_engine.specs.Scheduled.{AreClean}
use Rattle.window_engine.specs.Batches.{plan_batches, EveryPlanIsRecorded}
use Rattle.window_engine.specs.Counts.{EveryPlanBalances}
use Rattle.run_lines.specs.Text.{entry_line, slots_lines, batch_lines, flows_lines}
use Rattle.run_text.specs.PlanText.{batches_lines}
use Rattle.own_texts.specs.Plans.{IsPlan, NoPlanHasABadLine}
use Rattle.window_engine.specs.Asked.{EveryPlanAddsWhatIsAsked}
use Rattle.own_texts.proofs.Shows.{Shows, shows-nil, shows-append, shows-as, shows-entries, shows-slots, paths_by, paths_by-append}
use Rattle.own_texts.proofs.PathLemmas.{places-by, clean_slots, cores-by, apart-by}
use Rattle.own_texts.proofs.PlanAsks.{adds_few, entries_say}
use Rattle.own_texts.proofs.PlanFigures.{flows_show}
use Rattle.own_texts.proofs.Formed.{text_formed}
use Rattle.own_texts.proofs.Pass.{passes}

front_long : (n m : ℕ) (xs : List (List Flow)) → length xs ≡ n + m → length (take n xs) ≡ n
front_long zero m xs long = refl
front_long (suc n) m [] long = absurd (omega arith)
front_long (suc n) m (x ∷ xs) long = ap suc (front_long n m xs (omega arith))

back_long : (n m : ℕ) (xs : List (List Flow)) → length xs ≡ n + m → length (drop n xs) ≡ m
back_long zero m xs long = long ∙ omega arith
back_long (suc n) m [] long = absurd (omega arith)
back_long (suc n) m (x ∷ xs) long = back_long n m xs (omega arith)

batches_show : (b : ℕ) (e : Expected) (cores : SlotCores) (k : ℕ) (batches : List DemandBatch) (slots : List (List Flow)) → length slots ≡ length batches * b
    → Shows b e (batches_lines cores b k batches slots) (records_of k batches) (paths_by cores (first_slot b k) slots) []
batches_show b e cores k [] [] long = shows-nil b e
batches_show b e cores k [] (slot ∷ slots) long = absurd (omega arith)
batches_show b e cores k (batch ∷ batches) slots long =
    let two : length slots ≡ b + length batches * b = long ∙ (suc-mul (length batches) b ∙ omega arith) in
    let at : first_slot b (k + 1) ≡ first_slot b k + length (take b slots) = sym (slots_on k b) ∙ ap (λ n. first_slot b k + n) (sym (front_long b (length batches * b) slots two)) in
    shows-as
    (shows-append (shows-append (shows-entries b e k batch.entries) (shows-slots b e cores (first_slot b k) (take b slots)))
    (batches_show b e cores (k + 1) batches (drop b slots) (back_long b (length batches * b) slots two)))
    (ap (λ (xs : List Recorded). xs ++ records_of (k + 1) batches) (append-nil (map (record_of k) batch.entries)))
    (ap (λ (n : ℕ). paths_by cores (first_slot b k) (take b slots) ++ paths_by cores n (drop b slots)) at
    ∙ (sym (paths_by-append cores (first_slot b k) (take b slots) (drop b slots)) ∙ ap (paths_by cores (first_slot b k)) (take-append-drop b slots)))
    refl

-- the lines before the last
abbrev pub plan_body : SlotCores → ℕ → TraceContent → List Line
plan_body cores b trace = batches_lines cores b 0 (plan_batches trace) (schedule b (plan_batches trace)) ++ flows_lines b trace

module _ (slots_of_all : EveryBatchHasItsSlots) (recorded : EveryPlanIsRecorded) (balances : EveryPlanBalances) (asked : EveryPlanAddsWhatIsAsked) where
  pub plan_shows : (b : ℕ) (trace : TraceContent) (cores : SlotCores) → IsPlan b trace cores
      → Shows b (expected_of_batches b (records_of 0 (plan_batches trace)) (plan_batches trace)) (plan_body cores b trace) (records_of 0 (plan_batches trace)) (paths_by cores 1 (schedule b (plan_batches trace))) []
  plan_shows b trace cores is =
      let batches : List DemandBatch = plan_batches trace in
      let slots : List (List Flow) = schedule b batches in
      let e : Expected = expected_of_batches b (records_of 0 batches) batches in
      let first : first_slot b 0 ≡ 1 = omega arith in
      shows-as
      (shows-append (batches_show b e cores 0 batches slots (slots_of_all b 0 [] batches)) (flows_show balances asked b trace is.accepted (recorded trace is.accepted).0))
      (append-nil (records_of 0 batches)) (append-nil (paths_by cores (first_slot b 0) slots) ∙ ap (λ (n : ℕ). paths_by cores n slots) first) refl

  pub text_of_plan : (b : ℕ) (trace : TraceContent) (cores : SlotCores) → IsPlan b trace cores → IsTextOf trace.net b (plan_batches trace) (plan_body cores b trace)
  text_of_plan b trace cores is =
      let batches : List DemandBatch = plan_batches trace in
      let slots : List (List Flow) = schedule b batches in
      let shows = plan_shows b trace cores is in
      let are = recorded trace is.accepted in
      let long : length batches ≡ trace.rounds = are.1 in
      let clean : AreClean trace.net cores 1 slots = clean_slots b trace.net batches cores is.scheduled in
      record {
        inner = shows.inner;
        recorded = are.0;
        some_round = let some = is.accepted.some_round in omega arith;
        most_rounds = let few = is.accepted.few_rounds in omega arith;
        say = entries_say trace is.accepted;
        few = adds_few asked trace is.accepted;
        records = shows.recorded;
        places = ap (λ (ps : List Path). map (λ (p : Path). p.place) ps) shows.routed ∙ places-by cores 1 slots;
        cores = subst (λ (ps : List Path). All (λ (p : Path). has_wrong_core trace.net p.place.flow p.core ≡ false) ps) (sym shows.routed) (cores-by trace.net cores 1 slots clean);
        apart = subst (λ (ps : List Path). AllPairs (λ (p q : Path). share_a_link trace.net q p ≡ false) ps) (sym shows.routed) (apart-by trace.net cores 1 slots clean);
        scheduled = subst (λ (ss : List Place). All (λ (s : Place). list_any (same_place s) (slot_places_from 1 slots) ≡ true) ss) (sym shows.sent) (All-nil (λ (s : Place). list_any (same_place s) (slot_places_from 1 slots) ≡ true));
        once = subst (λ (ss : List Place). AllPairs (λ (s t : Place). s.slot ≡ t.slot → s.flow.src ≢ t.flow.src) ss) (sym shows.sent) (AllPairs-nil (λ (s t : Place). s.slot ≡ t.slot → s.flow.src ≢ t.flow.src));
        lines = shows.good;
      }

  pub no_plan_has_a_bad_line : EverySlotIsInRange → EachTextIsRead → EachTextHasOneReading → ATextOfBatchesHasNoBadLine → NoPlanHasABadLine
  no_plan_has_a_bad_line in_range is_read one_reading no_bad_line b trace cores is =
      let text = text_of_plan b trace cores is in
      let figures = (plan_shows b trace cores is).figures in
      passes is_read one_reading no_bad_line trace.net b trace.rounds (plan_batches trace) (plan_body cores b trace) text
      (text_formed slots_of_all in_range trace.net b (plan_batches trace) (plan_body cores b trace) is.accepted.net is.batch.1 text figures) (recorded trace is.accepted).1
