-- Texts that are equal have the same cores.
use Rattle.std.proofs.Common.{◌≡◌, ℕ, List, [], ◌∷◌, ◌++◌, Option, Some, refl, sym, ap, ◌∙◌, subst}
use Rattle.std.proofs.lemmas.List.{append-nil}
use Rattle.report_text.specs.declared.line.Line.{Line}
use Rattle.report_text.specs.declared.line.Line.TheVariants as line
use Rattle.greedy_rules.specs.declared.flows.Flow.{Flow}
use Rattle.greedy_rules.specs.Fronts.{EveryBatchHasItsSlots}
use Rattle.greedy_rules.specs.Schedule.{schedule}
use Rattle.clos_topology.specs.Network.{Network}
use Rattle.clos_topology.specs.NetSlots.{SlotCores}
use Rattle.schedule_audit.specs.declared.packets.Path.{Path}
use Rattle.schedule_audit.specs.Lines.{path_of, paths}
use Rattle.schedule_audit.specs.Laws.{read}
use Rattle.schedule_audit.specs.Reading.{ReadsLines}
use Rattle.replay_rounds.specs.Setting.{setting_of}
use Rattle.window_engine.specs.Batches.{plan_batches, EveryPlanIsRecorded}
use Rattle.window_engine.specs.Counts.{EveryPlanBalances}
use Rattle.run_text.specs.PlanText.{plan_text}
use Rattle.run_text.specs.ReplayScheduled.{replay_batches}
use Rattle.run_text.specs.ReplayText.{replay_text}
use Rattle.own_texts.specs.Passing.{HasNoBadLine}
use Rattle.own_texts.specs.Plans.{NoPlanHasABadLine}
use Rattle.window_engine.specs.Asked.{EveryPlanAddsWhatIsAsked}
use Rattle.own_texts.specs.Premises.{SlotsPremises, EndsPremises, RunsPremises}
use Rattle.own_texts.specs.Replays.{NoReplayHasABadLine}
use Rattle.own_texts.specs.SameCores.{AgreeOn, EqualPlansHaveTheSameCores, EqualReplaysHaveTheSameCores}
use Rattle.own_texts.proofs.Shows.{paths_by, read-append}
use Rattle.own_texts.proofs.CoreLemmas.{agree}
use Rattle.own_texts.proofs.PlanLines.{plan_body, plan_shows}
use Rattle.own_texts.proofs.ReplayLines.{replay_body, replay_shows}

-- an `end` line names no path
with_end : (body : List Line) (rounds : ℕ) → paths (read (body ++ line.End rounds ∷ [])) ≡ paths (read body)
with_end body rounds = read-append path_of body (line.End rounds ∷ []) ∙ append-nil (paths (read body))

-- two texts that are equal have one reading, so their slots have the same cores
pub same_cores : (net other_net : Network) (b c rounds more : ℕ) (text other : List ℕ) (body others : List Line) (cores there : SlotCores) (slots later : List (List Flow))
    → HasNoBadLine net b text (body ++ line.End rounds ∷ []) → HasNoBadLine other_net c other (others ++ line.End more ∷ [])
    → paths (read body) ≡ paths_by cores 1 slots → paths (read others) ≡ paths_by there 1 later → text ≡ other → AgreeOn slots cores there
same_cores net other_net b c rounds more text other body others cores there slots later one two mine theirs same =
    let lines : read (others ++ line.End more ∷ []) ≡ read (body ++ line.End rounds ∷ []) =
    one.only (read (others ++ line.End more ∷ [])) (subst (λ (bytes : List ℕ). ReadsLines bytes (read (others ++ line.End more ∷ []))) (sym same) two.reads) in
    agree cores there slots later
    (sym mine ∙ (sym (with_end body rounds) ∙ (ap (λ (ls : List (Option Line)). paths ls) (sym lines) ∙ (with_end others more ∙ theirs))))

pub equal_plans : EveryBatchHasItsSlots → EveryPlanIsRecorded → EveryPlanBalances → EveryPlanAddsWhatIsAsked → NoPlanHasABadLine → EqualPlansHaveTheSameCores
equal_plans slots recorded balances asked no_bad_line b c trace other cores others one two same =
    same_cores trace.net other.net b c trace.rounds other.rounds (plan_text cores b trace) (plan_text others c other) (plan_body cores b trace) (plan_body others c other) cores others
    (schedule b (plan_batches trace)) (schedule c (plan_batches other)) (no_bad_line b trace cores one) (no_bad_line c other others two)
    (plan_shows slots recorded balances asked b trace cores one).routed (plan_shows slots recorded balances asked c other others two).routed same

pub equal_replays : SlotsPremises → EndsPremises → RunsPremises → NoReplayHasABadLine → EqualReplaysHaveTheSameCores
equal_replays slots ends runs no_bad_line b c g h trace other cores others one two same =
    same_cores trace.net other.net b c trace.rounds other.rounds (replay_text cores b g trace) (replay_text others c h other)
    (replay_body cores (setting_of trace b g cores) trace) (replay_body others (setting_of other c h others) other) cores others
    (schedule b (replay_batches trace b g cores)) (schedule c (replay_batches other c h others)) (no_bad_line b g trace cores one) (no_bad_line c h other others two)
    (replay_shows slots ends runs b g trace cores one).routed (replay_shows slots ends runs c h other others two).routed same
