-- The entries of a plan's batches: each adds, and no flow's add more than the trace asks for.
use Rattle.std.proofs.Common.{◌≡◌, ◌<◌, ◌≤◌, ◌+◌, ◌==◌, ◌&&◌, not, ℕ, List, [], ◌∷◌, ◌++◌, map, cond, Bool, true, false, Option, Some, None, All, refl, sym, ap, ◌∙◌, subst, arith}
use Rattle.std.proofs.lemmas.Bool.{ne_eqb, and_left}
use Rattle.std.proofs.lemmas.List.{append_assoc}
use Rattle.std.proofs.lemmas.List.Elements.{All-nil, All-cons, All-head, All-tail, All-append}
use Rattle.std.proofs.lemmas.List.Sums.{sum_by-cons, sum_by-append}
use Rattle.greedy_rules.specs.declared.flows.Flow.{Flow}
use Rattle.greedy_rules.specs.declared.flows.Entry.{Entry}
use Rattle.greedy_rules.specs.declared.limits.Limits.{Limits}
use Rattle.greedy_rules.specs.Batches.{DemandBatch, entry_of}
use Rattle.greedy_rules.specs.Demands.{need_with}
use Rattle.greedy_rules.specs.Balance.{added_by, added_of}
use Rattle.greedy_rules.specs.Recorded.{demand_through, demand_of}
use Rattle.clos_topology.specs.Network.{endpoints_of}
use Rattle.clos_topology.specs.NetSlots.{limits_of}
use Rattle.schedule_audit.specs.Misplaced.{most_added}
use Rattle.schedule_audit.specs.Texts.{Says, FewAfter}
use Rattle.trace_text.specs.Trace.{TraceContent}
use Rattle.trace_text.specs.Valid.{IsAskList, IsTrace}
use Rattle.window_engine.specs.Batches.{AskedRound, asked_entry, asked_entries_from, batch_after, batches_after, plan_batches}
use Rattle.window_engine.specs.Asked.{EveryPlanAddsWhatIsAsked}

-- ---- adds

with_at_most : (o : Option Entry) (need : ℕ) → need_with o need ≤ need + added_by o
with_at_most None need = omega arith
with_at_most (Some e) need = either e.clear e.add need
  where
    either : (c : Bool) (add need : ℕ) → cond c 0 need + add ≤ need + add
    either true add need = omega arith
    either false add need = omega arith

through_at_most : (batches : List DemandBatch) (flow : Flow) (need : ℕ) → demand_through batches flow need ≤ need + added_of flow batches
through_at_most [] flow need = omega arith
through_at_most (batch ∷ batches) flow need =
    omega (
      arith,
      through_at_most batches flow (need_with (entry_of batch.entries flow) need),
      with_at_most (entry_of batch.entries flow) need,
      sum_by-cons (λ (x : DemandBatch). added_by (entry_of x.entries flow)) batch batches,
    )

few_from : (front later : List DemandBatch) → ((flow : Flow) → added_of flow (front ++ later) ≤ most_added) → FewAfter front later
few_from front [] few = tt
few_from front (batch ∷ later) few = (
  λ flow. omega (
    arith,
    few flow,
    sum_by-append (λ (x : DemandBatch). added_by (entry_of x.entries flow)) front (batch ∷ later),
    sum_by-cons (λ (x : DemandBatch). added_by (entry_of x.entries flow)) batch later,
    through_at_most front flow 0,
    with_at_most (entry_of batch.entries flow) (demand_of front flow),
  ),
  few_from (front ++ batch ∷ []) later (λ flow. subst (λ (bs : List DemandBatch). added_of flow bs ≤ most_added) (sym (append_assoc front (batch ∷ []) later)) (few flow)),
)

pub at_most_added : (n : ℕ) → n ≤ 206400000 → n ≤ most_added
unfolding most_added
at_most_added n few = few

pub adds_few : EveryPlanAddsWhatIsAsked → (trace : TraceContent) → IsTrace trace → FewAfter [] (plan_batches trace)
adds_few asked trace sound =
    few_from [] (plan_batches trace) (λ flow. at_most_added (added_of flow (plan_batches trace)) (omega (arith, (asked trace flow sound).added, sound.bounded flow.src flow.dst)))

-- ---- each entry adds

asks_say : (before : List AskedRound) (src : ℕ) (asks : List (ℕ × ℕ)) → All (λ (p : ℕ × ℕ). 0 < p.1) asks → All Says (map (asked_entry before src) asks)
asks_say before src [] some = All-nil Says
asks_say before src (ask ∷ asks) some =
    let P : ℕ × ℕ → Type 0 = λ p. 0 < p.1 in
    let here : 0 < ask.1 = All-head P ask asks some in
    All-cons Says (asked_entry before src ask) (map (asked_entry before src) asks) (and_left (ask.1 == 0) (not false) (ne_eqb ask.1 0 (λ none. absurd (omega arith)))) (asks_say before src asks (All-tail P ask asks some))

round_says : (endpoints : ℕ) (before : List AskedRound) (src : ℕ) (round : AskedRound) → All (IsAskList endpoints) round → All Says (asked_entries_from before src round)
round_says endpoints before src [] all = All-nil Says
round_says endpoints before src (asks ∷ round) all =
    let here : IsAskList endpoints asks = All-head (IsAskList endpoints) asks round all in
    All-append Says (map (asked_entry before src) asks) (asked_entries_from before (src + 1) round) (asks_say before src asks here.some)
    (round_says endpoints before (src + 1) round (All-tail (IsAskList endpoints) asks round all))

rounds_say : (endpoints : ℕ) (limits : Limits) (before rounds : List AskedRound) → All (All (IsAskList endpoints)) rounds → All (λ batch. All Says batch.entries) (batches_after limits before rounds)
rounds_say endpoints limits before [] all = All-nil (λ (x : DemandBatch). All Says x.entries)
rounds_say endpoints limits before (round ∷ rounds) all =
    let P : AskedRound → Type 0 = All (IsAskList endpoints) in
    All-cons (λ (x : DemandBatch). All Says x.entries) (batch_after limits before round) (batches_after limits (before ++ round ∷ []) rounds)
    (round_says endpoints before 0 round (All-head P round rounds all)) (rounds_say endpoints limits (before ++ round ∷ []) rounds (All-tail P round rounds all))

pub entries_say : (trace : TraceContent) → IsTrace trace → All (λ batch. All Says batch.entries) (plan_batches trace)
entries_say trace sound = rounds_say (endpoints_of trace.net) (limits_of trace.net) [] trace.asked sound.asks
