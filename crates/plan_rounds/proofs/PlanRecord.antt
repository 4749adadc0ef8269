-- The batches of a plan are as they are recorded.
use Rattle.std.proofs.Common.{◌≡◌, ◌≢◌, ◌≤◌, ◌+◌, ℕ, ◌==◌, List, [], ◌∷◌, ◌++◌, length, get_or, not, false, ◌||◌, IsTrue, All, Some, inl, inr, refl, sym, ap, ◌∙◌, subst, arith}
use Rattle.std.proofs.lemmas.Bool.{cond-true, cond-false, cases_Bool}
use Rattle.std.proofs.lemmas.List.{append-nil, append_assoc, get_or_default}
use Rattle.std.proofs.lemmas.List.Sums.{sum_by-cons, sum_by-append}
use Rattle.std.proofs.lemmas.List.Elements.{All-nil, All-cons, All-head, All-tail, All-append}
use Rattle.std.proofs.Math.Bool.{not-not}
use Rattle.greedy_rules.specs.declared.flows.Flow.{Flow}
use Rattle.greedy_rules.specs.declared.flows.Entry.{Entry}
use Rattle.greedy_rules.specs.declared.limits.Limits.{Limits}
use Rattle.greedy_rules.specs.Flows.{same_flow}
use Rattle.greedy_rules.specs.Batches.{DemandBatch, entry_of}
use Rattle.greedy_rules.specs.Demands.{need_with}
use Rattle.greedy_rules.specs.Balance.{is_recorded, clears, added_by, added_of, NoneClears}
use Rattle.greedy_rules.specs.Recorded.{demand_through, demand_of, IsRecordedAfter, AreRecordedAfter}
use Rattle.greedy_rules.specs.Cells.{flow_of}
use Rattle.clos_topology.specs.Network.{endpoints_of}
use Rattle.clos_topology.specs.NetSlots.{limits_of}
use Rattle.trace_text.specs.Trace.{TraceContent}
use Rattle.trace_text.specs.Valid.{amount_for, total_asked, IsAskList, IsTrace}
use Rattle.plan_rounds.specs.Batches.{AskedRound, asks_for, is_asked_for, asked_entries_from, batch_after, batches_after, plan_batches, EveryPlanIsRecorded}
use Rattle.plan_rounds.specs.Asked.{EveryPlanAddsWhatIsAsked}
use Rattle.plan_rounds.proofs.AskLemmas.{row_of, total_asked-zero}
use Rattle.plan_rounds.proofs.EntryLemmas.{all_entries, round_has, round_added, round_needs}
use Rattle.plan_rounds.proofs.PlanBatches.{among, rise_from, batch_count}

batches-append : (limits : Limits) (before xs ys : List AskedRound) → batches_after limits before (xs ++ ys) ≡ batches_after limits before xs ++ batches_after limits (before ++ xs) ys
batches-append limits before [] ys = ap (λ (rs : List AskedRound). batches_after limits rs ys) (sym (append-nil before))
batches-append limits before (x ∷ xs) ys =
    ap (λ (bs : List DemandBatch). batch_after limits before x ∷ bs)
    (batches-append limits (before ++ x ∷ []) xs ys ∙ ap (λ (rs : List AskedRound). batches_after limits (before ++ x ∷ []) xs ++ batches_after limits rs ys) (append_assoc before (x ∷ []) xs))

-- some batch has a flow where some round asks for it
is_recorded-is : (limits : Limits) (before rounds : List AskedRound) (src dst : ℕ) → is_recorded (batches_after limits before rounds) (flow_of src dst) ≡ is_asked_for rounds src dst
is_recorded-is limits before [] src dst = refl
is_recorded-is limits before (round ∷ rounds) src dst =
    ap (λ p. p || is_recorded (batches_after limits (before ++ round ∷ []) rounds) (flow_of src dst)) (round_has before round src dst)
    ∙ ap (λ p. asks_for src dst round || p) (is_recorded-is limits (before ++ round ∷ []) rounds src dst)

-- what the batches add to a flow is what their rounds ask for
added_of-is : (endpoints : ℕ) (limits : Limits) (before rounds : List AskedRound) (src dst : ℕ) → All (All (IsAskList endpoints)) rounds → added_of (flow_of src dst) (batches_after limits before rounds) ≡ total_asked rounds src dst
added_of-is endpoints limits before [] src dst asks = refl
added_of-is endpoints limits before (round ∷ rounds) src dst asks =
    let this = round_added endpoints before round src dst (row_of endpoints round src (All-head (All (IsAskList endpoints)) round rounds asks)) in
    let those = added_of-is endpoints limits (before ++ round ∷ []) rounds src dst (All-tail (All (IsAskList endpoints)) round rounds asks) in
    omega (
      arith,
      sum_by-cons (λ (batch : DemandBatch). added_by (entry_of batch.entries (flow_of src dst))) (batch_after limits before round) (batches_after limits (before ++ round ∷ []) rounds),
      sum_by-cons (λ (r : AskedRound). amount_for dst (get_or r src [])) round rounds,
    )

demand-is : (endpoints : ℕ) (limits : Limits) (before rounds : List AskedRound) (src dst need : ℕ) → All (All (IsAskList endpoints)) rounds
    → demand_through (batches_after limits before rounds) (flow_of src dst) need ≡ need + total_asked rounds src dst
demand-is endpoints limits before [] src dst need asks = let none : need ≡ need + 0 = omega arith in none
demand-is endpoints limits before (round ∷ rounds) src dst need asks =
    let this = round_needs endpoints before round src dst need (row_of endpoints round src (All-head (All (IsAskList endpoints)) round rounds asks)) in
    let now : ℕ = need_with (entry_of (asked_entries_from before 0 round) (flow_of src dst)) need in
    let those = demand-is endpoints limits (before ++ round ∷ []) rounds src dst now (All-tail (All (IsAskList endpoints)) round rounds asks) in
    omega (arith, sum_by-cons (λ (r : AskedRound). amount_for dst (get_or r src [])) round rounds)

-- no source asks for itself
abbrev IsApart : AskedRound → Type 0
IsApart round = (src : ℕ) → All (λ p. p.0 ≢ src) (get_or round src [])

record AreRounds (endpoints : ℕ) (rounds : List AskedRound) : Type 0 where
  wide : All (λ round. length round ≡ endpoints) rounds
  lists : All (All (IsAskList endpoints)) rounds
  apart : All IsApart rounds

next_recorded : (endpoints : ℕ) (limits : Limits) (before : List AskedRound) (round : AskedRound) → length round ≡ endpoints → All (IsAskList endpoints) round → IsApart round → All (All (IsAskList endpoints)) before
    → ((src dst : ℕ) → total_asked before src dst + amount_for dst (get_or round src []) ≤ 100000000) → IsRecordedAfter endpoints limits (batches_after limits [] before) (batch_after limits before round)
next_recorded endpoints limits before round wide lists apart earlier fits =
    let batches : List DemandBatch = batches_after limits [] before in
    record {
      same_limits = refl;
      rises = rise_from endpoints before 0 round lists;
      in_range = among endpoints before round wide lists;
      apart = all_entries (λ e. e.flow.src ≢ e.flow.dst) before 0 round (λ n within i d inside same. apart n i d inside (omega arith));
      opens = all_entries (λ e. e.opens ≡ not (is_recorded batches e.flow)) before 0 round
          (λ n within i d inside. sym (ap not (is_recorded-is limits [] before (0 + n) (get_or (get_or round n []) i d).0)));
      clears = all_entries (λ e. IsTrue e.clear → IsTrue (is_recorded batches e.flow)) before 0 round (λ n within i d inside cleared. absurd cc);
      fits = λ flow.
          let need = round_needs endpoints before round flow.src flow.dst (demand_of batches flow) (row_of endpoints round flow.src lists) in
          omega (arith, need, demand-is endpoints limits [] before flow.src flow.dst 0 earlier, fits flow.src flow.dst);
    }

all_recorded : (endpoints : ℕ) (limits : Limits) (before rounds : List AskedRound) → AreRounds endpoints rounds → All (All (IsAskList endpoints)) before
    → ((src dst : ℕ) → total_asked (before ++ rounds) src dst ≤ 100000000) → AreRecordedAfter endpoints limits (batches_after limits [] before) (batches_after limits before rounds)
all_recorded endpoints limits before [] are earlier fits = tt
all_recorded endpoints limits before (round ∷ rounds) are earlier fits =
    let Wide : AskedRound → Type 0 = λ r. length r ≡ endpoints in
    let lists = All-head (All (IsAskList endpoints)) round rounds are.lists in
    let here : (src dst : ℕ) → total_asked before src dst + amount_for dst (get_or round src []) ≤ 100000000 =
    λ src dst.
    let amount : AskedRound → ℕ = λ r. amount_for dst (get_or r src []) in
    omega (arith, fits src dst, sum_by-append amount before (round ∷ rounds), sum_by-cons amount round rounds) in (
      next_recorded endpoints limits before round (All-head Wide round rounds are.wide) lists (All-head IsApart round rounds are.apart) earlier here,
      subst (λ (bs : List DemandBatch). AreRecordedAfter endpoints limits bs (batches_after limits (before ++ round ∷ []) rounds)) (batches-append limits [] before (round ∷ []))
          (all_recorded endpoints limits (before ++ round ∷ []) rounds
          (record { wide = All-tail Wide round rounds are.wide; lists = All-tail (All (IsAskList endpoints)) round rounds are.lists; apart = All-tail IsApart round rounds are.apart })
          (All-append (All (IsAskList endpoints)) before (round ∷ []) earlier (All-cons (All (IsAskList endpoints)) round [] lists (All-nil (All (IsAskList endpoints)))))
          (λ src dst. subst (λ (rs : List AskedRound). total_asked rs src dst ≤ 100000000) (sym (append_assoc before (round ∷ []) rounds)) (fits src dst))),
    )

pub every_plan : EveryPlanIsRecorded
every_plan trace sound =
    let none : AskedRound = [] in (
      all_recorded (endpoints_of trace.net) (limits_of trace.net) [] trace.asked
          (record {
            wide = sound.sources;
            lists = sound.asks;
            apart = λ k d below src. subst (λ (r : AskedRound). All (λ (p : ℕ × ℕ). p.0 ≢ src) (get_or r src [])) (get_or_default trace.asked k none d below) (sound.apart k src);
          })
          (All-nil (All (IsAskList (endpoints_of trace.net)))) sound.bounded,
      batch_count trace sound,
    )

-- no entry of a plan clears
no_clear : (entries : List Entry) (flow : Flow) → All (λ e. e.clear ≡ false) entries → clears (entry_of entries flow) ≡ false
no_clear [] flow kept = refl
no_clear (e ∷ entries) flow kept =
    elim (cases_Bool (same_flow e.flow flow)) [
      | inl same ↦ ap clears (cond-true (same_flow e.flow flow) (Some e) (entry_of entries flow) same) ∙ All-head (λ (x : Entry). x.clear ≡ false) e entries kept
      | inr other ↦ ap clears (cond-false (same_flow e.flow flow) (Some e) (entry_of entries flow) other) ∙ no_clear entries flow (All-tail (λ (x : Entry). x.clear ≡ false) e entries kept)
    ]

none_clears : (limits : Limits) (before rounds : List AskedRound) (flow : Flow) → NoneClears flow (batches_after limits before rounds)
none_clears limits before [] flow = All-nil (λ (batch : DemandBatch). clears (entry_of batch.entries flow) ≡ false)
none_clears limits before (round ∷ rounds) flow =
    All-cons (λ (batch : DemandBatch). clears (entry_of batch.entries flow) ≡ false) (batch_after limits before round) (batches_after limits (before ++ round ∷ []) rounds)
    (no_clear (asked_entries_from before 0 round) flow (all_entries (λ e. e.clear ≡ false) before 0 round (λ n below k d within. refl)))
    (none_clears limits (before ++ round ∷ []) rounds flow)

-- a flow without demand is in no batch, and one with some is
is_in_plan : (trace : TraceContent) (flow : Flow) → IsTrace trace → is_recorded (plan_batches trace) flow ≡ not (total_asked trace.asked flow.src flow.dst == 0)
is_in_plan trace flow sound =
    is_recorded-is (limits_of trace.net) [] trace.asked flow.src flow.dst
    ∙ (sym (not-not (is_asked_for trace.asked flow.src flow.dst)) ∙ ap not (sym (total_asked-zero (endpoints_of trace.net) trace.asked flow.src flow.dst sound.asks)))

pub adds_what_is_asked : EveryPlanAddsWhatIsAsked
adds_what_is_asked trace flow sound = record {
  added = added_of-is (endpoints_of trace.net) (limits_of trace.net) [] trace.asked flow.src flow.dst sound.asks;
  recorded = is_in_plan trace flow sound;
  kept = none_clears (limits_of trace.net) [] trace.asked flow;
}
