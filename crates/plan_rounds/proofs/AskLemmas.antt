-- What is asked for, flow by flow: the sums of the tallies, and the entries of a batch.
use Rattle.std.proofs.Common.{◌≡◌, ◌<◌, ◌+◌, ℕ, zero, suc, List, [], ◌∷◌, get_or, take, not, ◌==◌, ◌&&◌, cond, IsTrue, All, refl, sym, ap, ◌∙◌, arith, inl, inr}
use Rattle.std.specs.List.{list_any}
use Rattle.std.proofs.lemmas.Bool.{cond-true, cond-false, cases_Bool, ne_eqb}
use Rattle.std.proofs.lemmas.Bool.Decides.{nat_tests}
use Rattle.std.proofs.lemmas.List.Sums.{sum_by-cons}
use Rattle.std.proofs.lemmas.List.Elements.{All-head, All-tail, All-take}
use Rattle.list_facts.proofs.Bools.{neither}
use Rattle.greedy_rules.specs.declared.flows.Flow.{Flow}
use Rattle.greedy_rules.specs.declared.flows.Entry.{Entry}
use Rattle.greedy_rules.specs.Flows.{flow_below}
use Rattle.greedy_rules.specs.Batches.{IsAboveLast}
use Rattle.clos_topology.specs.Network.{endpoints_of}
use Rattle.trace_text.specs.Trace.{TraceContent}
use Rattle.trace_text.specs.Valid.{amount_for, total_asked, IsAskList, IsTrace}
use Rattle.window_allocation.specs.Needs.{place_of}
use Rattle.plan_rounds.specs.Tallies.{Tallies}
use Rattle.plan_rounds.specs.Batches.{AskedRound, asks_for, is_asked_for}

-- a row of a round is a list of asks, also past the last source
pub row_of : (endpoints : ℕ) (round : AskedRound) (src : ℕ) → All (IsAskList endpoints) round → IsAskList endpoints (get_or round src [])
row_of endpoints [] src rows = record { rising = λ i j d lt below. absurd (omega arith); in_range = λ k d below. absurd (omega arith); some = λ k d below. absurd (omega arith) }
row_of endpoints (row ∷ rows) zero all = All-head (IsAskList endpoints) row rows all
row_of endpoints (row ∷ rows) (suc src) all = row_of endpoints rows src (All-tail (IsAskList endpoints) row rows all)

both_zero : (a b : ℕ) → (a + b == 0) ≡ ((a == 0) && (b == 0))
both_zero a b = grind (arith, nat_tests)

abbrev pub slots_if : ℕ → (ℕ × ℕ) → ℕ
slots_if dst p = cond (p.0 == dst) p.1 0

-- no slots are asked for of a destination exactly where no ask names it
amount_for-zero : (dst : ℕ) (asks : List (ℕ × ℕ)) → All (λ p. 0 < p.1) asks → (amount_for dst asks == 0) ≡ not (list_any (λ p. p.0 == dst) asks)
amount_for-zero dst [] some = refl
amount_for-zero dst (p ∷ asks) some =
    let rest = amount_for-zero dst asks (All-tail (λ (q : ℕ × ℕ). 0 < q.1) p asks some) in
    let here : 0 < p.1 = All-head (λ (q : ℕ × ℕ). 0 < q.1) p asks some in
    let this : (slots_if dst p == 0) ≡ not (p.0 == dst) =
    elim (cases_Bool (p.0 == dst)) [
      | inl same ↦ ap (λ (n : ℕ). n == 0) (cond-true (p.0 == dst) p.1 0 same) ∙ (ne_eqb p.1 0 (λ e. omega arith) ∙ sym (ap not same))
      | inr other ↦ ap (λ (n : ℕ). n == 0) (cond-false (p.0 == dst) p.1 0 other) ∙ sym (ap not other)
    ] in
    ap (λ (n : ℕ). n == 0) (sum_by-cons (slots_if dst) p asks)
    ∙ (both_zero (slots_if dst p) (amount_for dst asks)
    ∙ (ap (λ b. b && (amount_for dst asks == 0)) this
    ∙ (ap (λ b. not (p.0 == dst) && b) rest ∙ neither (p.0 == dst) (list_any (λ q. q.0 == dst) asks))))

-- a flow opens exactly where none of its slots was asked for before
pub total_asked-zero : (endpoints : ℕ) (rounds : List AskedRound) (src dst : ℕ) → All (All (IsAskList endpoints)) rounds → (total_asked rounds src dst == 0) ≡ not (is_asked_for rounds src dst)
total_asked-zero endpoints [] src dst all = refl
total_asked-zero endpoints (round ∷ rounds) src dst all =
    let rest = total_asked-zero endpoints rounds src dst (All-tail (All (IsAskList endpoints)) round rounds all) in
    let row = row_of endpoints round src (All-head (All (IsAskList endpoints)) round rounds all) in
    ap (λ (n : ℕ). n == 0) (sum_by-cons (λ (r : AskedRound). amount_for dst (get_or r src [])) round rounds)
    ∙ (both_zero (amount_for dst (get_or round src [])) (total_asked rounds src dst)
    ∙ (ap (λ b. b && (total_asked rounds src dst == 0)) (amount_for-zero dst (get_or round src []) row.some)
    ∙ (ap (λ b. not (asks_for src dst round) && b) rest ∙ neither (asks_for src dst round) (is_asked_for rounds src dst))))

-- above all entries is above the last
pub above_last : (batch : List Entry) (flow : Flow) → All (λ e. IsTrue (flow_below e.flow flow)) batch → IsAboveLast batch flow
above_last [] flow all = tt
above_last (e ∷ []) flow all = All-head (λ (x : Entry). IsTrue (flow_below x.flow flow)) e [] all
above_last (e ∷ (next ∷ batch)) flow all = above_last (next ∷ batch) flow (All-tail (λ (x : Entry). IsTrue (flow_below x.flow flow)) e (next ∷ batch) all)

-- a table's 0 tells that the flow opens
pub opens_is : (trace : TraceContent) (round src dst : ℕ) (table : List ℕ) → IsTrace trace → src < endpoints_of trace.net → dst < endpoints_of trace.net → Tallies (endpoints_of trace.net) (take round trace.asked) table
    → (get_or table (place_of (endpoints_of trace.net) src dst) 0 == 0) ≡ not (is_asked_for (take round trace.asked) src dst)
opens_is trace round src dst table sound s t tallies =
    ap (λ (n : ℕ). n == 0) (tallies.at src dst s t)
    ∙ total_asked-zero (endpoints_of trace.net) (take round trace.asked) src dst (All-take (All (IsAskList (endpoints_of trace.net))) round trace.asked sound.asks)
