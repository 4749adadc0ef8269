-- The entries of a replay's batches: each adds or clears, and no flow's add more since its last clear than a trace can ask for.
use Rattle.std.proofs.Common.{◌≡◌, ◌<◌, ◌≤◌, ◌+◌, ◌*◌, ◌==◌, nat_lt, ◌&&◌, ◌||◌, not, ℕ, zero, suc, List, [], ◌∷◌, ◌++◌, map, drop, length, get_or, cond, Bool, true, false, Option, Some, All, refl, sym, ap, ◌∙◌, subst, inl, inr, arith, mul-le-mul_right}
use Rattle.std.specs.Prelude.{IfSome}
use Rattle.std.proofs.lemmas.Bool.{cases_Bool, cases_lt, ltb-true, ne_eqb, and_left, and_right, or_cases}
use Rattle.std.proofs.lemmas.List.{append-nil, append_assoc}
use Rattle.std.proofs.lemmas.List.Elements.{All-nil, All-cons, All-push}
use Rattle.greedy_rules.specs.declared.flows.Flow.{Flow}
use Rattle.greedy_rules.specs.declared.flows.Entry.{Entry}
use Rattle.greedy_rules.specs.declared.limits.Limits.{Limits}
use Rattle.greedy_rules.specs.Batches.{DemandBatch, IsBatch, entry_of}
use Rattle.greedy_rules.specs.Demands.{need_with}
use Rattle.greedy_rules.specs.Matching.{AreAmong}
use Rattle.greedy_rules.specs.Allocation.{slots_of}
use Rattle.greedy_rules.specs.Recorded.{demand_of, AreRecorded, AreRecordedAfter}
use Rattle.greedy_rules.proofs.CellLemmas.{entry_of-none}
use Rattle.greedy_rules.proofs.RecordedLemmas.{demand_more}
use Rattle.endpoint_history.specs.Counts.{owed}
use Rattle.endpoint_history.specs.Lane.{LaneHistory, TakesUp, MakesDown, Records, last_reset}
use Rattle.endpoint_history.specs.Entries.{entry_with, entries_of_batches, had, added, is_reset}
use Rattle.schedule_audit.specs.Misplaced.{most_added}
use Rattle.schedule_audit.specs.Texts.{Says, FewAfter}
use Rattle.trace_run.specs.Run.{Setting, replayed}
use Rattle.trace_run.specs.Histories.{lane_after}
use Rattle.trace_run.specs.Windows.{batch_at}
use Rattle.trace_run.specs.Applicable.{IsApplicable, EveryRunIsApplicable}
use Rattle.trace_run.specs.Rest.{OwedIsAllocatedOrLeft}
use Rattle.trace_run.specs.Recorded.{KeepsTraceRules, IsRecorded, EveryRunIsRecorded}
use Rattle.trace_run.proofs.Recorded.{demand_through-is, demand_none}
use Rattle.own_texts.proofs.Formed.{own_entries, of_images}
use Rattle.own_texts.proofs.PlanAsks.{at_most_added}

-- ---- what a flow's entries add is what its lane owes

no_slots : (n : ℕ) (flow : Flow) → slots_of flow (drop n []) ≡ 0
no_slots zero flow = refl
no_slots (suc n) flow = refl

owes : OwedIsAllocatedOrLeft → (setting : Setting) (rounds src dst : ℕ) → src < setting.endpoints → dst < setting.endpoints
    → demand_of (replayed setting rounds).batches (record { src = src; dst = dst }) ≡ owed setting.g (lane_after setting rounds src) dst
owes owed_is setting rounds src dst low high =
    let flow : Flow = record { src = src; dst = dst } in
    let is = owed_is setting 0 rounds src dst (omega arith) low high in
    let none = no_slots (last_reset (lane_after setting rounds src) * setting.b) flow in
    let same = demand_through-is (replayed setting rounds).batches flow 0 in
    omega (arith, is, none, same)

beyond : (endpoints : ℕ) (batches : List DemandBatch) (flow : Flow) → All (λ (x : DemandBatch). AreAmong endpoints x.entries) batches → ((flow.src < endpoints) × (flow.dst < endpoints) → ⊥) → demand_of batches flow ≡ 0
beyond endpoints batches flow among out =
    demand_none batches flow (λ i d within. entry_of-none _ flow (λ k e inside same. out (subst (λ (f : Flow). (f.src < endpoints) × (f.dst < endpoints)) same (among i d within k e inside))))

pub slots_few : (rounds all b : ℕ) → rounds ≤ all → all ≤ 100000 → b ≤ 64 → rounds * b ≤ 6400000
slots_few rounds all b within long narrow =
    let low : rounds ≤ 100000 = omega arith in
    let one : rounds * b ≤ 100000 * b = mul-le-mul_right b low in
    omega (arith, one, narrow)

few_all : OwedIsAllocatedOrLeft → EveryRunIsApplicable → EveryRunIsRecorded → (setting : Setting) (rounds all : ℕ) → rounds ≤ all → KeepsTraceRules setting all → (flow : Flow)
    → demand_of (replayed setting rounds).batches flow ≤ 206400000
few_all owed_is applicable recorded setting rounds all within trace flow =
    let n : ℕ = setting.endpoints in
    let batches : List DemandBatch = (replayed setting rounds).batches in
    let among = (applicable setting rounds).among in
    elim (cases_lt flow.src n) [
      | inr far ↦ let none = beyond n batches flow among (λ in_range. let low = in_range.0 in absurd (omega arith)) in omega (arith, none)
      | inl low ↦ elim (cases_lt flow.dst n) [
        | inr far ↦ let none = beyond n batches flow among (λ in_range. let high = in_range.1 in absurd (omega arith)) in omega (arith, none)
        | inl high ↦
            let is = owes owed_is setting rounds flow.src flow.dst low high in
            let bound = (recorded setting rounds all within trace).owing flow.src flow.dst in
            let wide = slots_few rounds all setting.b within trace.length trace.batch in
            omega (arith, is, bound, wide)
      ]
    ]

few_push : (earlier batches : List DemandBatch) (batch : DemandBatch) → FewAfter earlier batches → ((flow : Flow) → demand_of ((earlier ++ batches) ++ batch ∷ []) flow ≤ most_added) → FewAfter earlier (batches ++ batch ∷ [])
few_push earlier [] batch few last =
    ((λ flow. subst (λ (n : ℕ). n ≤ most_added) (demand_more (earlier ++ []) batch flow 0 ∙ ap (λ bs. need_with (entry_of batch.entries flow) (demand_of bs flow)) (append-nil earlier)) (last flow)), tt)
few_push earlier (x ∷ batches) batch few last = (
  few.0,
  few_push (earlier ++ x ∷ []) batches batch few.1 (λ flow. subst (λ (bs : List DemandBatch). demand_of (bs ++ batch ∷ []) flow ≤ most_added) (sym (append_assoc earlier (x ∷ []) batches)) (last flow)),
)

pub adds_few : OwedIsAllocatedOrLeft → EveryRunIsApplicable → EveryRunIsRecorded → (setting : Setting) (rounds all : ℕ) → rounds ≤ all → KeepsTraceRules setting all → FewAfter [] (replayed setting rounds).batches
adds_few owed_is applicable recorded setting zero all within trace = tt
adds_few owed_is applicable recorded setting (suc rounds) all within trace =
    few_push [] (replayed setting rounds).batches (batch_at setting rounds) (adds_few owed_is applicable recorded setting rounds all (omega arith) trace)
    (λ flow. at_most_added (demand_of ((replayed setting rounds).batches ++ batch_at setting rounds ∷ []) flow) (few_all owed_is applicable recorded setting (suc rounds) all within trace flow))

-- ---- an entry adds or clears

adds_or_clears : (add : ℕ) (clear : Bool) → (nat_lt 0 add || clear) ≡ true → ((add == 0) && not clear) ≡ false
adds_or_clears add clear some = elim (or_cases (nat_lt 0 add) clear some) [
  | inl adds ↦ and_left (add == 0) (not clear) (ne_eqb add 0 (λ none. let zero_lt = ltb-true 0 add adds in absurd (omega arith)))
  | inr clears ↦ and_right (add == 0) (not clear) (ap not clears)
]

with_says : (src dst add : ℕ) (had_it clear : Bool) → IfSome (entry_with src dst had_it clear add) Says
with_says src dst add had_it clear = elim (cases_Bool (nat_lt 0 add || clear)) [
  | inl some ↦ rw some (adds_or_clears add clear some)
  | inr none ↦ rw none tt
]

-- each entry of a lane does
lane_says : (endpoint g : ℕ) (h : LaneHistory) (dst : ℕ) → All (λ o. IfSome o Says) (entries_of_batches endpoint g h dst)
lane_says endpoint g [] dst = All-nil (λ (o : Option Entry). IfSome o Says)
lane_says endpoint g (Records round ∷ h) dst =
    All-push (λ (o : Option Entry). IfSome o Says) (entries_of_batches endpoint g h dst) (entry_with endpoint dst (had g h dst) (is_reset h && had g h dst) (added g h dst)) (lane_says endpoint g h dst)
    (with_says endpoint dst (added g h dst) (had g h dst) (is_reset h && had g h dst))
lane_says endpoint g (TakesUp round packet ∷ h) dst = lane_says endpoint g h dst
lane_says endpoint g (MakesDown round told ∷ h) dst = lane_says endpoint g h dst

rising : (endpoints : ℕ) (limits : Limits) (front batches : List DemandBatch) → AreRecordedAfter endpoints limits front batches → All (λ batch. IsBatch batch.entries) batches
rising endpoints limits front [] are = All-nil (λ (x : DemandBatch). IsBatch x.entries)
rising endpoints limits front (batch ∷ batches) are = All-cons (λ (x : DemandBatch). IsBatch x.entries) batch batches are.0.rises (rising endpoints limits (front ++ batch ∷ []) batches are.1)

-- so each entry of a batch does, since it is its flow's
pub entries_say : EveryRunIsApplicable → EveryRunIsRecorded → (setting : Setting) (rounds : ℕ) → KeepsTraceRules setting rounds → All (λ batch. All Says batch.entries) (replayed setting rounds).batches
entries_say applicable recorded setting rounds trace i d within k e inside =
    let batches : List DemandBatch = (replayed setting rounds).batches in
    let batch : DemandBatch = get_or batches i d in
    let entry : Entry = get_or batch.entries k e in
    let flow : Flow = entry.flow in
    let is = applicable setting rounds in
    let range = is.among i d within k e inside in
    let each : All (λ o. IfSome o Says) (map (λ x. entry_of x.entries flow) batches) =
    subst (All (λ o. IfSome o Says)) (sym (is.entries flow.src flow.dst range.0 range.1)) (lane_says flow.src setting.g (lane_after setting rounds flow.src) flow.dst) in
    let own : entry_of batch.entries flow ≡ Some entry = own_entries batch.entries (rising setting.endpoints setting.limits [] batches (recorded setting rounds rounds (omega arith) trace).batches i d within) k e inside in
    subst (λ (o : Option Entry). IfSome o Says) own (of_images (λ o. IfSome o Says) (λ (x : DemandBatch). entry_of x.entries flow) batches each i d within)
