-- The slots of a flow since its last clear.
use Rattle.std.proofs.Common.{◌≡◌, ◌+◌, ◌*◌, ◌&&◌, ◌||◌, not, ℕ, zero, suc, List, [], ◌∷◌, ◌++◌, map, take, drop, length, cond, Bool, true, false, Some, None, All, IsTrue, refl, sym, ap, ◌∙◌, subst, inl, inr, arith}
use Rattle.std.specs.List.{list_any}
use Rattle.std.proofs.lemmas.Bool.{cases_Bool, cond-true, cond-false, or_from, or_parts, or_left, or_right, false_from_ne_true, false≢true, not-true}
use Rattle.std.proofs.lemmas.List.Elements.{All-nil, All-cons, All-head, All-tail}
use Rattle.std.proofs.lemmas.List.Folds.{list_any-append}
use Rattle.std.proofs.lemmas.List.Sums.{sum_by-cons, sum_by-take-drop}
use Rattle.std.proofs.Math.Bool.{and-false}
use Rattle.greedy_rules.specs.declared.flows.Flow.{Flow}
use Rattle.greedy_rules.specs.declared.flows.Entry.{Entry}
use Rattle.greedy_rules.specs.declared.limits.Limits.{Limits}
use Rattle.greedy_rules.specs.Flows.{same_flow, flow_below}
use Rattle.greedy_rules.specs.Batches.{DemandBatch, IsBatch, entry_of}
use Rattle.greedy_rules.specs.Slot.{has_flow}
use Rattle.greedy_rules.specs.Allocation.{slots_of}
use Rattle.greedy_rules.specs.Fronts.{FrontsAreFronts}
use Rattle.greedy_rules.specs.Matching.{HoldsOfEntries, EverySlotsFlowsAreOfEntries}
use Rattle.greedy_rules.specs.Schedule.{schedule}
use Rattle.greedy_rules.specs.Balance.{clears, NoneClears}
use Rattle.greedy_rules.specs.Recorded.{AreRecordedAfter}
use Rattle.greedy_rules.proofs.Facts.{same_flow-true, same_flow-refl, flow_below-not_same}
use Rattle.list_facts.proofs.Pairs.{AllPairs-head, AllPairs-tail}
use Rattle.list_facts.proofs.Bools.{never_or}
use Rattle.schedule_audit.specs.Lines.{Recorded}
use Rattle.schedule_audit.specs.Wrong.{last_clear}
use Rattle.schedule_audit.specs.Texts.{record_of, records_of}
use Rattle.schedule_audit.specs.Counts.{FlowClearsAt, FlowOpensFrom, SlotsBeginAtTheLastClear}

abbrev it_clears : Flow → Recorded → Bool
it_clears flow s = s.clear && same_flow s.flow flow

-- ---- one batch

none_after : (k : ℕ) (e : Entry) (es : List Entry) → All (λ x. IsTrue (flow_below e.flow x.flow)) es → list_any (it_clears e.flow) (map (record_of k) es) ≡ false
none_after k e [] all = refl
none_after k e (x ∷ es) all =
    let P : Entry → Type 0 = λ y. IsTrue (flow_below e.flow y.flow) in
    let other : same_flow x.flow e.flow ≡ false = false_from_ne_true (same_flow x.flow e.flow) (λ same.
    let equal : x.flow ≡ e.flow = same_flow-true x.flow e.flow same in
    let not_same : same_flow e.flow x.flow ≡ false = flow_below-not_same e.flow x.flow (All-head P x es all) in
    let is : same_flow e.flow x.flow ≡ true = subst (λ (f : Flow). same_flow e.flow f ≡ true) (sym equal) (same_flow-refl e.flow) in
    false≢true (sym not_same ∙ is)) in
    or_from (x.clear && same_flow x.flow e.flow) (list_any (it_clears e.flow) (map (record_of k) es)) (ap (λ b. x.clear && b) other ∙ and-false x.clear) (none_after k e es (All-tail P x es all))

this_one : (c rest : Bool) → rest ≡ false → ((c && true) || rest) ≡ c
this_one true rest none = refl
this_one false rest none = none

clears-one : (k : ℕ) (es : List Entry) (flow : Flow) → IsBatch es → list_any (it_clears flow) (map (record_of k) es) ≡ clears (entry_of es flow)
clears-one k [] flow rises = refl
clears-one k (e ∷ es) flow rises =
    let R : Entry → Entry → Type 0 = λ x y. IsTrue (flow_below x.flow y.flow) in
    elim (cases_Bool (same_flow e.flow flow)) [
      | inl here ↦
          let same : e.flow ≡ flow = same_flow-true e.flow flow here in
          let none : list_any (it_clears flow) (map (record_of k) es) ≡ false = subst (λ (f : Flow). list_any (it_clears f) (map (record_of k) es) ≡ false) same (none_after k e es (AllPairs-head R e es rises)) in
          rw here (this_one e.clear (list_any (it_clears flow) (map (record_of k) es)) none)
      | inr other ↦ rw other (never_or e.clear (list_any (it_clears flow) (map (record_of k) es)) ∙ clears-one k es flow (AllPairs-tail R e es rises))
    ]

-- ---- records before others

-- where a later one clears, the earlier ones do not count
past : (flow : Flow) (rs later : List Recorded) → list_any (it_clears flow) later ≡ true → last_clear flow (rs ++ later) ≡ last_clear flow later
past flow [] later some = refl
past flow (r ∷ rs) later some =
    let any : list_any (it_clears flow) (rs ++ later) ≡ true = list_any-append (it_clears flow) rs later ∙ or_right (list_any (it_clears flow) rs) (list_any (it_clears flow) later) some in
    cond-true (list_any (it_clears flow) (rs ++ later)) (last_clear flow (rs ++ later)) (cond (r.clear && same_flow r.flow flow) r.batch 0) any ∙ past flow rs later some

none_clear : (flow : Flow) (rs : List Recorded) → list_any (it_clears flow) rs ≡ false → last_clear flow rs ≡ 0
none_clear flow [] none = refl
none_clear flow (r ∷ rs) none =
    let parts = or_parts (r.clear && same_flow r.flow flow) (list_any (it_clears flow) rs) none in
    cond-false (list_any (it_clears flow) rs) (last_clear flow rs) (cond (r.clear && same_flow r.flow flow) r.batch 0) parts.1
    ∙ cond-false (r.clear && same_flow r.flow flow) r.batch 0 parts.0

-- where none of the later ones clears, the last is that of this batch
this : (flow : Flow) (k : ℕ) (es : List Entry) (later : List Recorded) → list_any (it_clears flow) later ≡ false → list_any (it_clears flow) (map (record_of k) es) ≡ true → last_clear flow (map (record_of k) es ++ later) ≡ k
this flow k [] later none some = absurd (false≢true some)
this flow k (e ∷ es) later none some =
    let rest = map (record_of k) es in
    let split = list_any-append (it_clears flow) rest later in
    elim (cases_Bool (list_any (it_clears flow) rest)) [
      | inl more ↦
          cond-true (list_any (it_clears flow) (rest ++ later)) (last_clear flow (rest ++ later)) (cond (e.clear && same_flow e.flow flow) k 0) (split ∙ or_left (list_any (it_clears flow) rest) (list_any (it_clears flow) later) more)
          ∙ this flow k es later none more
      | inr last ↦
          let it : (e.clear && same_flow e.flow flow) ≡ true = is_first (e.clear && same_flow e.flow flow) (list_any (it_clears flow) rest) last some in
          cond-false (list_any (it_clears flow) (rest ++ later)) (last_clear flow (rest ++ later)) (cond (e.clear && same_flow e.flow flow) k 0) (split ∙ or_from (list_any (it_clears flow) rest) (list_any (it_clears flow) later) last none)
          ∙ cond-true (e.clear && same_flow e.flow flow) k 0 it
    ]
  where
    is_first : (a b : Bool) → b ≡ false → (a || b) ≡ true → a ≡ true
    is_first true b none = λ some'. refl
    is_first false b none = λ some'. absurd (false≢true (sym none ∙ some'))

-- ---- batches

none-all : (endpoints k : ℕ) (limits : Limits) (front batches : List DemandBatch) (flow : Flow) → AreRecordedAfter endpoints limits front batches → NoneClears flow batches → list_any (it_clears flow) (records_of k batches) ≡ false
none-all endpoints k limits front [] flow are none = refl
none-all endpoints k limits front (batch ∷ batches) flow are none =
    let P : DemandBatch → Type 0 = λ x. clears (entry_of x.entries flow) ≡ false in
    list_any-append (it_clears flow) (map (record_of k) batch.entries) (records_of (k + 1) batches)
    ∙ or_from (list_any (it_clears flow) (map (record_of k) batch.entries)) (list_any (it_clears flow) (records_of (k + 1) batches))
    (clears-one k batch.entries flow are.0.rises ∙ All-head P batch batches none)
    (none-all endpoints (k + 1) limits (front ++ batch ∷ []) batches flow are.1 (All-tail P batch batches none))

clears-there : (endpoints k : ℕ) (limits : Limits) (front batches : List DemandBatch) (flow : Flow) (place : ℕ) → AreRecordedAfter endpoints limits front batches → FlowClearsAt flow place batches → list_any (it_clears flow) (records_of k batches) ≡ true
clears-there endpoints k limits front [] flow place are at = absurd at
clears-there endpoints k limits front (batch ∷ batches) flow zero are at =
    list_any-append (it_clears flow) (map (record_of k) batch.entries) (records_of (k + 1) batches)
    ∙ or_left (list_any (it_clears flow) (map (record_of k) batch.entries)) (list_any (it_clears flow) (records_of (k + 1) batches)) (clears-one k batch.entries flow are.0.rises ∙ at.0)
clears-there endpoints k limits front (batch ∷ batches) flow (suc place) are at =
    list_any-append (it_clears flow) (map (record_of k) batch.entries) (records_of (k + 1) batches)
    ∙ or_right (list_any (it_clears flow) (map (record_of k) batch.entries)) (list_any (it_clears flow) (records_of (k + 1) batches)) (clears-there endpoints (k + 1) limits (front ++ batch ∷ []) batches flow place are.1 at)

clear-at : (endpoints k : ℕ) (limits : Limits) (front batches : List DemandBatch) (flow : Flow) (place : ℕ) → AreRecordedAfter endpoints limits front batches → FlowClearsAt flow place batches → last_clear flow (records_of k batches) ≡ k + place
clear-at endpoints k limits front [] flow place are at = absurd at
clear-at endpoints k limits front (batch ∷ batches) flow zero are at =
    this flow k batch.entries (records_of (k + 1) batches) (none-all endpoints (k + 1) limits (front ++ batch ∷ []) batches flow are.1 at.1) (clears-one k batch.entries flow are.0.rises ∙ at.0) ∙ omega arith
clear-at endpoints k limits front (batch ∷ batches) flow (suc place) are at =
    past flow (map (record_of k) batch.entries) (records_of (k + 1) batches) (clears-there endpoints (k + 1) limits (front ++ batch ∷ []) batches flow place are.1 at)
    ∙ (clear-at endpoints (k + 1) limits (front ++ batch ∷ []) batches flow place are.1 at ∙ omega arith)

opens-none : (flow : Flow) (place : ℕ) (batches : List DemandBatch) → FlowOpensFrom flow place batches → NoneClears flow batches
opens-none flow zero batches opens = opens
opens-none flow (suc place) [] opens = absurd opens
opens-none flow (suc place) (batch ∷ batches) opens =
    All-cons (λ (x : DemandBatch). clears (entry_of x.entries flow) ≡ false) batch batches (ap clears opens.0) (opens-none flow place batches opens.1)

-- ---- batches that do not have the flow give it no slots

not_of : (flow : Flow) (es : List Entry) → entry_of es flow ≡ None → HoldsOfEntries (λ f. not (same_flow f flow)) es
not_of flow [] none = All-nil (λ (e : Entry). IsTrue (not (same_flow e.flow flow)))
not_of flow (e ∷ es) none = elim (cases_Bool (same_flow e.flow flow)) [
  | inl here ↦ let some : Some e ≡ None = rw here at none in absurd (cc)
  | inr other ↦ All-cons (λ (x : Entry). IsTrue (not (same_flow x.flow flow))) e es (ap not other) (not_of flow es (rw other at none))
]

without : (flow : Flow) (place : ℕ) (batches : List DemandBatch) → FlowOpensFrom flow place batches → All (λ batch. HoldsOfEntries (λ f. not (same_flow f flow)) batch.entries) (take place batches)
without flow zero batches opens = All-nil (λ (x : DemandBatch). HoldsOfEntries (λ f. not (same_flow f flow)) x.entries)
without flow (suc place) [] opens = absurd opens
without flow (suc place) (batch ∷ batches) opens =
    All-cons (λ (x : DemandBatch). HoldsOfEntries (λ f. not (same_flow f flow)) x.entries) batch (take place batches) (not_of flow batch.entries opens.0) (without flow place batches opens.1)

long_enough : (flow : Flow) (place : ℕ) (batches : List DemandBatch) → FlowOpensFrom flow place batches → length (take place batches) ≡ place
long_enough flow zero batches opens = refl
long_enough flow (suc place) [] opens = absurd opens
long_enough flow (suc place) (batch ∷ batches) opens = ap suc (long_enough flow place batches opens.1)

two_parts : (n : ℕ) (xs : List DemandBatch) → take n xs ++ drop n xs ≡ xs
two_parts zero xs = refl
two_parts (suc n) [] = refl
two_parts (suc n) (x ∷ xs) = ap (λ ys. x ∷ ys) (two_parts n xs)

has_not : (flow : Flow) (slot : List Flow) → All (λ f. IsTrue (not (same_flow f flow))) slot → has_flow slot flow ≡ false
has_not flow [] all = refl
has_not flow (f ∷ slot) all =
    let P : Flow → Type 0 = λ g. IsTrue (not (same_flow g flow)) in
    or_from (same_flow f flow) (has_flow slot flow) (not-true (same_flow f flow) (All-head P f slot all)) (has_not flow slot (All-tail P f slot all))

no_slots : (flow : Flow) (slots : List (List Flow)) → All (All (λ f. IsTrue (not (same_flow f flow)))) slots → slots_of flow slots ≡ 0
no_slots flow [] all = refl
no_slots flow (slot ∷ slots) all =
    let P : List Flow → Type 0 = All (λ f. IsTrue (not (same_flow f flow))) in
    omega (arith, sum_by-cons (λ (s : List Flow). cond (has_flow s flow) 1 0) slot slots, cond-false {A = ℕ} (has_flow slot flow) 1 0 (has_not flow slot (All-head P slot slots all)), no_slots flow slots (All-tail P slot slots all))

pub counts_begin : FrontsAreFronts → EverySlotsFlowsAreOfEntries → SlotsBeginAtTheLastClear
counts_begin fronts of_entries endpoints b limits batches flow place are (inl at) =
    ap (λ n. slots_of flow (drop (n * b) (schedule b batches))) (clear-at endpoints 0 limits [] batches flow place are at ∙ omega arith)
counts_begin fronts of_entries endpoints b limits batches flow place are (inr opens) =
    let slots = schedule b batches in
    let none : last_clear flow (records_of 0 batches) ≡ 0 = none_clear flow (records_of 0 batches) (none-all endpoints 0 limits [] batches flow are (opens-none flow place batches opens)) in
    let front = take place batches in
    let first : take (place * b) slots ≡ schedule b front =
    ap (λ bs. take (place * b) (schedule b bs)) (sym (two_parts place batches)) ∙ (ap (λ n. take (n * b) (schedule b (front ++ drop place batches))) (sym (long_enough flow place batches opens)) ∙ (fronts b front (drop place batches)).2) in
    let empty : slots_of flow (take (place * b) slots) ≡ 0 = ap (slots_of flow) first ∙ no_slots flow (schedule b front) (of_entries (λ f. not (same_flow f flow)) b front (without flow place batches opens)) in
    let zero_times : 0 * b ≡ 0 = omega arith in
    let whole : slots_of flow (drop (0 * b) slots) ≡ slots_of flow slots = ap (λ n. slots_of flow (drop n slots)) zero_times in
    ap (λ n. slots_of flow (drop (n * b) slots)) none
    ∙ omega (arith, whole, empty, sum_by-take-drop (λ (s : List Flow). cond (has_flow s flow) 1 0) slots (place * b))
