-- The batches that lines give are the batches that they were made of.
use Rattle.std.proofs.Common.{◌≡◌, ◌<◌, ◌≤◌, ◌+◌, ◌==◌, nat_lt, ◌&&◌, ◌||◌, not, ℕ, suc, List, [], ◌∷◌, ◌++◌, map, filter, length, Bool, false, is_some, All, refl, sym, ap, ◌∙◌, inl, inr, arith}
use Rattle.std.specs.List.{list_any, range_with_len}
use Rattle.std.proofs.lemmas.Bool.{cases_Bool, eq-eqb, ne_eqb, lt-ltb, le-ltb, or_from}
use Rattle.std.proofs.lemmas.List.{append_assoc, append-nil, length-append}
use Rattle.std.proofs.lemmas.List.Elements.{All-head, All-tail, filter-append}
use Rattle.std.proofs.lemmas.List.Folds.{list_any-append}
use Rattle.std.proofs.Math.Bool.{or-false}
use Rattle.greedy_rules.specs.declared.flows.Flow.{Flow}
use Rattle.greedy_rules.specs.declared.flows.Entry.{Entry}
use Rattle.greedy_rules.specs.declared.limits.Limits.{Limits}
use Rattle.greedy_rules.specs.Flows.{same_flow}
use Rattle.greedy_rules.specs.Batches.{DemandBatch, entry_of}
use Rattle.greedy_rules.specs.Balance.{is_recorded}
use Rattle.greedy_rules.specs.Recorded.{AreRecordedAfter, AreRecorded}
use Rattle.clos_topology.specs.Network.{Network}
use Rattle.schedule_audit.specs.Lines.{Recorded}
use Rattle.schedule_audit.specs.Wrong.{had_before, entry_of_record, batch_of_records, batches_of_records}
use Rattle.schedule_audit.specs.Texts.{record_of, records_of}

pub records_of-append : (k : ℕ) (front later : List DemandBatch) → records_of k (front ++ later) ≡ records_of k front ++ records_of (k + length front) later
records_of-append k [] later = ap (λ n. records_of n later) (omega arith)
records_of-append k (batch ∷ front) later =
    let here = map (record_of k) batch.entries in
    let same : k + 1 + length front ≡ k + suc (length front) = omega arith in
    ap (λ xs. here ++ xs) (records_of-append (k + 1) front later)
    ∙ (sym (append_assoc here (records_of (k + 1) front) (records_of (k + 1 + length front) later))
    ∙ ap (λ n. (here ++ records_of (k + 1) front) ++ records_of n later) same)

-- ---- records of one batch

has-entry : (k : ℕ) (es : List Entry) (flow : Flow) → list_any (λ r. same_flow r.flow flow) (map (record_of k) es) ≡ is_some (entry_of es flow)
has-entry k [] flow = refl
has-entry k (e ∷ es) flow = elim (cases_Bool (same_flow e.flow flow)) [
  | inl here ↦ rw here refl
  | inr other ↦ rw other (has-entry k es flow)
]

pub has-recorded : (k : ℕ) (front : List DemandBatch) (flow : Flow) → list_any (λ r. same_flow r.flow flow) (records_of k front) ≡ is_recorded front flow
has-recorded k [] flow = refl
has-recorded k (batch ∷ front) flow =
    list_any-append (λ (r : Recorded). same_flow r.flow flow) (map (record_of k) batch.entries) (records_of (k + 1) front)
    ∙ (ap (λ b. b || list_any (λ (r : Recorded). same_flow r.flow flow) (records_of (k + 1) front)) (has-entry k batch.entries flow)
    ∙ ap (λ b. is_some (entry_of batch.entries flow) || b) (has-recorded (k + 1) front flow))

-- ---- earlier and later ones, for batch n

abbrev before : ℕ → Flow → Recorded → Bool
before n flow r = nat_lt r.batch n && same_flow r.flow flow

abbrev at : ℕ → Recorded → Bool
at n r = r.batch == n

low-one : (n k : ℕ) (es : List Entry) (flow : Flow) → k < n → list_any (before n flow) (map (record_of k) es) ≡ list_any (λ r. same_flow r.flow flow) (map (record_of k) es)
low-one n k [] flow lt = refl
low-one n k (e ∷ es) flow lt = rw (lt-ltb k n lt) (ap (λ b. same_flow e.flow flow || b) (low-one n k es flow lt))

low : (n k : ℕ) (front : List DemandBatch) (flow : Flow) → k + length front ≤ n → list_any (before n flow) (records_of k front) ≡ list_any (λ r. same_flow r.flow flow) (records_of k front)
low n k [] flow le = refl
low n k (batch ∷ front) flow le =
    let here = map (record_of k) batch.entries in
    list_any-append (before n flow) here (records_of (k + 1) front)
    ∙ (ap (λ b. b || list_any (before n flow) (records_of (k + 1) front)) (low-one n k batch.entries flow (omega arith))
    ∙ (ap (λ b. list_any (λ (r : Recorded). same_flow r.flow flow) here || b) (low n (k + 1) front flow (omega arith))
    ∙ sym (list_any-append (λ (r : Recorded). same_flow r.flow flow) here (records_of (k + 1) front))))

high-one : (n k : ℕ) (es : List Entry) (flow : Flow) → n ≤ k → list_any (before n flow) (map (record_of k) es) ≡ false
high-one n k [] flow le = refl
high-one n k (e ∷ es) flow le = rw (le-ltb k n le) (high-one n k es flow le)

high : (n k : ℕ) (later : List DemandBatch) (flow : Flow) → n ≤ k → list_any (before n flow) (records_of k later) ≡ false
high n k [] flow le = refl
high n k (batch ∷ later) flow le =
    list_any-append (before n flow) (map (record_of k) batch.entries) (records_of (k + 1) later)
    ∙ or_from (list_any (before n flow) (map (record_of k) batch.entries)) (list_any (before n flow) (records_of (k + 1) later)) (high-one n k batch.entries flow le) (high n (k + 1) later flow (omega arith))

none-one : (n k : ℕ) (es : List Entry) → (k ≡ n → ⊥) → filter (at n) (map (record_of k) es) ≡ []
none-one n k [] other = refl
none-one n k (e ∷ es) other = rw (ne_eqb k n other) (none-one n k es other)

all-one : (n : ℕ) (es : List Entry) → filter (at n) (map (record_of n) es) ≡ map (record_of n) es
all-one n [] = refl
all-one n (e ∷ es) = rw (eq-eqb n n refl) (ap (λ xs. record_of n e ∷ xs) (all-one n es))

none-low : (n k : ℕ) (front : List DemandBatch) → k + length front ≤ n → filter (at n) (records_of k front) ≡ []
none-low n k [] le = refl
none-low n k (batch ∷ front) le =
    filter-append (at n) (map (record_of k) batch.entries) (records_of (k + 1) front)
    ∙ (ap (λ xs. xs ++ filter (at n) (records_of (k + 1) front)) (none-one n k batch.entries (λ same. absurd (omega arith))) ∙ none-low n (k + 1) front (omega arith))

none-high : (n k : ℕ) (later : List DemandBatch) → n < k → filter (at n) (records_of k later) ≡ []
none-high n k [] lt = refl
none-high n k (batch ∷ later) lt =
    filter-append (at n) (map (record_of k) batch.entries) (records_of (k + 1) later)
    ∙ (ap (λ xs. xs ++ filter (at n) (records_of (k + 1) later)) (none-one n k batch.entries (λ same. absurd (omega arith))) ∙ none-high n (k + 1) later (omega arith))

-- ---- a batch among others

module _ (front : List DemandBatch) (batch : DemandBatch) (later : List DemandBatch) where
  abbrev n : ℕ
  n = length front

  abbrev all : List Recorded
  all = records_of 0 (front ++ batch ∷ later)

  parts : all ≡ records_of 0 front ++ (map (record_of n) batch.entries ++ records_of (n + 1) later)
  parts = records_of-append 0 front (batch ∷ later) ∙ ap (λ m. records_of 0 front ++ records_of m (batch ∷ later)) (omega arith)

  had : (flow : Flow) → had_before all n flow ≡ is_recorded front flow
  had flow =
      let t = before n flow in
      let one = records_of 0 front in
      let two = map (record_of n) batch.entries in
      let three = records_of (n + 1) later in
      let nothing : list_any t (two ++ three) ≡ false = list_any-append t two three ∙ or_from (list_any t two) (list_any t three) (high-one n n batch.entries flow (omega arith)) (high n (n + 1) later flow (omega arith)) in
      ap (λ xs. list_any t xs) parts
      ∙ (list_any-append t one (two ++ three)
      ∙ (ap (λ b. list_any t one || b) nothing
      ∙ (or-false (list_any t one)
      ∙ (low n 0 front flow (omega arith) ∙ has-recorded 0 front flow))))

  mine : filter (at n) all ≡ map (record_of n) batch.entries
  mine =
      let one = records_of 0 front in
      let two = map (record_of n) batch.entries in
      let three = records_of (n + 1) later in
      ap (λ xs. filter (at n) xs) parts
      ∙ (filter-append (at n) one (two ++ three)
      ∙ (ap (λ xs. xs ++ filter (at n) (two ++ three)) (none-low n 0 front (omega arith))
      ∙ (filter-append (at n) two three
      ∙ (ap (λ xs. xs ++ filter (at n) three) (all-one n batch.entries)
      ∙ (ap (λ xs. two ++ xs) (none-high n (n + 1) later (omega arith))
      ∙ append-nil two)))))

  again : (es : List Entry) → All (λ e. e.opens ≡ not (is_recorded front e.flow)) es → map (entry_of_record all) (map (record_of n) es) ≡ es
  again [] opens = refl
  again (e ∷ es) opens =
      let P : Entry → Type 0 = λ x. x.opens ≡ not (is_recorded front x.flow) in
      let is : not (had_before all n e.flow) ≡ e.opens = ap not (had e.flow) ∙ sym (All-head P e es opens) in
      let first : entry_of_record all (record_of n e) ≡ e = ap (λ o. record { flow = e.flow; opens = o; clear = e.clear; add = e.add }) is in
      ap (λ x. x ∷ map (entry_of_record all) (map (record_of n) es)) first ∙ ap (λ xs. e ∷ xs) (again es (All-tail P e es opens))

  pub this_batch : (net : Network) → batch.limits ≡ record { hosts = net.hosts; cores = net.cores } → All (λ e. e.opens ≡ not (is_recorded front e.flow)) batch.entries → batch_of_records net all n ≡ batch
  this_batch net limits opens =
      let es : map (entry_of_record all) (filter (at n) all) ≡ batch.entries = ap (λ xs. map (entry_of_record all) xs) mine ∙ again batch.entries opens in
      ap (λ xs. record { entries = xs; limits = record { hosts = net.hosts; cores = net.cores } }) es ∙ ap (λ (l : Limits). record { entries = batch.entries; limits = l }) (sym limits)

-- ---- all of them

from_front : (net : Network) (endpoints : ℕ) (front later : List DemandBatch) → AreRecordedAfter endpoints (record { hosts = net.hosts; cores = net.cores }) front later
    → map (batch_of_records net (records_of 0 (front ++ later))) (range_with_len (length front) (length later)) ≡ later
from_front net endpoints front [] are = refl
from_front net endpoints front (batch ∷ later) are =
    let whole = records_of 0 (front ++ batch ∷ later) in
    let next : front ++ batch ∷ later ≡ (front ++ batch ∷ []) ++ later = sym (append_assoc front (batch ∷ []) later) in
    let long : length (front ++ batch ∷ []) ≡ length front + 1 = length-append front (batch ∷ []) in
    let rest = from_front net endpoints (front ++ batch ∷ []) later are.1 in
    let rest' : map (batch_of_records net whole) (range_with_len (length front + 1) (length later)) ≡ later =
    ap (λ bs. map (batch_of_records net (records_of 0 bs)) (range_with_len (length front + 1) (length later))) next
    ∙ (ap (λ m. map (batch_of_records net (records_of 0 ((front ++ batch ∷ []) ++ later))) (range_with_len m (length later))) (sym long) ∙ rest) in
    ap (λ x. x ∷ map (batch_of_records net whole) (range_with_len (length front + 1) (length later))) (this_batch front batch later net are.0.same_limits are.0.opens)
    ∙ ap (λ xs. batch ∷ xs) rest'

pub batches_again : (net : Network) (endpoints : ℕ) (batches : List DemandBatch) → AreRecorded endpoints (record { hosts = net.hosts; cores = net.cores }) batches
    → batches_of_records net (length batches) (records_of 0 batches) ≡ batches
batches_again net endpoints batches are = from_front net endpoints [] batches are
