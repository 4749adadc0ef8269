-- The batches that are read off good records are recorded batches.
use Rattle.std.proofs.Common.{◌≡◌, ◌≢◌, ◌<◌, ◌≤◌, ◌+◌, ◌==◌, nat_lt, nat_le, ◌&&◌, ◌||◌, not, ℕ, zero, suc, List, [], ◌∷◌, ◌++◌, map, length, cond, true, false, Option, Some, None, is_some, All, IsTrue, refl, sym, ap, ◌∙◌, subst, inl, inr, arith}
use Rattle.std.specs.Prelude.{◌⊎◌}
use Rattle.std.proofs.lemmas.Bool.{cases_Bool, cases_lt, cond-false, eqb-true, eqb-false, ltb-true, ltb-false, leb-false, and_parts, or_parts, or_cases, or_left, or_right, not-false, false≢true}
use Rattle.std.proofs.lemmas.List.{append_assoc, append-nil}
use Rattle.std.proofs.lemmas.List.Elements.{All-nil, All-cons, All-append, All-weaker}
use Rattle.std.proofs.lemmas.List.Folds.{list_any-append}
use Rattle.list_facts.proofs.Pairs.{AllPairs-nil, AllPairs-cons, AllPairs-append}
use Rattle.list_facts.proofs.Bools.{not_without}
use Rattle.greedy_rules.specs.declared.flows.Flow.{Flow}
use Rattle.greedy_rules.specs.declared.flows.Entry.{Entry}
use Rattle.greedy_rules.specs.declared.limits.Limits.{Limits}
use Rattle.greedy_rules.specs.Flows.{same_flow, flow_below}
use Rattle.greedy_rules.specs.Batches.{DemandBatch, IsBatch, entry_of}
use Rattle.greedy_rules.specs.Balance.{is_recorded}
use Rattle.greedy_rules.specs.Matching.{AreAmong}
use Rattle.greedy_rules.specs.Recorded.{IsRecordedAfter, AreRecordedAfter, AreRecorded}
use Rattle.greedy_rules.proofs.Facts.{same_flow-true, flow_below-trans}
use Rattle.clos_topology.specs.Network.{Network, endpoints_of}
use Rattle.schedule_audit.specs.Lines.{Recorded, has_record, reaches, records, rounds_in_lines}
use Rattle.schedule_audit.specs.Misplaced.{most_added, is_above, added_since, has_wrong_ends, says_nothing, clears_none, adds_too_much, is_bad_record, is_bad_end, is_misplaced_line, is_misplaced, has_end}
use Rattle.schedule_audit.specs.Wrong.{batches_of_records}
use Rattle.schedule_audit.specs.Laws.{GoodRecords}
use Rattle.report_text.specs.declared.line.Line.{Line}
use Rattle.report_text.specs.declared.line.Line.TheVariants as line
use Rattle.schedule_audit.specs.BadLines.{first_from, after_last, first_misplaced}
use Rattle.schedule_audit.specs.Shown.{NoMisplacedLineIsRecorded}
use Rattle.schedule_audit.proofs.Walk.{AllGood}
use Rattle.schedule_audit.proofs.Shown.{or_else-none, all_good, ended}
use Rattle.schedule_audit.specs.Texts.{record_of, records_of}
use Rattle.schedule_audit.proofs.Batches.{batches_again}
use Rattle.schedule_audit.proofs.Records.{Before, start, more, done, none_before}
use Rattle.schedule_audit.proofs.EntrySteps.{Rises}

-- ---- entries of a batch

some-more : (es : List Entry) (e : Entry) (flow : Flow) → is_some (entry_of es flow) ≡ true → is_some (entry_of (es ++ e ∷ []) flow) ≡ true
some-more [] e flow never = absurd (false≢true never)
some-more (x ∷ es) e flow some = elim (cases_Bool (same_flow x.flow flow)) [
  | inl here ↦ rw here refl
  | inr other ↦ rw other (some-more es e flow (rw other at some))
]

some-here : (es : List Entry) (e : Entry) (flow : Flow) → same_flow e.flow flow ≡ true → is_some (entry_of (es ++ e ∷ []) flow) ≡ true
some-here [] e flow here = rw here refl
some-here (x ∷ es) e flow here = elim (cases_Bool (same_flow x.flow flow)) [
  | inl first ↦ rw first refl
  | inr other ↦ rw other (some-here es e flow here)
]

abbrev Below : Flow → Entry → Type 0
Below flow e = flow_below e.flow flow ≡ true

-- one entry more
pushed : (P : Entry → Type 0) (es : List Entry) (e : Entry) → All P es → P e → All P (es ++ e ∷ [])
pushed P es e all one = All-append P es (e ∷ []) all (All-cons P e [] one (All-nil P))

rises-more : (es : List Entry) (e : Entry) → IsBatch es → All (Below e.flow) es → IsBatch (es ++ e ∷ [])
rises-more es e rises below =
    AllPairs-append Rises es (e ∷ []) rises (AllPairs-cons Rises e [] (All-nil (Rises e)) (AllPairs-nil Rises))
    (All-weaker (Below e.flow) (λ x. All (Rises x) (e ∷ [])) (λ x is. All-cons (Rises x) e [] is (All-nil (Rises x))) es below)

-- ---- what stands before a record: good batches, and the first entries of batch k

record Taken (endpoints k : ℕ) (front : List DemandBatch) (es : List Entry) (before : List Recorded) : Type 0 where
  pub before_is : Before k front es before
  pub rises : IsBatch es
  pub in_range : AreAmong endpoints es
  pub apart : All (λ (e : Entry). e.flow.src ≢ e.flow.dst) es
  pub opens : All (λ (e : Entry). e.opens ≡ not (is_recorded front e.flow)) es
  pub clears : All (λ (e : Entry). IsTrue e.clear → IsTrue (is_recorded front e.flow)) es
  pub known : (flow : Flow) → has_record flow before ≡ true → (is_recorded front flow ≡ true) ⊎ (is_some (entry_of es flow) ≡ true)
  pub few : (flow : Flow) → added_since flow before ≤ most_added
  pub next : (r : Recorded) → k ≤ r.batch → is_above before r ≡ true → (k < r.batch) ⊎ ((r.batch ≡ k) × All (Below r.flow) es)

abbrev entry_for : List DemandBatch → Recorded → Entry
entry_for front r = record { flow = r.flow; opens = not (is_recorded front r.flow); clear = r.clear; add = r.add }

record IsGood (endpoints : ℕ) (before : List Recorded) (r : Recorded) : Type 0 where
  pub above : is_above before r ≡ true
  pub src : r.flow.src < endpoints
  pub dst : r.flow.dst < endpoints
  pub apart : r.flow.src ≢ r.flow.dst
  pub clears : r.clear ≡ true → has_record r.flow before ≡ true
  pub few : added_since r.flow (r ∷ before) ≤ most_added

is_good : (endpoints : ℕ) (before : List Recorded) (r : Recorded) → is_bad_record endpoints before r ≡ false → IsGood endpoints before r
is_good endpoints before r good =
    let s = nat_le endpoints r.flow.src in
    let d = nat_le endpoints r.flow.dst in
    let f = r.flow.src == r.flow.dst in
    let c = clears_none before r in
    let m = adds_too_much before r in
    let one = or_parts (not (is_above before r)) (has_wrong_ends endpoints r.flow || (says_nothing r || (c || m))) good in
    let two = or_parts (has_wrong_ends endpoints r.flow) (says_nothing r || (c || m)) one.1 in
    let three = or_parts (says_nothing r) (c || m) two.1 in
    let four = or_parts c m three.1 in
    let ends = or_parts s (d || f) two.0 in
    let others = or_parts d f ends.1 in
    record {
      above = not-false (is_above before r) one.0;
      src = leb-false endpoints r.flow.src ends.0;
      dst = leb-false endpoints r.flow.dst others.0;
      apart = eqb-false r.flow.src r.flow.dst others.1;
      clears = not_without r.clear (has_record r.flow before) four.0;
      few = ltb-false most_added (added_since r.flow (r ∷ before)) four.1;
    }

add_one : (endpoints k : ℕ) (front : List DemandBatch) (es : List Entry) (before : List Recorded) (r : Recorded) → r.batch ≡ k → All (Below r.flow) es → IsGood endpoints before r → Taken endpoints k front es before
    → Taken endpoints k front (es ++ entry_for front r ∷ []) (r ∷ before)
add_one endpoints k front es before r at below good taken =
    let e = entry_for front r in
    let same : record_of k e ≡ r = ap (λ n. record { batch = n; flow = r.flow; clear = r.clear; add = r.add }) (sym at) in
    record {
      before_is = subst (λ x. Before k front (es ++ e ∷ []) (x ∷ before)) same (more k front es before e below taken.before_is);
      rises = rises-more es e taken.rises below;
      in_range = pushed (λ (x : Entry). (x.flow.src < endpoints) × (x.flow.dst < endpoints)) es e taken.in_range (good.src, good.dst);
      apart = pushed (λ (x : Entry). x.flow.src ≢ x.flow.dst) es e taken.apart good.apart;
      opens = pushed (λ (x : Entry). x.opens ≡ not (is_recorded front x.flow)) es e taken.opens refl;
      clears = pushed (λ (x : Entry). IsTrue x.clear → IsTrue (is_recorded front x.flow)) es e taken.clears (λ clear. cleared (good.clears clear));
      known = known;
      few = few;
      next = next;
    }
  where
    cleared : has_record r.flow before ≡ true → is_recorded front r.flow ≡ true
    cleared has = elim (taken.known r.flow has) [
      | inl had ↦ had
      | inr some ↦ absurd (false≢true (sym (ap (λ o. is_some o) (none_before es r.flow below)) ∙ some))
    ]

    known : (flow : Flow) → has_record flow (r ∷ before) ≡ true → (is_recorded front flow ≡ true) ⊎ (is_some (entry_of (es ++ entry_for front r ∷ []) flow) ≡ true)
    known flow has = elim (or_cases (same_flow r.flow flow) (has_record flow before) has) [
      | inl here ↦ inr (some-here es (entry_for front r) flow here)
      | inr earlier ↦ elim (taken.known flow earlier) [
        | inl had ↦ inl had
        | inr some ↦ inr (some-more es (entry_for front r) flow some)
      ]
    ]

    few : (flow : Flow) → added_since flow (r ∷ before) ≤ most_added
    few flow = elim (cases_Bool (same_flow r.flow flow)) [
      | inl here ↦ subst (λ f. added_since f (r ∷ before) ≤ most_added) (same_flow-true r.flow flow here) good.few
      | inr other ↦ subst (λ n. n ≤ most_added) (sym (cond-false (same_flow r.flow flow) (cond r.clear r.add (r.add + added_since flow before)) (added_since flow before) other)) (taken.few flow)
    ]

    next : (q : Recorded) → k ≤ q.batch → is_above (r ∷ before) q ≡ true → (k < q.batch) ⊎ ((q.batch ≡ k) × All (Below q.flow) (es ++ entry_for front r ∷ []))
    next q from above = elim (or_cases (nat_lt r.batch q.batch) ((r.batch == q.batch) && flow_below r.flow q.flow) above) [
      | inl later ↦ inl (subst (λ n. n < q.batch) at (ltb-true r.batch q.batch later))
      | inr parts ↦
          let both = and_parts (r.batch == q.batch) (flow_below r.flow q.flow) parts in
          inr (
            sym (eqb-true r.batch q.batch both.0) ∙ at,
            pushed (Below q.flow) es (entry_for front r) (All-weaker (Below r.flow) (Below q.flow) (λ x is. flow_below-trans x.flow r.flow q.flow is both.1) es below) both.1,
          )
    ]

-- ---- a whole batch

-- the first of these is of batch k or a later one
abbrev BeginsFrom : ℕ → List Recorded → Type 0
BeginsFrom k [] = Unit {0}
BeginsFrom k (r ∷ rs) = k ≤ r.batch

record Read (endpoints k : ℕ) (front : List DemandBatch) (es : List Entry) (todo : List Recorded) : Type 0 where
  pub mine : List Entry
  pub rest : List Recorded
  pub before : List Recorded
  pub is : todo ≡ map (record_of k) mine ++ rest
  pub taken : Taken endpoints k front (es ++ mine) before
  pub good : GoodRecords endpoints before rest
  pub from : BeginsFrom (k + 1) rest

from_next : (endpoints k : ℕ) (r : Recorded) (before todo : List Recorded) → r.batch ≡ k → GoodRecords endpoints (r ∷ before) todo → BeginsFrom k todo
from_next endpoints k r before [] at good = tt
from_next endpoints k r before (q ∷ todo) at good =
    elim (or_cases (nat_lt r.batch q.batch) ((r.batch == q.batch) && flow_below r.flow q.flow) (is_good endpoints (r ∷ before) q good.0).above) [
      | inl later ↦ let lt = ltb-true r.batch q.batch later in omega (arith, lt, at)
      | inr parts ↦ let both = eqb-true r.batch q.batch (and_parts (r.batch == q.batch) (flow_below r.flow q.flow) parts).0 in omega (arith, both, at)
    ]

read_batch : (endpoints k : ℕ) (front : List DemandBatch) (es : List Entry) (before todo : List Recorded) → Taken endpoints k front es before → GoodRecords endpoints before todo → BeginsFrom k todo → Read endpoints k front es todo
read_batch endpoints k front es before [] taken good from =
    record { mine = []; rest = []; before = before; is = refl; taken = subst (λ xs. Taken endpoints k front xs before) (sym (append-nil es)) taken; good = tt; from = tt }
read_batch endpoints k front es before (r ∷ todo) taken good from =
    let one = is_good endpoints before r good.0 in
    elim (taken.next r from one.above) [
      | inl later ↦ record { mine = []; rest = r ∷ todo; before = before; is = refl; taken = subst (λ xs. Taken endpoints k front xs before) (sym (append-nil es)) taken; good = good; from = omega (arith, later) }
      | inr here ↦
          let e = entry_for front r in
          let same : r ≡ record_of k e = ap (λ n. record { batch = n; flow = r.flow; clear = r.clear; add = r.add }) here.0 in
          let then = read_batch endpoints k front (es ++ e ∷ []) (r ∷ before) todo (add_one endpoints k front es before r here.0 here.1 one taken) good.1 (from_next endpoints k r before todo here.0 good.1) in
          record {
            mine = e ∷ then.mine;
            rest = then.rest;
            before = then.before;
            is = ap (λ x. x ∷ todo) same ∙ ap (λ xs. record_of k e ∷ xs) then.is;
            taken = subst (λ xs. Taken endpoints k front xs then.before) (append_assoc es (e ∷ []) then.mine) then.taken;
            good = then.good;
            from = then.from;
          }
    ]

-- ---- all batches

closed : (endpoints k : ℕ) (limits : Limits) (front : List DemandBatch) (es : List Entry) (before : List Recorded) → Taken endpoints k front es before → IsRecordedAfter endpoints limits front (record { entries = es; limits = limits })
unfolding most_added
closed endpoints k limits front es before taken = record {
  same_limits = refl;
  rises = taken.rises;
  in_range = taken.in_range;
  apart = taken.apart;
  opens = taken.opens;
  clears = taken.clears;
  fits = λ flow. omega (arith, taken.few flow, taken.before_is.added flow);
}

opened : (endpoints k : ℕ) (front : List DemandBatch) (batch : DemandBatch) (before : List Recorded) → Taken endpoints k front batch.entries before → Taken endpoints (k + 1) (front ++ batch ∷ []) [] before
opened endpoints k front batch before taken = record {
  before_is = done k front batch before taken.before_is;
  rises = AllPairs-nil Rises;
  in_range = All-nil (λ (x : Entry). (x.flow.src < endpoints) × (x.flow.dst < endpoints));
  apart = All-nil (λ (x : Entry). x.flow.src ≢ x.flow.dst);
  opens = All-nil (λ (x : Entry). x.opens ≡ not (is_recorded (front ++ batch ∷ []) x.flow));
  clears = All-nil (λ (x : Entry). IsTrue x.clear → IsTrue (is_recorded (front ++ batch ∷ []) x.flow));
  known = λ flow has. inl (list_any-append (λ (x : DemandBatch). is_some (entry_of x.entries flow)) front (batch ∷ []) ∙ elim (taken.known flow has) [
    | inl had ↦ or_left (is_recorded front flow) (is_recorded (batch ∷ []) flow) had
    | inr some ↦ or_right (is_recorded front flow) (is_recorded (batch ∷ []) flow) (or_left (is_some (entry_of batch.entries flow)) false some)
  ]);
  few = taken.few;
  next = λ r from above. elim (cases_lt (k + 1) r.batch) [
    | inl later ↦ inl later
    | inr not_later ↦ inr (omega (arith, from, not_later), All-nil (Below r.flow))
  ];
}

record AllRead (endpoints k left : ℕ) (limits : Limits) (front : List DemandBatch) (todo : List Recorded) : Type 0 where
  pub batches : List DemandBatch
  pub many : length batches ≡ left
  pub are : AreRecordedAfter endpoints limits front batches
  pub is : records_of k batches ≡ todo

read_all : (endpoints rounds k left : ℕ) (limits : Limits) (front : List DemandBatch) (before todo : List Recorded) → k + left ≡ rounds → Taken endpoints k front [] before → GoodRecords endpoints before todo → BeginsFrom k todo
    → reaches rounds todo ≡ false → AllRead endpoints k left limits front todo
read_all endpoints rounds k zero limits front before [] many taken good from low = record { batches = []; many = refl; are = tt; is = refl }
read_all endpoints rounds k zero limits front before (r ∷ todo) many taken good from low =
    let lt = leb-false rounds r.batch (or_parts (nat_le rounds r.batch) (reaches rounds todo) low).0 in absurd (omega (arith, lt, from, many))
read_all endpoints rounds k (suc left) limits front before todo many taken good from low =
    let one = read_batch endpoints k front [] before todo taken good from in
    let batch : DemandBatch = record { entries = one.mine; limits = limits } in
    let lower : reaches rounds one.rest ≡ false =
    (or_parts (reaches rounds (map (record_of k) one.mine)) (reaches rounds one.rest) (sym (list_any-append (λ (r : Recorded). nat_le rounds r.batch) (map (record_of k) one.mine) one.rest) ∙ (ap (λ rs. reaches rounds rs) (sym one.is) ∙ low))).1 in
    let then = read_all endpoints rounds (k + 1) left limits (front ++ batch ∷ []) one.before one.rest (omega (arith, many)) (opened endpoints k front batch one.before one.taken) one.good one.from lower in
    record {
      batches = batch ∷ then.batches;
      many = ap suc then.many;
      are = (closed endpoints k limits front one.mine one.before one.taken, then.are);
      is = ap (λ rs. map (record_of k) one.mine ++ rs) then.is ∙ sym one.is;
    }

at_start : (endpoints : ℕ) → Taken endpoints 0 [] [] []
at_start endpoints = record {
  before_is = start;
  rises = AllPairs-nil Rises;
  in_range = All-nil (λ (x : Entry). (x.flow.src < endpoints) × (x.flow.dst < endpoints));
  apart = All-nil (λ (x : Entry). x.flow.src ≢ x.flow.dst);
  opens = All-nil (λ (x : Entry). x.opens ≡ not (is_recorded [] x.flow));
  clears = All-nil (λ (x : Entry). IsTrue x.clear → IsTrue (is_recorded [] x.flow));
  known = λ flow never. absurd (false≢true never);
  few = λ flow. omega arith;
  next = λ r from above. elim (cases_lt 0 r.batch) [
    | inl later ↦ inl later
    | inr first ↦ inr (omega (arith, first), All-nil (Below r.flow))
  ];
}

from_zero : (rs : List Recorded) → BeginsFrom 0 rs
from_zero [] = tt
from_zero (r ∷ rs) = omega arith

pub good_records_are_recorded : (net : Network) (endpoints rounds : ℕ) (rs : List Recorded) → GoodRecords endpoints [] rs → reaches rounds rs ≡ false
    → AreRecorded endpoints (record { hosts = net.hosts; cores = net.cores }) (batches_of_records net rounds rs)
good_records_are_recorded net endpoints rounds rs good low =
    let limits : Limits = record { hosts = net.hosts; cores = net.cores } in
    let all = read_all endpoints rounds 0 rounds limits [] [] rs (omega arith) (at_start endpoints) good (from_zero rs) low in
    let same : batches_of_records net rounds rs ≡ all.batches =
    ap (λ n. batches_of_records net n rs) (sym all.many) ∙ (ap (λ xs. batches_of_records net (length all.batches) xs) (sym all.is) ∙ batches_again net endpoints all.batches all.are) in
    subst (AreRecorded endpoints limits) (sym same) all.are

-- ---- lines of which none is misplaced

module _ (endpoints : ℕ) (whole : List (Option Line)) where
  abbrev AllStand : List (Option Line) → List (Option Line) → Type 0
  AllStand before lines = AllGood (is_misplaced endpoints whole) before lines

  record_lines : (before lines : List (Option Line)) → AllStand before lines → GoodRecords endpoints (records before) (records lines)
  record_lines before [] all = tt
  record_lines before (None ∷ lines) all = record_lines (None ∷ before) lines all.1
  record_lines before (Some (line.Batch batch src dst clear add) ∷ lines) all =
      let l : Line = line.Batch batch src dst clear add in
      ((or_parts (has_end before) (is_misplaced_line endpoints whole before l) all.0).1, record_lines (Some l ∷ before) lines all.1)
  record_lines before (Some l ∷ lines) all = record_lines (Some l ∷ before) lines all.1

  end_line : (before lines : List (Option Line)) → AllStand before lines → has_end lines ≡ true → is_bad_end (records whole) (rounds_in_lines lines) ≡ false
  end_line before [] all some = absurd (false≢true some)
  end_line before (None ∷ lines) all some = end_line (None ∷ before) lines all.1 some
  end_line before (Some (line.End rounds) ∷ lines) all some = (or_parts (has_end before) (is_bad_end (records whole) rounds) all.0).1
  end_line before (Some l ∷ lines) all some = end_line (Some l ∷ before) lines all.1 some

pub no_misplaced_line_is_recorded : NoMisplacedLineIsRecorded
no_misplaced_line_is_recorded net lines none =
    let endpoints = endpoints_of net in
    let rounds = rounds_in_lines lines in
    let one = or_else-none (first_from (is_misplaced endpoints lines) 1 [] lines) (after_last lines) none in
    let all = all_good (is_misplaced endpoints lines) 1 [] lines one.0 in
    let last = end_line endpoints lines [] lines all (ended lines one.1) in
    let low = (or_parts (nat_lt 100000 rounds) (reaches rounds (records lines)) (or_parts (nat_lt rounds 1) (nat_lt 100000 rounds || reaches rounds (records lines)) last).1).1 in
    good_records_are_recorded net endpoints rounds (records lines) (record_lines endpoints lines [] lines all) low

-- ---- the batches that the lines of a text give

pub record ReadOff (net : Network) (lines : List (Option Line)) : Type 0 where
  pub batches : List DemandBatch
  pub many : length batches ≡ rounds_in_lines lines
  pub few : rounds_in_lines lines ≤ 100000
  pub are : AreRecorded (endpoints_of net) (record { hosts = net.hosts; cores = net.cores }) batches
  pub is : records_of 0 batches ≡ records lines
  pub same : batches_of_records net (rounds_in_lines lines) (records lines) ≡ batches

pub read_off : (net : Network) (lines : List (Option Line)) → first_misplaced (endpoints_of net) lines ≡ None → ReadOff net lines
read_off net lines none =
    let endpoints = endpoints_of net in
    let rounds = rounds_in_lines lines in
    let limits : Limits = record { hosts = net.hosts; cores = net.cores } in
    let one = or_else-none (first_from (is_misplaced endpoints lines) 1 [] lines) (after_last lines) none in
    let stand = all_good (is_misplaced endpoints lines) 1 [] lines one.0 in
    let last = end_line endpoints lines [] lines stand (ended lines one.1) in
    let more = or_parts (nat_lt 100000 rounds) (reaches rounds (records lines)) (or_parts (nat_lt rounds 1) (nat_lt 100000 rounds || reaches rounds (records lines)) last).1 in
    let all = read_all endpoints rounds 0 rounds limits [] [] (records lines) (omega arith) (at_start endpoints) (record_lines endpoints lines [] lines stand) (from_zero (records lines)) more.1 in
    record {
      batches = all.batches;
      many = all.many;
      few = ltb-false 100000 rounds more.0;
      are = all.are;
      is = all.is;
      same = ap (λ n. batches_of_records net n (records lines)) (sym all.many) ∙ (ap (λ xs. batches_of_records net (length all.batches) xs) (sym all.is) ∙ batches_again net endpoints all.batches all.are);
    }
