-- The records of recorded batches are good, one by one.
use Rattle.std.proofs.Common.{◌≡◌, ◌≢◌, ◌<◌, ◌≤◌, ◌+◌, ◌==◌, nat_lt, nat_le, ◌&&◌, ◌||◌, not, ℕ, List, [], ◌∷◌, ◌++◌, map, length, cond, Bool, true, false, Some, None, is_some, All, IsTrue, refl, sym, ap, ◌∙◌, subst, inl, inr, arith}
use Rattle.std.specs.List.{list_any}
use Rattle.std.specs.Option.{option_or}
use Rattle.std.proofs.lemmas.Bool.{cases_Bool, cond-true, cond-false, eq-eqb, ne_eqb, lt-ltb, le-ltb, lt-leb, and_from, or_from, or_left, or_right, or_cases, false≢true}
use Rattle.std.proofs.lemmas.List.{append_assoc, append-nil}
use Rattle.std.proofs.lemmas.List.Elements.{All-nil, All-cons, All-head, All-tail}
use Rattle.std.proofs.lemmas.List.Folds.{list_any-append, find-append}
use Rattle.greedy_rules.specs.declared.flows.Flow.{Flow}
use Rattle.greedy_rules.specs.declared.flows.Entry.{Entry}
use Rattle.greedy_rules.specs.declared.limits.Limits.{Limits}
use Rattle.greedy_rules.specs.Flows.{same_flow, flow_below}
use Rattle.greedy_rules.specs.Batches.{DemandBatch, IsBatch, entry_of}
use Rattle.greedy_rules.specs.Demands.{need_with}
use Rattle.greedy_rules.specs.Balance.{is_recorded}
use Rattle.greedy_rules.specs.Recorded.{demand_of, IsRecordedAfter, AreRecordedAfter}
use Rattle.greedy_rules.proofs.Facts.{same_flow-true, same_flow-refl, flow_below-not_same}
use Rattle.greedy_rules.proofs.RecordedLemmas.{demand_more}
use Rattle.list_facts.proofs.Pairs.{AllPairs-head, AllPairs-tail}
use Rattle.list_facts.proofs.Options.{option_or-none}
use Rattle.schedule_audit.specs.Lines.{Recorded, has_record}
use Rattle.schedule_audit.specs.Misplaced.{most_added, is_above, added_since, is_bad_record, is_bad_end}
use Rattle.schedule_audit.specs.Laws.{GoodRecords}
use Rattle.schedule_audit.specs.Texts.{record_of, records_of, Says, FewAfter}

-- ---- what stands before a record: the records of a front of batches, and of the first entries of the next

pub record Before (k : ℕ) (front : List DemandBatch) (es : List Entry) (before : List Recorded) : Type 0 where
  pub had : (flow : Flow) → is_recorded front flow ≡ true → has_record flow before ≡ true
  pub mine : (flow : Flow) → is_some (entry_of es flow) ≡ true → has_record flow before ≡ true
  pub added : (flow : Flow) → added_since flow before ≡ need_with (entry_of es flow) (demand_of front flow)
  pub above : (r : Recorded) → r.batch ≡ k → All (λ e. flow_below e.flow r.flow ≡ true) es → is_above before r ≡ true
  pub next : (r : Recorded) → k < r.batch → is_above before r ≡ true

pub start : Before 0 [] [] []
start = record {
  had = λ flow never. absurd (false≢true never);
  mine = λ flow never. absurd (false≢true never);
  added = λ flow. refl;
  above = λ r at all. refl;
  next = λ r later. refl;
}

-- no earlier entry has the flow
pub none_before : (es : List Entry) (flow : Flow) → All (λ x. flow_below x.flow flow ≡ true) es → entry_of es flow ≡ None
none_before [] flow all = refl
none_before (x ∷ es) flow all =
    let P : Entry → Type 0 = λ y. flow_below y.flow flow ≡ true in
    cond-false (same_flow x.flow flow) (Some x) (entry_of es flow) (flow_below-not_same x.flow flow (All-head P x es all)) ∙ none_before es flow (All-tail P x es all)

entry-push : (es : List Entry) (e : Entry) (flow : Flow) → entry_of (es ++ e ∷ []) flow ≡ option_or (entry_of es flow) (cond (same_flow e.flow flow) (Some e) None)
entry-push es e flow = find-append (λ (x : Entry). same_flow x.flow flow) es (e ∷ [])

entry-other : (es : List Entry) (e : Entry) (flow : Flow) → same_flow e.flow flow ≡ false → entry_of (es ++ e ∷ []) flow ≡ entry_of es flow
entry-other es e flow other = entry-push es e flow ∙ (ap (λ o. option_or (entry_of es flow) o) (cond-false (same_flow e.flow flow) (Some e) None other) ∙ option_or-none (entry_of es flow))

entry-here : (es rest : List Entry) (e : Entry) → All (λ x. flow_below x.flow e.flow ≡ true) es → entry_of (es ++ e ∷ rest) e.flow ≡ Some e
entry-here es rest e below =
    find-append (λ (x : Entry). same_flow x.flow e.flow) es (e ∷ rest)
    ∙ (ap (λ o. option_or o (entry_of (e ∷ rest) e.flow)) (none_before es e.flow below)
    ∙ cond-true (same_flow e.flow e.flow) (Some e) (entry_of rest e.flow) (same_flow-refl e.flow))

same_sum : (c : Bool) (add need : ℕ) → cond c add (add + need) ≡ cond c 0 need + add
same_sum true add need = omega arith
same_sum false add need = omega arith

last_of : (P : Entry → Type 0) (es : List Entry) (e : Entry) (rest : List Entry) → All P (es ++ e ∷ rest) → P e
last_of P [] e rest all = All-head P e rest all
last_of P (x ∷ es) e rest all = last_of P es e rest (All-tail P x (es ++ e ∷ rest) all)

pub more : (k : ℕ) (front : List DemandBatch) (es : List Entry) (before : List Recorded) (e : Entry) → All (λ x. flow_below x.flow e.flow ≡ true) es → Before k front es before → Before k front (es ++ e ∷ []) (record_of k e ∷ before)
more k front es before e below b = record {
  had = λ flow yes. or_right (same_flow e.flow flow) (has_record flow before) (b.had flow yes);
  mine = λ flow yes. elim (cases_Bool (same_flow e.flow flow)) [
    | inl here ↦ or_left (same_flow e.flow flow) (has_record flow before) here
    | inr other ↦ or_right (same_flow e.flow flow) (has_record flow before) (b.mine flow (ap is_some (sym (entry-other es e flow other)) ∙ yes))
  ];
  added = λ flow. elim (cases_Bool (same_flow e.flow flow)) [
    | inl here ↦
        let same : e.flow ≡ flow = same_flow-true e.flow flow here in
        let d : ℕ = demand_of front flow in
        let none : entry_of es flow ≡ None = subst (λ (f : Flow). entry_of es f ≡ None) same (none_before es e.flow below) in
        let it : entry_of (es ++ e ∷ []) flow ≡ Some e = subst (λ (f : Flow). entry_of (es ++ e ∷ []) f ≡ Some e) same (entry-here es [] e below) in
        let so_far : added_since flow before ≡ d = b.added flow ∙ ap (λ o. need_with o d) none in
        cond-true (same_flow e.flow flow) (cond e.clear e.add (e.add + added_since flow before)) (added_since flow before) here
        ∙ (ap (λ n. cond e.clear e.add (e.add + n)) so_far
        ∙ (same_sum e.clear e.add d ∙ sym (ap (λ o. need_with o d) it)))
    | inr other ↦
        cond-false (same_flow e.flow flow) (cond e.clear e.add (e.add + added_since flow before)) (added_since flow before) other
        ∙ (b.added flow ∙ ap (λ o. need_with o (demand_of front flow)) (sym (entry-other es e flow other)))
  ];
  above = λ r at all.
      or_right (nat_lt k r.batch) ((k == r.batch) && flow_below e.flow r.flow)
      (and_from (k == r.batch) (flow_below e.flow r.flow) (eq-eqb k r.batch (sym at)) (last_of (λ (x : Entry). flow_below x.flow r.flow ≡ true) es e [] all));
  next = λ r later. or_left (nat_lt k r.batch) ((k == r.batch) && flow_below e.flow r.flow) (lt-ltb k r.batch later);
}

pub done : (k : ℕ) (front : List DemandBatch) (batch : DemandBatch) (before : List Recorded) → Before k front batch.entries before → Before (k + 1) (front ++ batch ∷ []) [] before
done k front batch before b = record {
  had = λ flow yes.
      elim (or_cases (is_recorded front flow) (list_any (λ (x : DemandBatch). is_some (entry_of x.entries flow)) (batch ∷ [])) (sym (list_any-append (λ (x : DemandBatch). is_some (entry_of x.entries flow)) front (batch ∷ [])) ∙ yes)) [
        | inl front_has ↦ b.had flow front_has
        | inr batch_has ↦ elim (or_cases (is_some (entry_of batch.entries flow)) false batch_has) [
          | inl has ↦ b.mine flow has
          | inr never ↦ absurd (false≢true never)
        ]
      ];
  mine = λ flow never. absurd (false≢true never);
  added = λ flow. b.added flow ∙ sym (demand_more front batch flow 0);
  above = λ r at all. b.next r (omega arith);
  next = λ r later. b.next r (omega arith);
}

-- ---- each record is good

pub pairs_before : (es : List Entry) (e : Entry) (rest : List Entry) → IsBatch (es ++ e ∷ rest) → All (λ x. flow_below x.flow e.flow ≡ true) es
pairs_before [] e rest pairs = All-nil (λ (x : Entry). flow_below x.flow e.flow ≡ true)
pairs_before (x ∷ es) e rest pairs =
    let R : Entry → Entry → Type 0 = λ a b. IsTrue (flow_below a.flow b.flow) in
    All-cons (λ (y : Entry). flow_below y.flow e.flow ≡ true) x es
    (last_of (R x) es e rest (AllPairs-head R x (es ++ e ∷ rest) pairs))
    (pairs_before es e rest (AllPairs-tail R x (es ++ e ∷ rest) pairs))

clears_known : (c h : Bool) → (c ≡ true → h ≡ true) → (c && not h) ≡ false
clears_known true h known = ap not (known refl)
clears_known false h known = refl

module _ (endpoints : ℕ) (limits : Limits) (k : ℕ) (front : List DemandBatch) (batch : DemandBatch) (is : IsRecordedAfter endpoints limits front batch)
    (say : All Says batch.entries) (few : (flow : Flow) → need_with (entry_of batch.entries flow) (demand_of front flow) ≤ most_added) where
  good_one : (es rest : List Entry) (e : Entry) (before : List Recorded) → es ++ e ∷ rest ≡ batch.entries → Before k front es before → is_bad_record endpoints before (record_of k e) ≡ false
  good_one es rest e before whole b =
      let r : Recorded = record_of k e in
      let below : All (λ x. flow_below x.flow e.flow ≡ true) es = pairs_before es e rest (subst IsBatch (sym whole) is.rises) in
      let range = last_of (λ (x : Entry). (x.flow.src < endpoints) × (x.flow.dst < endpoints)) es e rest (subst (All (λ (x : Entry). (x.flow.src < endpoints) × (x.flow.dst < endpoints))) (sym whole) is.in_range) in
      let apart = last_of (λ (x : Entry). x.flow.src ≢ x.flow.dst) es e rest (subst (All (λ (x : Entry). x.flow.src ≢ x.flow.dst)) (sym whole) is.apart) in
      let clears = last_of (λ (x : Entry). IsTrue x.clear → IsTrue (is_recorded front x.flow)) es e rest (subst (All (λ (x : Entry). IsTrue x.clear → IsTrue (is_recorded front x.flow))) (sym whole) is.clears) in
      let says = last_of Says es e rest (subst (All Says) (sym whole) say) in
      let now = more k front es before e below b in
      let it : entry_of batch.entries e.flow ≡ entry_of (es ++ e ∷ []) e.flow = ap (λ xs. entry_of xs e.flow) (sym whole) ∙ (entry-here es rest e below ∙ sym (entry-here es [] e below)) in
      let most : added_since e.flow (r ∷ before) ≤ most_added = subst (λ (n : ℕ). n ≤ most_added) (ap (λ o. need_with o (demand_of front e.flow)) it ∙ sym (now.added e.flow)) (few e.flow) in
      let a = not (is_above before r) in
      let s = nat_le endpoints e.flow.src in
      let d = nat_le endpoints e.flow.dst in
      let f = e.flow.src == e.flow.dst in
      let w = (e.add == 0) && not e.clear in
      let c = e.clear && not (has_record e.flow before) in
      let m = nat_lt most_added (added_since e.flow (r ∷ before)) in
      or_from a ((s || (d || f)) || (w || (c || m))) (ap not (b.above r refl below))
      (or_from (s || (d || f)) (w || (c || m))
      (or_from s (d || f) (lt-leb endpoints e.flow.src range.0) (or_from d f (lt-leb endpoints e.flow.dst range.1) (ne_eqb e.flow.src e.flow.dst apart)))
      (or_from w (c || m) says
      (or_from c m (clears_known e.clear (has_record e.flow before) (λ yes. b.had e.flow (clears yes))) (le-ltb most_added (added_since e.flow (r ∷ before)) most))))

  pub good_batch : (X : List Recorded) → ((before : List Recorded) → Before k front batch.entries before → GoodRecords endpoints before X)
      → (es todo : List Entry) (before : List Recorded) → es ++ todo ≡ batch.entries → Before k front es before → GoodRecords endpoints before (map (record_of k) todo ++ X)
  good_batch X then es [] before whole b = then before (subst (λ (xs : List Entry). Before k front xs before) (sym (append-nil es) ∙ whole) b)
  good_batch X then es (e ∷ todo) before whole b =
      let below : All (λ x. flow_below x.flow e.flow ≡ true) es = pairs_before es e todo (subst IsBatch (sym whole) is.rises) in (
        good_one es todo e before whole b,
        good_batch X then (es ++ e ∷ []) todo (record_of k e ∷ before) (append_assoc es (e ∷ []) todo ∙ whole) (more k front es before e below b),
      )

good_after : (endpoints : ℕ) (limits : Limits) (k : ℕ) (front later : List DemandBatch) (before : List Recorded) → AreRecordedAfter endpoints limits front later → All (λ batch. All Says batch.entries) later → FewAfter front later
    → Before k front [] before → GoodRecords endpoints before (records_of k later)
good_after endpoints limits k front [] before are say few b = tt
good_after endpoints limits k front (batch ∷ later) before are say few b =
    let P : DemandBatch → Type 0 = λ x. All Says x.entries in
    good_batch endpoints limits k front batch are.0 (All-head P batch later say) few.0 (records_of (k + 1) later)
    (λ before' b'. good_after endpoints limits (k + 1) (front ++ batch ∷ []) later before' are.1 (All-tail P batch later say) few.1 (done k front batch before' b'))
    [] batch.entries before refl b

pub good_records : (endpoints : ℕ) (limits : Limits) (batches : List DemandBatch) → AreRecordedAfter endpoints limits [] batches → All (λ batch. All Says batch.entries) batches → FewAfter [] batches
    → GoodRecords endpoints [] (records_of 0 batches)
good_records endpoints limits batches are say few = good_after endpoints limits 0 [] batches [] are say few start

-- ---- the end

low_one : (n k : ℕ) (es : List Entry) → k < n → list_any (λ (r : Recorded). nat_le n r.batch) (map (record_of k) es) ≡ false
low_one n k [] lt = refl
low_one n k (e ∷ es) lt = rw (lt-leb n k lt) (low_one n k es lt)

low_all : (n k : ℕ) (batches : List DemandBatch) → k + length batches ≤ n → list_any (λ (r : Recorded). nat_le n r.batch) (records_of k batches) ≡ false
low_all n k [] le = refl
low_all n k (batch ∷ batches) le =
    let t : Recorded → Bool = λ r. nat_le n r.batch in
    list_any-append t (map (record_of k) batch.entries) (records_of (k + 1) batches)
    ∙ or_from (list_any t (map (record_of k) batch.entries)) (list_any t (records_of (k + 1) batches)) (low_one n k batch.entries (omega arith)) (low_all n (k + 1) batches (omega arith))

pub good_end : (batches : List DemandBatch) → 1 ≤ length batches → length batches ≤ 100000 → is_bad_end (records_of 0 batches) (length batches) ≡ false
good_end batches some most =
    let n : ℕ = length batches in
    let t : Recorded → Bool = λ r. nat_le n r.batch in
    or_from (nat_lt n 1) (nat_lt 100000 n || list_any t (records_of 0 batches)) (le-ltb n 1 some)
    (or_from (nat_lt 100000 n) (list_any t (records_of 0 batches)) (le-ltb 100000 n most) (low_all n 0 batches (omega arith)))
