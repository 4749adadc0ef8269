-- The demand list of each generation, and the batch that is published next in it.
use Rattle.std.proofs.Common.{◌≡◌, ◌≢◌, ◌<◌, ◌≤◌, ◌+◌, ◌-◌, ◌==◌, nat_lt, ◌||◌, not, ℕ, List, [], ◌∷◌, ◌++◌, map, cond, find, Bool, true, false, Option, Some, None, is_some, All, IsTrue, refl, sym, ap, ◌∙◌, subst, inl, inr, arith}
use Rattle.std.specs.Prelude.{IfSome}
use Rattle.std.specs.List.{list_any}
use Rattle.std.proofs.lemmas.Bool.{cases_Bool, cases_eq, cond-true, cond-false, eq-eqb, ne_eqb}
use Rattle.std.proofs.lemmas.List.{map-append, append-nil}
use Rattle.std.proofs.lemmas.List.Elements.{All-nil, All-head, All-tail, All-append, All-weaker}
use Rattle.std.proofs.lemmas.List.Folds.{list_any-append}
use Rattle.greedy_rules.specs.declared.flows.Flow.{Flow}
use Rattle.greedy_rules.specs.declared.flows.Item.{Item}
use Rattle.greedy_rules.specs.declared.flows.Entry.{Entry}
use Rattle.greedy_rules.specs.Flows.{same_flow}
use Rattle.greedy_rules.specs.Batches.{DemandBatch, IsBatch, entry_of}
use Rattle.greedy_rules.specs.Demands.{HasEachFlowOnce, AreBelow, OpensNewFlows, is_listed, need_with, opened}
use Rattle.greedy_rules.specs.Schedule.{first_slot, slots_then, list_then}
use Rattle.greedy_rules.specs.Balance.{Balances, EveryBatchBalances, is_recorded}
use Rattle.greedy_rules.proofs.Facts.{same_flow-true, All-opened}
use Rattle.greedy_rules.specs.Cells.{flow_of}
use Rattle.greedy_rules.proofs.CellLemmas.{rows_rise, all_rows}
use Rattle.list_facts.proofs.Pairs.{AllPairs-nil}
use Rattle.std.proofs.Math.Bool.{or-false}
use Rattle.takeover_history.specs.Events.{PairSetting, Lease, BatchIssue, Fact, Asked, Requested, Granted, Took, Told, Published, Heard, Crashed, Refused, Log}
use Rattle.takeover_history.specs.Batches.{published_batches, batches_only, list_by, slots_by, list_of, published, rise, entry_for, entries_for, one_rack_limits, batch_for, issue_for}
use Rattle.takeover_history.specs.Steps.{IsLog}

-- ---- batches one after the other

pub list_by-append : (b : ℕ) (list : List Item) (xs ys : List (ℕ × DemandBatch)) → list_by b list (xs ++ ys) ≡ list_by b (list_by b list xs) ys
list_by-append b list [] ys = refl
list_by-append b list (x ∷ xs) ys = list_by-append b (list_then b x.0 x.1 list) xs ys

pub recorded-more : (xs : List (ℕ × DemandBatch)) (number : ℕ) (batch : DemandBatch) (flow : Flow)
    → is_recorded (batches_only (xs ++ (number, batch) ∷ [])) flow ≡ (is_recorded (batches_only xs) flow || is_some (entry_of batch.entries flow))
recorded-more xs number batch flow =
    let x : ℕ × DemandBatch = (number, batch) in
    let second : ℕ × DemandBatch → DemandBatch = λ y. y.1 in
    let test : DemandBatch → Bool = λ d. is_some (entry_of d.entries flow) in
    ap (λ (ds : List DemandBatch). list_any test ds) (map-append second xs (x ∷ []))
    ∙ (list_any-append test (map second xs) (batch ∷ []) ∙ ap (λ (b : Bool). list_any test (map second xs) || b) (or-false (test batch)))

-- ---- the entries of the next batch

some_cond : (b : Bool) (e : Entry) (P : Entry → Type 0) → P e → IfSome (cond b (Some e) None) P
some_cond true e P holds = holds
some_cond false e P holds = tt

abbrev pub entry : PairSetting → ℕ → Log → ℕ → ℕ → Entry
entry setting k log src dst = record { flow = flow_of src dst; opens = not (is_recorded (batches_only (published_batches k log)) (flow_of src dst)); clear = false; add = rise setting k log (flow_of src dst) }

each : (setting : PairSetting) (k : ℕ) (log : Log) (P : Entry → Type 0) (src dst : ℕ) → P (entry setting k log src dst) → IfSome (entry_for setting k log src dst) P
each setting k log P src dst holds = some_cond (nat_lt 0 (rise setting k log (flow_of src dst))) (entry setting k log src dst) P holds

pub of : (setting : PairSetting) (k : ℕ) (log : Log) (src dst : ℕ) → IfSome (entry_for setting k log src dst) (λ e. e.flow ≡ flow_of src dst)
of setting k log src dst = each setting k log (λ (e : Entry). e.flow ≡ flow_of src dst) src dst refl

pub all : (setting : PairSetting) (k : ℕ) (log : Log) (P : Entry → Type 0) → ((src dst : ℕ) → src < setting.endpoints → dst < setting.endpoints → P (entry setting k log src dst)) → All P (entries_for setting k log)
all setting k log P holds =
    all_rows (entry_for setting k log) (of setting k log) P 0 setting.endpoints setting.endpoints
    (λ src dst low high within. each setting k log P src dst (holds src dst (omega arith) within))

pub rises : (setting : PairSetting) (k : ℕ) (log : Log) → IsBatch (entries_for setting k log)
rises setting k log = rows_rise (entry_for setting k log) (of setting k log) 0 setting.endpoints setting.endpoints

-- what an entry adds
adds-find : (rises_by : Flow → ℕ) (flow : Flow) (need : ℕ) (es : List Entry) → All (λ e. (e.add ≡ rises_by e.flow) × (e.clear ≡ false)) es → need_with (entry_of es flow) need ≤ need + rises_by flow
adds-find rises_by flow need [] hold = omega arith
adds-find rises_by flow need (e ∷ es) hold =
    let P : Entry → Type 0 = λ x. (x.add ≡ rises_by x.flow) × (x.clear ≡ false) in
    let here = All-head P e es hold in
    elim (cases_Bool (same_flow e.flow flow)) [
      | inl same ↦
          let by : e.add ≡ rises_by flow = here.0 ∙ ap rises_by (same_flow-true e.flow flow same) in
          let kept : cond e.clear 0 need ≡ need = cond-false e.clear 0 need here.1 in
          rw same (omega arith)
      | inr other ↦ rw other (adds-find rises_by flow need es (All-tail P e es hold))
    ]

pub adds : (setting : PairSetting) (k : ℕ) (log : Log) (flow : Flow) (need : ℕ) → need_with (entry_of (entries_for setting k log) flow) need ≤ need + rise setting k log flow
adds setting k log flow need =
    adds-find (rise setting k log) flow need (entries_for setting k log) (all setting k log (λ (e : Entry). (e.add ≡ rise setting k log e.flow) × (e.clear ≡ false)) (λ src dst low high. (refl, refl)))

-- ---- the list of each generation

pub record IsListOf (setting : PairSetting) (k : ℕ) (log : Log) : Type 0 where
  pub once : HasEachFlowOnce (list_of setting k log)
  pub below : AreBelow setting.endpoints (list_of setting k log)
  pub listed : (flow : Flow) → is_listed (list_of setting k log) flow ≡ is_recorded (batches_only (published_batches k log)) flow

module _ (balances : EveryBatchBalances) where
  pub applies : (setting : PairSetting) (k : ℕ) (log : Log) (number : ℕ) → IsListOf setting k log
      → Balances setting.endpoints (entries_for setting k log) (list_of setting k log) (list_then setting.b number (batch_for setting k log) (list_of setting k log)) (slots_then setting.b number (batch_for setting k log) (list_of setting k log))
  applies setting k log number is =
      let list : List Item = list_of setting k log in
      let entries : List Entry = entries_for setting k log in
      let P : Item → Type 0 = λ item. (item.flow.src < setting.endpoints) × (item.flow.dst < setting.endpoints) in
      let Q : Flow → Type 0 = λ flow. (flow.src < setting.endpoints) × (flow.dst < setting.endpoints) in
      balances (one_rack_limits setting) setting.endpoints (first_slot setting.b number) setting.b entries list (rises setting k log)
      (all setting k log (λ (e : Entry). e.opens ≡ not (is_listed list e.flow)) (λ src dst low high. ap not (sym (is.listed (flow_of src dst)))))
      is.once
      (All-append P list (opened entries) is.below (All-opened Q entries (all setting k log (λ (e : Entry). IsTrue e.opens → Q e.flow) (λ src dst low high yes. (low, high)))))

  more : (setting : PairSetting) (k : ℕ) (log : Log) (number : ℕ) → IsListOf setting k log → (xs : List (ℕ × DemandBatch)) → xs ≡ published_batches k log ++ (number, batch_for setting k log) ∷ []
      → HasEachFlowOnce (list_by setting.b [] xs) × AreBelow setting.endpoints (list_by setting.b [] xs) × ((flow : Flow) → is_listed (list_by setting.b [] xs) flow ≡ is_recorded (batches_only xs) flow)
  more setting k log number is xs are =
      let batch : DemandBatch = batch_for setting k log in
      let list : List Item = list_of setting k log in
      let then : List Item = list_then setting.b number batch list in
      let b = applies setting k log number is in
      let left : list_by setting.b [] xs ≡ then = ap (λ (ys : List (ℕ × DemandBatch)). list_by setting.b [] ys) are ∙ list_by-append setting.b [] (published_batches k log) ((number, batch) ∷ []) in (
        subst HasEachFlowOnce (sym left) b.once,
        subst (AreBelow setting.endpoints) (sym left) b.in_range,
        λ flow.
            ap (λ (l : List Item). is_listed l flow) left
            ∙ (b.listed flow
            ∙ (ap (λ (p : Bool). p || is_some (entry_of batch.entries flow)) (is.listed flow)
            ∙ (sym (recorded-more (published_batches k log) number batch flow)
            ∙ ap (λ (ys : List (ℕ × DemandBatch)). is_recorded (batches_only ys) flow) (sym are)))),
      )

  issues-next : (setting : PairSetting) (k : ℕ) (log : Log) (lease : Lease) → IsListOf setting k log → IsListOf setting k (Published (issue_for setting log lease) ∷ log)
  issues-next setting k log lease is = elim (cases_eq lease.generation k) [
    | inl here ↦
        let number : ℕ = (issue_for setting log lease).number in
        let same : published_batches k (Published (issue_for setting log lease) ∷ log) ≡ published_batches k log ++ (number, batch_for setting k log) ∷ [] =
        ap (λ (ys : List (ℕ × DemandBatch)). published_batches k log ++ ys)
        (cond-true (lease.generation == k) ((number, batch_for setting lease.generation log) ∷ []) [] (eq-eqb lease.generation k here)
        ∙ ap (λ (n : ℕ). (number, batch_for setting n log) ∷ []) here) in
        let now = more setting k log number is (published_batches k (Published (issue_for setting log lease) ∷ log)) same in
        record { once = now.0; below = now.1; listed = now.2 }
    | inr there ↦
        let number : ℕ = (issue_for setting log lease).number in
        let same : published_batches k (Published (issue_for setting log lease) ∷ log) ≡ published_batches k log =
        ap (λ (ys : List (ℕ × DemandBatch)). published_batches k log ++ ys)
        (cond-false (lease.generation == k) ((number, batch_for setting lease.generation log) ∷ []) [] (ne_eqb lease.generation k there))
        ∙ append-nil (published_batches k log) in
        let P : List (ℕ × DemandBatch) → Type 0 = λ ys. HasEachFlowOnce (list_by setting.b [] ys) × AreBelow setting.endpoints (list_by setting.b [] ys) × ((flow : Flow) → is_listed (list_by setting.b [] ys) flow ≡ is_recorded (batches_only ys) flow) in
        let now = subst P (sym same) (is.once, is.below, is.listed) in
        record { once = now.0; below = now.1; listed = now.2 }
  ]

  pub lists : (setting : PairSetting) (log : Log) → IsLog setting log → (k : ℕ) → IsListOf setting k log
  lists setting [] is k = record { once = AllPairs-nil (λ (i j : Item). i.flow ≢ j.flow); below = All-nil (λ (item : Item). (item.flow.src < setting.endpoints) × (item.flow.dst < setting.endpoints)); listed = λ flow. refl }
  lists setting (Asked flow slots ∷ log) is k = let b = lists setting log is.1 k in record { once = b.once; below = b.below; listed = b.listed }
  lists setting (Requested holder ∷ log) is k = let b = lists setting log is.1 k in record { once = b.once; below = b.below; listed = b.listed }
  lists setting (Granted lease ∷ log) is k = let b = lists setting log is.1 k in record { once = b.once; below = b.below; listed = b.listed }
  lists setting (Took lease ∷ log) is k = let b = lists setting log is.1 k in record { once = b.once; below = b.below; listed = b.listed }
  lists setting (Told src generation ∷ log) is k = let b = lists setting log is.1 k in record { once = b.once; below = b.below; listed = b.listed }
  lists setting (Published issue ∷ log) is k =
      subst (λ (i : BatchIssue). IsListOf setting k (Published i ∷ log)) (sym is.0.2) (issues-next setting k log issue.lease (lists setting log is.1 k))
  lists setting (Heard src issue ∷ log) is k = let b = lists setting log is.1 k in record { once = b.once; below = b.below; listed = b.listed }
  lists setting (Crashed node ∷ log) is k = let b = lists setting log is.1 k in record { once = b.once; below = b.below; listed = b.listed }
  lists setting (Refused why ∷ log) is k = let b = lists setting log is.1 k in record { once = b.once; below = b.below; listed = b.listed }
