-- The entry of a flow in a batch: what a search by halving finds is what a walk finds.
use Rattle.std.proofs.Common.{◌≡◌, ◌<◌, ℕ, zero, suc, List, [], ◌∷◌, length, get_or, Bool, true, false, Some, None, Less, Equal, Greater, All, IsTrue, refl, sym, ap, ◌∙◌, subst, arith, inl, inr}
use Rattle.std.specs.List.Sorted.{IsNonDecreasingBy, IsPartitionPoint}
use Rattle.std.specs.Ordering.{ordering_index}
use Rattle.std.proofs.lemmas.Bool.{cond-true, cond-false, false_from_ne_true, cases_lt}
use Rattle.greedy_rules.specs.declared.flows.Flow.{Flow}
use Rattle.greedy_rules.specs.declared.flows.Entry.{Entry}
use Rattle.greedy_rules.specs.Flows.{same_flow, flow_below}
use Rattle.greedy_rules.specs.Batches.{IsBatch, entry_of}
use Rattle.greedy_rules.proofs.FlowOrder.{flow_cmp, same_flow-true, same_flow-cmp, same_flow-not_cmp, flow_below-not_same, rank_rises}
use Rattle.greedy_rules.proofs.BatchLemmas.{Below}
use Rattle.list_facts.proofs.Pairs.{AllPairs-tail, AllPairs-head}

abbrev pub is_of : Flow → Entry → Bool
is_of flow entry = same_flow entry.flow flow

pub entry_of-at : (batch : List Entry) (flow : Flow) (at : ℕ) (e : Entry) → IsBatch batch → at < length batch → e ≡ get_or batch at e → is_of flow e ≡ true → Some e ≡ entry_of batch flow
entry_of-at [] flow at e rising below is same = absurd (omega arith)
entry_of-at (x ∷ xs) flow zero e rising below is same =
    ap (λ (y : Entry). Some y) is ∙ sym (cond-true (is_of flow x) (Some x) (entry_of xs flow) (ap (is_of flow) (sym is) ∙ same))
entry_of-at (x ∷ xs) flow (suc at) e rising below is same =
    let head : IsTrue (flow_below x.flow (get_or xs at e).flow) = AllPairs-head Below x xs rising at e (omega arith) in
    let same' : e.flow ≡ flow = same_flow-true e.flow flow same in
    let to : (get_or xs at e).flow ≡ flow = ap (λ (y : Entry). y.flow) (sym is) ∙ same' in
    let P : Flow → Type 0 = λ f. flow_below x.flow f ≡ true in
    let other : is_of flow x ≡ false = flow_below-not_same x.flow flow (subst P to head) in
    entry_of-at xs flow at e (AllPairs-tail Below x xs rising) (omega arith) is same
    ∙ sym (cond-false (is_of flow x) (Some x) (entry_of xs flow) other)

pub entry_of-nowhere : (batch : List Entry) (flow : Flow) → All (λ e. is_of flow e ≡ false) batch → None ≡ entry_of batch flow
entry_of-nowhere [] flow none = refl
entry_of-nowhere (x ∷ xs) flow none =
    entry_of-nowhere xs flow (λ k d below. none (suc k) d (omega arith))
    ∙ sym (cond-false (is_of flow x) (Some x) (entry_of xs flow) (none 0 x (omega arith)))

-- what `binary_search_by_key` asks of a batch, and what it then says where it finds nothing
pub batch_rises : (batch : List Entry) (flow : Flow) → IsBatch batch → IsNonDecreasingBy (λ e. ordering_index (flow_cmp e.flow flow)) batch
batch_rises batch flow rising i j d le below =
    elim (cases_lt i j) [
      | inl lt ↦ rank_rises (get_or batch i d).flow (get_or batch j d).flow flow (rising i j d lt below)
      | inr ge ↦ let same : i ≡ j = omega arith in rw same (omega arith)
    ]

pub not_partitioned : (batch : List Entry) (flow : Flow) (i : ℕ) → IsPartitionPoint (λ e. flow_cmp e.flow flow ≡ Less) (λ e. flow_cmp e.flow flow ≡ Greater) batch i → None ≡ entry_of batch flow
not_partitioned batch flow i parts =
    entry_of-nowhere batch flow (λ k d below. false_from_ne_true _ (λ same.
    let equal : flow_cmp (get_or batch k d).flow flow ≡ Equal = same_flow-not_cmp (get_or batch k d).flow flow same in
    elim (cases_lt k i) [
      | inl lt ↦ let less : flow_cmp (get_or batch k d).flow flow ≡ Less = parts.0 k d (omega arith) lt in cc
      | inr ge ↦ let more : flow_cmp (get_or batch k d).flow flow ≡ Greater = parts.1 k d ge below in cc
    ]))

pub found_entry : (batch : List Entry) (flow : Flow) (at : ℕ) (e : Entry) → IsBatch batch → at < length batch → e ≡ get_or batch at e → ((d : Entry) → flow_cmp (get_or batch at d).flow flow ≡ Equal) → Some e ≡ entry_of batch flow
found_entry batch flow at e rising below is equal =
    let same : is_of flow (get_or batch at e) ≡ true = same_flow-cmp (get_or batch at e).flow flow (equal e) in
    entry_of-at batch flow at e rising below is (ap (is_of flow) is ∙ same)
