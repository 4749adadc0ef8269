-- An entry of a flow that stands somewhere in a batch is the batch's entry of it.
use Rattle.std.proofs.Common.{◌≡◌, ℕ, zero, suc, List, [], ◌∷◌, true, false, Some, sym, ap, ◌∙◌, subst}
use Rattle.std.specs.Prelude.{slice_get}
use Rattle.std.proofs.lemmas.Bool.{cond-true, cond-false}
use Rattle.std.proofs.lemmas.Option.{slice_get_within}
use Rattle.list_facts.proofs.Pairs.{AllPairs-tail, AllPairs-head}
use Rattle.greedy_rules.specs.declared.flows.Flow.{Flow}
use Rattle.greedy_rules.specs.declared.flows.Entry.{Entry}
use Rattle.greedy_rules.specs.Flows.{same_flow, flow_below}
use Rattle.greedy_rules.specs.Batches.{IsBatch, entry_of}
use Rattle.greedy_rules.proofs.Facts.{same_flow-refl, flow_below-not_same}
use Rattle.greedy_rules.proofs.BatchLemmas.{Below}
use Rattle.slot_batches.proofs.ReadLemmas.{all_read}

pub entry_read : (batch : List Entry) (flow : Flow) (at : ℕ) (e : Entry) → IsBatch batch → slice_get batch at ≡ Some e → e.flow ≡ flow → entry_of batch flow ≡ Some e
entry_read [] flow at e rising is same = cc
entry_read (x ∷ xs) flow zero e rising is same =
    let it : x ≡ e = cc in
    cond-true (same_flow x.flow flow) (Some x) (entry_of xs flow) (ap (λ (f : Flow). same_flow x.flow f) (sym same ∙ ap (λ (y : Entry). y.flow) (sym it)) ∙ same_flow-refl x.flow)
    ∙ ap (λ (y : Entry). Some y) it
entry_read (x ∷ xs) flow (suc at) e rising is same =
    let head : flow_below x.flow e.flow ≡ true = all_read (λ f. Below x f) xs at e (slice_get_within xs at e is) is (AllPairs-head Below x xs rising) in
    let other : same_flow x.flow flow ≡ false = flow_below-not_same x.flow flow (subst (λ (f : Flow). flow_below x.flow f ≡ true) same head) in
    cond-false (same_flow x.flow flow) (Some x) (entry_of xs flow) other
    ∙ entry_read xs flow at e (AllPairs-tail Below x xs rising) is same
