-- A batch stays one where an entry above its last is appended.
use Rattle.std.proofs.Common.{suc, List, [], ◌∷◌, ◌++◌, All, IsTrue, arith}
use Rattle.std.proofs.lemmas.List.Elements.{All-cons, All-push}
use Rattle.greedy_rules.specs.declared.flows.Flow.{Flow}
use Rattle.greedy_rules.specs.declared.flows.Entry.{Entry}
use Rattle.greedy_rules.specs.Flows.{flow_below}
use Rattle.greedy_rules.specs.Batches.{IsBatch, IsAboveLast}
use Rattle.greedy_rules.proofs.FlowOrder.{flow_below-trans}
use Rattle.list_facts.proofs.Pairs.{AllPairs-nil, AllPairs-cons, AllPairs-head, AllPairs-tail}
use Rattle.greedy_rules.specs.Batches.{DemandBatch}

abbrev pub Below : Entry → Entry → Type 0
Below e f = IsTrue (flow_below e.flow f.flow)

-- above the last is above all
above_all : (batch : List Entry) (flow : Flow) → IsBatch batch → IsAboveLast batch flow → All (λ e. IsTrue (flow_below e.flow flow)) batch
above_all [] flow rising above = λ k d below. absurd (omega arith)
above_all (x ∷ []) flow rising above = All-cons (λ e. IsTrue (flow_below e.flow flow)) x [] above (λ k d below. absurd (omega arith))
above_all (x ∷ (y ∷ ys)) flow rising above =
    let tail = above_all (y ∷ ys) flow (AllPairs-tail Below x (y ∷ ys) rising) above in
    All-cons (λ e. IsTrue (flow_below e.flow flow)) x (y ∷ ys) (flow_below-trans x.flow y.flow flow (AllPairs-head Below x (y ∷ ys) rising 0 y (omega arith)) (tail 0 y (omega arith))) tail

pairs_push : (batch : List Entry) (entry : Entry) → IsBatch batch → All (λ e. IsTrue (flow_below e.flow entry.flow)) batch → IsBatch (batch ++ entry ∷ [])
pairs_push [] entry rising above = AllPairs-cons Below entry [] (λ k d below. absurd (omega arith)) (AllPairs-nil Below)
pairs_push (x ∷ xs) entry rising above =
    AllPairs-cons Below x (xs ++ entry ∷ []) (All-push (Below x) xs entry (AllPairs-head Below x xs rising) (above 0 x (omega arith)))
    (pairs_push xs entry (AllPairs-tail Below x xs rising) (λ k d below. above (suc k) d (omega arith)))

pub IsBatch-push : (batch : List Entry) (entry : Entry) → IsBatch batch → IsAboveLast batch entry.flow → IsBatch (batch ++ entry ∷ [])
IsBatch-push batch entry rising above = pairs_push batch entry rising (above_all batch entry.flow rising above)

abbrev pub no_batch : DemandBatch
no_batch = record { entries = []; limits = record { hosts = 0; cores = 0 } }
