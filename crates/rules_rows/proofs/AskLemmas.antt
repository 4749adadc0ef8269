-- A window whose first batch alone has entries, each of which opens a flow of one slot.
use Rattle.std.proofs.Common.{◌≡◌, ◌<◌, ◌≤◌, ◌+◌, ℕ, List, [], ◌∷◌, ◌++◌, Option, Some, nat_lt, ◌==◌, ◌&&◌, All, refl, sym, ap, ◌∙◌, subst, arith, inl, inr}
use Rattle.std.specs.Prelude.{IsTrue}
use Rattle.std.proofs.lemmas.Bool.{cases_Bool, cond-true, cond-false, or_left, lt-ltb, true≢false}
use Rattle.std.proofs.lemmas.List.Elements.{All-head, All-tail}
use Rattle.greedy_rules.specs.declared.flows.Flow.{Flow}
use Rattle.greedy_rules.specs.declared.flows.Item.{Item}
use Rattle.greedy_rules.specs.declared.flows.Entry.{Entry}
use Rattle.greedy_rules.specs.declared.limits.Limits.{Limits}
use Rattle.greedy_rules.specs.Flows.{same_flow, flow_below}
use Rattle.greedy_rules.specs.Batches.{DemandBatch, IsBatch, IsAboveLast, entry_of}
use Rattle.greedy_rules.specs.Demands.{need_with}
use Rattle.greedy_rules.specs.Recorded.{demand_through, demand_of, IsRecordedAfter, AreRecorded, MayBeApplied, RecordedBatchesMayBeApplied}
use Rattle.slot_batches.specs.NextList.{IsListBefore}
use Rattle.rules_rows.specs.Asks.{OpensOneSlot}

-- the last entry is the one that was pushed
pub above_pushed : (entries : List Entry) (entry : Entry) (flow : Flow) → IsTrue (flow_below entry.flow flow) → IsAboveLast (entries ++ entry ∷ []) flow
above_pushed [] entry flow above = above
above_pushed (e ∷ []) entry flow above = above
above_pushed (e ∷ (f ∷ entries)) entry flow above = above_pushed (f ∷ entries) entry flow above

one_slot : (entry : Entry) (need : ℕ) → OpensOneSlot entry → need_with (Some entry) need ≡ need + 1
one_slot entry need opens = omega (arith, cond-false entry.clear 0 need opens.4, opens.5)

-- they add one slot at most
pub adds_one : (entries : List Entry) (flow : Flow) (need : ℕ) → All OpensOneSlot entries → need_with (entry_of entries flow) need ≤ need + 1
adds_one [] flow need all = omega arith
adds_one (e ∷ entries) flow need all = elim (cases_Bool (same_flow e.flow flow)) [
  | inl same ↦
      let it = ap (λ (o : Option Entry). need_with o need) (cond-true (same_flow e.flow flow) (Some e) (entry_of entries flow) same) in
      omega (arith, it, one_slot e need (All-head OpensOneSlot e entries all))
  | inr other ↦
      let it = ap (λ (o : Option Entry). need_with o need) (cond-false (same_flow e.flow flow) (Some e) (entry_of entries flow) other) in
      omega (arith, it, adds_one entries flow need (All-tail OpensOneSlot e entries all))
]

-- so they are recorded
pub asks_recorded : (limits : Limits) (batch : DemandBatch) → batch.limits ≡ limits → IsBatch batch.entries → All OpensOneSlot batch.entries → IsRecordedAfter 132 limits [] batch
asks_recorded limits batch same rises all = record {
  same_limits = same;
  rises = rises;
  in_range = λ k d below. let it = all k d below in (it.1, omega (arith, it.2));
  apart = λ k d below q. let it = all k d below in omega (arith, q, it.0, it.2);
  opens = λ k d below. (all k d below).3;
  clears = λ k d below clear. absurd (let it = all k d below in true≢false (sym clear ∙ it.4));
  fits = λ flow. omega (arith, adds_one batch.entries flow 0 all);
}

-- a batch without entries after others
pub none_recorded : (limits : Limits) (earlier : List DemandBatch) → ((flow : Flow) → demand_of earlier flow ≤ 1) → IsRecordedAfter 132 limits earlier (record { entries = []; limits = limits })
none_recorded limits earlier few = record {
  same_limits = refl;
  rises = λ i j d less below. absurd (omega (arith, below));
  in_range = λ k d below. absurd (omega (arith, below));
  apart = λ k d below. absurd (omega (arith, below));
  opens = λ k d below. absurd (omega (arith, below));
  clears = λ k d below. absurd (omega (arith, below));
  fits = λ flow. omega (arith, few flow);
}

-- it adds no demand
pub demand_same : (batches : List DemandBatch) (limits : Limits) (flow : Flow) (need : ℕ) → demand_through (batches ++ record { entries = []; limits = limits } ∷ []) flow need ≡ demand_through batches flow need
demand_same [] limits flow need = refl
demand_same (b ∷ batches) limits flow need = demand_same batches limits flow (need_with (entry_of b.entries flow) need)

-- a flow of a later source is above
pub source_below : (src later : ℕ) → src < later → IsTrue (flow_below (record { src = src; dst = 0 }) (record { src = later; dst = 0 }))
source_below src later less = or_left (nat_lt src later) ((src == later) && nat_lt 0 0) (lt-ltb src later less)

-- and may be applied, from the empty list on
pub asks_apply : (endpoints b : ℕ) (limits : Limits) (list : List Item) (batches : List DemandBatch) → RecordedBatchesMayBeApplied → endpoints ≡ 132 → list ≡ [] → AreRecorded 132 limits batches → MayBeApplied endpoints b 0 list batches
asks_apply endpoints b limits list batches law endpoints_is empty are =
    subst (λ (n : ℕ). MayBeApplied n b 0 list batches) (sym endpoints_is) (subst (λ (l : List Item). MayBeApplied 132 b 0 l batches) (sym empty) (law 132 b limits batches are).may)

pub none_before : (number : ℕ) (list : List Item) → list ≡ [] → IsListBefore number list
none_before number list empty = subst (IsListBefore number) (sym empty) (record {
  in_order = λ i j d less below. absurd (omega (arith, below));
  below = λ k d below. absurd (omega (arith, below));
  once = λ i j d less below. absurd (omega (arith, below));
})
