-- Two windows of eight batches, one after the other, of which a ring may allocate each.
use Rattle.std.proofs.Common.{◌≡◌, ◌<◌, ◌≤◌, ◌+◌, ◌*◌, ◌^◌, ℕ, List, [], ◌++◌, length, sym, ap, ◌∙◌, subst, arith}
use Rattle.std.proofs.lemmas.List.{append-nil}
use Rattle.greedy_rules.specs.declared.flows.Item.{Item}
use Rattle.greedy_rules.specs.declared.limits.Limits.{Limits}
use Rattle.greedy_rules.specs.Batches.{DemandBatch}
use Rattle.greedy_rules.specs.Demands.{Demands, AreBelow, HaveTwoEnds}
use Rattle.greedy_rules.specs.Fronts.{SchedulesGoOn}
use Rattle.greedy_rules.specs.Recorded.{AreRecorded, MayBeApplied, RecordedBatchesMayBeApplied, EveryFrontIsRecorded, LaterBatchesMayBeApplied}
use Rattle.greedy_rules.specs.Room.{FlowsFitPairs}
use Rattle.greedy_rules.specs.Schedule.{first_slot, rest_from}
use Rattle.greedy_rules.specs.SlotTable.{Slots}
use Rattle.slot_batches.specs.NextList.{IsListBefore}
use Rattle.alloc_pipeline.specs.Ring.{RingWork, MayAllocate, pairs_of}
use Rattle.rules_rows.proofs.AskLemmas.{asks_apply, none_before}

-- recorded batches leave no more items than there are flows
few_left : (b : ℕ) (limits : Limits) (batches : List DemandBatch) → RecordedBatchesMayBeApplied → FlowsFitPairs → AreRecorded 132 limits batches → length (rest_from b 0 [] batches) ≤ 17292
few_left b limits batches law pairs are =
    let rest : List Item = rest_from b 0 [] batches in
    let left = (law 132 b limits batches are).left in
    let fit = pairs 132 [] rest (λ i j d less below. absurd (omega (arith, below))) (λ k d below. absurd (omega (arith, below))) left.once
    (subst (AreBelow 132) (sym (append-nil rest)) left.below) (subst HaveTwoEnds (sym (append-nil rest)) left.apart) in
    omega (arith, fit)

module _ (ring : RingWork) (limits : Limits) (front later : List DemandBatch) (endpoints_is : ring.endpoints ≡ 132) (batches_is : ring.batches ≡ 8) (b_is : ring.b ≡ 8) (front_count : length front ≡ 8) (later_count : length later ≡ 8)
    (law : RecordedBatchesMayBeApplied) (fronts : EveryFrontIsRecorded) (laters : LaterBatchesMayBeApplied) (on : SchedulesGoOn) (pairs : FlowsFitPairs) (are : AreRecorded 132 limits (front ++ later)) where
  first_are : AreRecorded 132 limits front
  first_are = fronts 132 limits front later are

  flows_are : pairs_of ring.endpoints ≡ 17292
  flows_are = ap pairs_of endpoints_is

  pub may_first : (list : Demands) (out : Slots) → list.items ≡ [] → 65536 ≤ list.spare → out.endpoints ≡ 132 → length out.slots ≡ 64 → MayAllocate ring 0 list front out
  may_first list out empty room serves places =
      let last : first_slot ring.b (0 + length front) ≡ 65 = λ i. first_slot (b_is i) (0 + front_count i) in
      let product : length front * ring.b ≡ 64 = λ i. front_count i * b_is i in
      let none = ap length empty in
      record {
        count = omega (arith, front_count, batches_is);
        may = asks_apply ring.endpoints ring.b limits list.items front law endpoints_is empty first_are;
        before = none_before (first_slot ring.b 0) list.items empty;
        numbers = omega (arith, last);
        fits = omega (arith, none);
        room = omega (arith, few_left ring.b limits front law pairs first_are, ap (λ (l : List Item). length (rest_from ring.b 0 l front)) empty, room);
        serves = omega (arith, serves, endpoints_is);
        places = omega (arith, product, places);
      }

  pub may_second : (list : Demands) (out : Slots) → list.items ≡ rest_from ring.b 0 [] front → IsListBefore (first_slot ring.b (0 + length front)) list.items → 65536 ≤ length list.items + list.spare → out.endpoints ≡ 132 → length out.slots ≡ 64
      → MayAllocate ring 8 list later out
  may_second list out left before room serves places =
      let last : first_slot ring.b (8 + length later) ≡ 129 = λ i. first_slot (b_is i) (8 + later_count i) in
      let product : length later * ring.b ≡ 64 = λ i. later_count i * b_is i in
      let at : 0 + length front ≡ 8 = omega (arith, front_count) in
      let whole : rest_from ring.b 8 list.items later ≡ rest_from ring.b 0 [] (front ++ later) =
      (λ i. rest_from ring.b (sym at i) (left i) later) ∙ sym (on ring.b 0 [] front later).1 in
      let may : MayBeApplied 132 ring.b (length front) (rest_from ring.b 0 [] front) later = laters 132 ring.b limits front later are in
      record {
        count = omega (arith, later_count, batches_is);
        may = subst (λ (n : ℕ). MayBeApplied n ring.b 8 list.items later) (sym endpoints_is)
            (subst (λ (n : ℕ). MayBeApplied 132 ring.b n list.items later) front_count (subst (λ (l : List Item). MayBeApplied 132 ring.b (length front) l later) (sym left) may));
        before = subst (λ (n : ℕ). IsListBefore (first_slot ring.b n) list.items) at before;
        numbers = omega (arith, last);
        fits = omega (arith, ap length left, few_left ring.b limits front law pairs first_are, flows_are);
        room = omega (arith, ap length whole, few_left ring.b limits (front ++ later) law pairs are, room);
        serves = omega (arith, serves, endpoints_is);
        places = omega (arith, product, places);
      }
