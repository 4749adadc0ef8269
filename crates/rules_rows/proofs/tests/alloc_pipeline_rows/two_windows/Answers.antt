use Rattle.std.proofs.Common.{◌≡◌, ◌≤◌, ◌+◌, ◌-◌, ◌*◌, ◌++◌, ℕ, List, [], length, take, drop, replicate, sym, ap, ◌∙◌, subst, arith, length-append}
use Rattle.std.proofs.lemmas.List.{length-take-le, length-drop, length-replicate, take_all, take-append-drop}
use Rattle.greedy_rules.specs.declared.flows.Flow.{Flow}
use Rattle.greedy_rules.specs.declared.flows.Item.{Item}
use Rattle.greedy_rules.specs.declared.limits.Limits.{Limits}
use Rattle.greedy_rules.specs.Batches.{DemandBatch}
use Rattle.greedy_rules.specs.Recorded.{AreRecorded}
use Rattle.greedy_rules.specs.Schedule.{first_slot, schedule_from, rest_from}
use Rattle.slot_batches.specs.NextList.{IsListBefore}
use Rattle.alloc_pipeline.specs.Ring.{RingWork, MayAllocate}
use Rattle.rules_rows.proofs.TwoWindows.{may_first, may_second}
use Rattle.rules_rows.proofs.tests.alloc_pipeline_rows.two_windows.Goals as goal

pub allocate-requires-clause-may : goal.allocate-requires-clause-may
allocate-requires-clause-may g c κs within =
    let limits : Limits = record { hosts = 44; cores = 44 } in
    let none : List Flow = [] in
    let all : List DemandBatch = c.deref.result.now in
    let front : List DemandBatch = take 8 all in
    let later : List DemandBatch = drop 8 all in
    let ring : RingWork = c.in_ok-ring.ring in
    let endpoints_is : ring.endpoints ≡ 132 = ap (λ (r : RingWork). r.endpoints) c.in_ok-ring.ensures in
    let batches_is : ring.batches ≡ 8 = ap (λ (r : RingWork). r.batches) c.in_ok-ring.ensures in
    let b_is : ring.b ≡ 8 = ap (λ (r : RingWork). r.b) c.in_ok-ring.ensures in
    let count : length all ≡ 16 = ap length c.deref.ensures.value ∙ c.in_ok-batches.ensures.count in
    let front_count : length front ≡ 8 = length-take-le 8 all (omega (arith, count)) in
    let later_count : length later ≡ 8 = omega (arith, count, length-drop 8 all) in
    let are : AreRecorded 132 limits (front ++ later) = subst (AreRecorded 132 limits) (sym c.deref.ensures.value ∙ sym (take-append-drop 8 all)) c.in_ok-batches.ensures.recorded in
    let laws = c.recorded_batches_may_be_applied.ensures in
    let places : length c.in_ok-out.out.slots ≡ 64 = ap length c.in_ok-out.ensures.slots ∙ length-replicate 64 none in
    may_first ring limits front later endpoints_is batches_is b_is front_count later_count laws.all laws.front laws.later c.schedules_go_on.ensures.more c.flows_fit_pairs.ensures are
    c.in_ok-list.list c.in_ok-out.out c.in_ok-list.ensures.empty c.in_ok-list.ensures.spare c.in_ok-out.ensures.endpoints places

pub allocate-requires-2-clause-may : goal.allocate-requires-2-clause-may
allocate-requires-2-clause-may g c κs within =
    let limits : Limits = record { hosts = 44; cores = 44 } in
    let none : List Flow = [] in
    let all : List DemandBatch = c.deref.result.now in
    let front : List DemandBatch = take 8 all in
    let later : List DemandBatch = drop 8 all in
    let ring : RingWork = c.in_ok-ring.ring in
    let endpoints_is : ring.endpoints ≡ 132 = ap (λ (r : RingWork). r.endpoints) c.in_ok-ring.ensures in
    let batches_is : ring.batches ≡ 8 = ap (λ (r : RingWork). r.batches) c.in_ok-ring.ensures in
    let b_is : ring.b ≡ 8 = ap (λ (r : RingWork). r.b) c.in_ok-ring.ensures in
    let count : length all ≡ 16 = ap length c.deref.ensures.value ∙ c.in_ok-batches.ensures.count in
    let front_count : length front ≡ 8 = length-take-le 8 all (omega (arith, count)) in
    let later_count : length later ≡ 8 = omega (arith, count, length-drop 8 all) in
    let are : AreRecorded 132 limits (front ++ later) = subst (AreRecorded 132 limits) (sym c.deref.ensures.value ∙ sym (take-append-drop 8 all)) c.in_ok-batches.ensures.recorded in
    let laws = c.recorded_batches_may_be_applied.ensures in
    let places : length c.in_ok-out.out.slots ≡ 64 = ap length c.in_ok-out.ensures.slots ∙ length-replicate 64 none in
    let done = c.allocate.ensures.allocates in
    let same = done.same in
    let old : List Item = c.in_ok-list.list.items in
    let left = done.list ∙ (λ i. rest_from (sym same.b i) 0 (c.in_ok-list.ensures.empty i) front) in
    let before = subst (λ (n : ℕ). IsListBefore (first_slot n (0 + length front)) c.allocate.new.list.items) (sym same.b) done.next in
    let product : length front * ring.b ≡ 64 = λ i. front_count i * b_is i in
    let kept : ℕ = length c.in_ok-out.out.slots - length front * ring.b in
    let slots = c.schedules_go_on.ensures.count ring.b 0 old front in
    let again : List DemandBatch = c.deref-2.result.now in
    let whole : take (length again - 8) (drop 8 again) ≡ later =
    take_all (length again - 8) (drop 8 again) (omega (arith, length-drop 8 again)) ∙ ap (drop 8) (c.deref-2.ensures.value ∙ sym c.deref.ensures.value) in
    subst (λ (bs : List DemandBatch). MayAllocate c.allocate.new.self 8 c.allocate.new.list bs c.allocate.new.out) (sym whole)
    (may_second c.allocate.new.self limits front later (same.endpoints ∙ endpoints_is) (same.batches ∙ batches_is) (same.b ∙ b_is) front_count later_count laws.all laws.front laws.later c.schedules_go_on.ensures.more c.flows_fit_pairs.ensures are
    c.allocate.new.list c.allocate.new.out left before (omega (arith, done.spare, c.in_ok-list.ensures.spare)) (done.endpoints ∙ c.in_ok-out.ensures.endpoints)
    (omega (arith, ap length done.slots, length-append (schedule_from ring.b 0 old front) (replicate kept none), length-replicate kept none, slots, product, places)))
