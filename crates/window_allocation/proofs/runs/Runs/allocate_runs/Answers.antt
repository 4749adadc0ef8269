use Rattle.std.proofs.Common.{◌≡◌, ◌+◌, ◌-◌, ◌*◌, ℕ, List, [], ◌++◌, length, take, drop, replicate, refl, sym, ap, ◌∙◌, subst, arith}
use Rattle.std.proofs.lemmas.Nat.{mul-le}
use Rattle.greedy_rules.specs.declared.flows.Flow.{Flow}
use Rattle.greedy_rules.specs.declared.flows.Item.{Item}
use Rattle.greedy_rules.specs.Batches.{DemandBatch}
use Rattle.greedy_rules.specs.Schedule.{first_slot, schedule_from, rest_from}
use Rattle.slot_batches.specs.NextList.{IsListBefore}
use Rattle.alloc_pipeline.specs.Ring.{RingWork}
use Rattle.alloc_pipeline.proofs.RingLemmas.{left_before}
use Rattle.window_allocation.proofs.RunLemmas.{few_items, IsWindow, AreServed, none_served, all_served, go_on, run_served}
use Rattle.window_allocation.specs.Runs.{IsPlayed}
use Rattle.window_allocation.proofs.HandedLemmas.{none_played, played_on, all_played}
use Rattle.window_allocation.proofs.runs.Runs.allocate_runs.Goals as goal

pub loop-served-init : goal.loop-served-init
loop-served-init g c =
    let may = c.requires.may in
    record {
      runs = c.requires.runs;
      same = record { workers = refl; endpoints = refl; batches = refl; b = refl; spare = refl };
      window = record { may = may.may; before = may.before; numbers = may.numbers; list_fits = may.room; places = may.places };
      are = none_served c.args.self.now.ring.b c.args.first_batch c.args.list.now.items c.args.batches.now (length c.args.out.now.slots) c.clear.new.self.slots c.clear.ensures.slots;
      spare = refl;
      endpoints = c.clear.ensures.endpoints;
      played = none_played c.args.self.now.ring.b c.args.first_batch c.args.self.now.ring.workers c.args.list.now.items c.args.batches.now c.args.self.now.ring.moved;
    }

pub allocate_run-served-requires-clause-some : goal.allocate_run-served-requires-clause-some
allocate_run-served-requires-clause-some g c κs within =
    let was = c.loop-served.invariant in
    let ring : RingWork = c.loop-served.self.ring in
    let found : List Item = c.args.list.now.items in
    let batches = c.args.batches.now in
    let first : ℕ = c.args.first_batch in
    let served : ℕ = c.loop-served.served in
    let total : ℕ = length c.args.out.now.slots in
    let room : ℕ = length found + c.args.list.now.spare in
    let on = go_on ring.endpoints ring.b first found batches total room served c.loop-served.list.items c.loop-served.out.slots c.schedules_go_on.ensures.more c.schedules_go_on.ensures.count c.every_batch_leaves_a_list.ensures.next was.window was.are in
    omega (arith, on.number, c.loop-served-test.true)

pub allocate_run-served-requires-clause-may : goal.allocate_run-served-requires-clause-may
allocate_run-served-requires-clause-may g c κs within =
    let was = c.loop-served.invariant in
    let ring : RingWork = c.loop-served.self.ring in
    let found : List Item = c.args.list.now.items in
    let batches = c.args.batches.now in
    let first : ℕ = c.args.first_batch in
    let served : ℕ = c.loop-served.served in
    let total : ℕ = length c.args.out.now.slots in
    let room : ℕ = length found + c.args.list.now.spare in
    let on = go_on ring.endpoints ring.b first found batches total room served c.loop-served.list.items c.loop-served.out.slots c.schedules_go_on.ensures.more c.schedules_go_on.ensures.count c.every_batch_leaves_a_list.ensures.next was.window was.are in
    let later : List DemandBatch = take (length batches - served) (drop served batches) in
    record {
      count = omega (arith, on.number, c.requires.may.count, was.same.batches);
      may = on.may;
      before = on.before;
      numbers = omega (arith, ap (λ (n : ℕ). first_slot ring.b (first + n)) on.number, was.window.numbers);
      fits = few_items ring.endpoints ring.b (first + served) c.loop-served.list.items later c.flows_fit_pairs.ensures (omega (arith, on.number, c.loop-served-test.true)) on.may;
      room = omega (arith, ap length on.rest, was.window.list_fits, was.spare);
      serves = omega (arith, was.endpoints, c.requires.may.serves, was.same.endpoints);
      places = omega (arith, mul-le (length later) ring.b (length batches) ring.b (omega (arith, on.number)) (omega arith), on.total_is, was.window.places);
    }

pub allocate_run-served-requires-clause-count : goal.allocate_run-served-requires-clause-count
allocate_run-served-requires-clause-count g c κs within =
    let was = c.loop-served.invariant in
    let ring : RingWork = c.loop-served.self.ring in
    let found : List Item = c.args.list.now.items in
    let batches = c.args.batches.now in
    let first : ℕ = c.args.first_batch in
    let served : ℕ = c.loop-served.served in
    let total : ℕ = length c.args.out.now.slots in
    let room : ℕ = length found + c.args.list.now.spare in
    let on = go_on ring.endpoints ring.b first found batches total room served c.loop-served.list.items c.loop-served.out.slots c.schedules_go_on.ensures.more c.schedules_go_on.ensures.count c.every_batch_leaves_a_list.ensures.next was.window was.are in
    omega (arith, on.number, c.requires.may.count, was.same.batches)

pub allocate_run-served-requires-clause-places : goal.allocate_run-served-requires-clause-places
allocate_run-served-requires-clause-places g c κs within =
    let was = c.loop-served.invariant in
    let ring : RingWork = c.loop-served.self.ring in
    let found : List Item = c.args.list.now.items in
    let batches = c.args.batches.now in
    let first : ℕ = c.args.first_batch in
    let served : ℕ = c.loop-served.served in
    let total : ℕ = length c.args.out.now.slots in
    let room : ℕ = length found + c.args.list.now.spare in
    let on = go_on ring.endpoints ring.b first found batches total room served c.loop-served.list.items c.loop-served.out.slots c.schedules_go_on.ensures.more c.schedules_go_on.ensures.count c.every_batch_leaves_a_list.ensures.next was.window was.are in
    omega (arith, ap (λ (n : ℕ). n * ring.b) on.number, on.total_is, was.window.places)

pub allocate_run-served-requires-clause-empty : goal.allocate_run-served-requires-clause-empty
allocate_run-served-requires-clause-empty g c κs within =
    let was = c.loop-served.invariant in
    let ring : RingWork = c.loop-served.self.ring in
    let found : List Item = c.args.list.now.items in
    let batches = c.args.batches.now in
    let first : ℕ = c.args.first_batch in
    let served : ℕ = c.loop-served.served in
    let total : ℕ = length c.args.out.now.slots in
    let room : ℕ = length found + c.args.list.now.spare in
    let on = go_on ring.endpoints ring.b first found batches total room served c.loop-served.list.items c.loop-served.out.slots c.schedules_go_on.ensures.more c.schedules_go_on.ensures.count c.every_batch_leaves_a_list.ensures.next was.window was.are in
    on.empty

pub loop-served-preserved : goal.loop-served-preserved
loop-served-preserved g c =
    let was = c.loop-served.invariant in
    let ring : RingWork = c.loop-served.self.ring in
    let found : List Item = c.args.list.now.items in
    let batches = c.args.batches.now in
    let first : ℕ = c.args.first_batch in
    let served : ℕ = c.loop-served.served in
    let total : ℕ = length c.args.out.now.slots in
    let room : ℕ = length found + c.args.list.now.spare in
    let on = go_on ring.endpoints ring.b first found batches total room served c.loop-served.list.items c.loop-served.out.slots c.schedules_go_on.ensures.more c.schedules_go_on.ensures.count c.every_batch_leaves_a_list.ensures.next was.window was.are in
    let told = c.allocate_run-served.ensures in
    let now : RingWork = c.allocate_run-served.new.self.ring in
    let count : ℕ = c.allocate_run-served.result in
    let same = told.same in
    let old : RingWork = c.args.self.now.ring in
    let run : List DemandBatch = take count (take (length batches - served) (drop served batches)) in
    let window : IsWindow now.endpoints ring.b first found batches total room = subst (λ (n : ℕ). IsWindow n ring.b first found batches total room) (sym same.endpoints) was.window in
    let are = run_served ring.b first found batches total served count c.loop-served.list.items c.allocate_run-served.new.list.items c.loop-served.out.slots c.allocate_run-served.new.out.slots c.schedules_go_on.ensures.more c.schedules_go_on.ensures.count was.window.places was.are told.count told.list told.slots in
    record {
      runs = told.runs;
      same = record {
        workers = same.workers ∙ was.same.workers;
        endpoints = same.endpoints ∙ was.same.endpoints;
        batches = same.batches ∙ was.same.batches;
        b = same.b ∙ was.same.b;
        spare = same.spare ∙ was.same.spare;
      };
      window = subst (λ (n : ℕ). IsWindow now.endpoints n first found batches total room) (sym same.b) window;
      are = subst (λ (n : ℕ). AreServed n first found batches total (served + count) c.allocate_run-served.new.list.items c.allocate_run-served.new.out.slots) (sym same.b) are;
      spare = told.spare ∙ was.spare;
      endpoints = told.endpoints ∙ was.endpoints;
      played = played_on old.b first old.workers found batches served count c.loop-served.list.items old.moved ring.moved now.moved c.schedules_go_on.ensures.more was.are.within
          (was.are.list_is ∙ ap (λ (n : ℕ). rest_from n first found (take served batches)) was.same.b) was.played
          (subst (λ (n : ℕ). IsPlayed n (first + served) old.workers c.loop-served.list.items run ring.moved now.moved) was.same.b
          (subst (λ (n : ℕ). IsPlayed ring.b (first + served) n c.loop-served.list.items run ring.moved now.moved) was.same.workers told.played));
    }

pub returns-clause-allocates : goal.returns-clause-allocates
returns-clause-allocates g c =
    let was = c.loop-served.invariant in
    let ring : RingWork = c.loop-served.self.ring in
    let found : List Item = c.args.list.now.items in
    let batches = c.args.batches.now in
    let first : ℕ = c.args.first_batch in
    let served : ℕ = c.loop-served.served in
    let total : ℕ = length c.args.out.now.slots in
    let room : ℕ = length found + c.args.list.now.spare in
    let none : List Flow = [] in
    let old : RingWork = c.args.self.now.ring in
    let done = all_served ring.b first found batches total served c.loop-served.list.items c.loop-served.out.slots was.are (omega (arith, c.loop-served-test.false)) in
    let left : c.loop-served.list.items ≡ rest_from old.b first found batches = done.0 ∙ ap (λ (n : ℕ). rest_from n first found batches) was.same.b in
    record {
      list = left;
      spare = was.spare;
      next = subst (IsListBefore (first_slot old.b (first + length batches))) (sym left) (left_before old.endpoints old.b first found batches c.every_batch_leaves_a_list.ensures.next c.requires.may.may c.requires.may.before);
      slots = done.1 ∙ ap (λ (n : ℕ). schedule_from n first found batches ++ replicate (total - length batches * n) none) was.same.b;
      endpoints = was.endpoints;
      same = was.same;
    }

pub returns-clause-played : goal.returns-clause-played
returns-clause-played g c =
    let was = c.loop-served.invariant in
    let old : RingWork = c.args.self.now.ring in
    all_played old.b c.args.first_batch old.workers c.args.list.now.items c.args.batches.now c.loop-served.served old.moved c.loop-served.self.ring.moved (omega (arith, c.loop-served-test.false)) was.played
