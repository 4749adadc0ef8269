use Rattle.std.proofs.Common.{◌+◌, ◌-◌, ◌*◌, ◌++◌, ℕ, List, [], length, take, replicate, sym, ap, ◌∙◌, subst, arith}
use Rattle.greedy_rules.specs.declared.flows.Flow.{Flow}
use Rattle.greedy_rules.specs.declared.flows.Item.{Item}
use Rattle.greedy_rules.specs.Batches.{DemandBatch}
use Rattle.greedy_rules.specs.Schedule.{first_slot, schedule_from}
use Rattle.slot_batches.specs.NextList.{IsListBefore}
use Rattle.ring_core.specs.Cores.{pairs_of}
use Rattle.ring_core.specs.Windows.{Window, window_of}
use Rattle.alloc_pipeline.specs.declared.crew.Crew.{Crew}
use Rattle.alloc_pipeline.specs.Ring.{RingWork, MayAllocate, AllocatesBehind}
use Rattle.alloc_pipeline.specs.Crews.{moved_of}
use Rattle.alloc_pipeline.proofs.Crewing.{have_played}
use Rattle.alloc_pipeline.proofs.RingLemmas.{left_before}
use Rattle.alloc_pipeline.proofs.ring.Ring.allocate_behind.Goals as goal

pub copy_slots-requires-clause-played : goal.copy_slots-requires-clause-played
copy_slots-requires-clause-played g c =
    let old : Crew = c.self.inside.crew in
    let new : Crew = c.play.new.self in
    let played = have_played old new c.args.first_batch c.args.batches.now c.args.list.now.items c.deref.result.now c.self.invariant c.play.ensures.ready c.play.ensures.same c.play.ensures.played c.deref.ensures.value in (
      new.endpoints,
      new.batches,
      window_of c.args.list.now.items c.args.batches.now c.args.first_batch old.b old.count,
      played,
      omega (arith, c.requires.may.serves, ap (λ (r : RingWork). r.endpoints) c.self.view_is, c.play.ensures.same.endpoints),
    )

pub returns : goal.returns
returns g c =
    let old : Crew = c.self.inside.crew in
    let new : Crew = c.play.new.self in
    let first : ℕ = c.args.first_batch in
    let batches : List DemandBatch = c.args.batches.now in
    let list : List Item = c.args.list.now.items in
    let none : List Flow = [] in
    let passed : ℕ = c.args.passed in
    let slots : List (List Flow) = c.args.out.now.slots in
    let window : Window = window_of list batches first old.b old.count in
    let was : RingWork = record { workers = old.count; endpoints = old.endpoints; batches = old.batches; b = old.b; moved = moved_of old.resting.passes.items; spare = length old.resting.spare } in
    let is : RingWork = record { workers = new.count; endpoints = new.endpoints; batches = new.batches; b = new.b; moved = moved_of new.resting.passes.items; spare = length new.resting.spare } in
    let may : MayAllocate was first c.args.list.now batches c.args.out.now = subst (λ (r : RingWork). MayAllocate r first c.args.list.now batches c.args.out.now) (sym c.self.view_is) c.requires.may in
    let played = have_played old new first batches list c.deref.result.now c.self.invariant c.play.ensures.ready c.play.ensures.same c.play.ensures.played c.deref.ensures.value in
    let same = c.play.ensures.same in
    let done : AllocatesBehind c.args.passed was is first c.args.list.now c.play.new.list batches c.args.out.now c.copy_slots.new.out = record {
      list = c.play.ensures.list;
      spare = c.play.ensures.spare;
      next = subst (IsListBefore (first_slot old.b (first + length batches))) (sym c.play.ensures.list) (left_before old.endpoints old.b first list batches c.every_batch_leaves_a_list.ensures.next may.may may.before);
      slots = c.copy_slots.ensures.slots new.endpoints new.batches window played
          ∙ (λ i. (take (passed * same.b i) slots ++ schedule_from (same.b i) first list batches) ++ replicate (length slots - (passed + length batches) * same.b i) none);
      endpoints = c.copy_slots.ensures.endpoints;
      moved = c.play.ensures.moved;
      same = record {
        workers = same.count;
        endpoints = same.endpoints;
        batches = same.batches;
        b = same.b;
        spare = c.play.ensures.ready.nodes ∙ (ap pairs_of same.endpoints ∙ sym c.self.invariant.nodes);
      };
    } in
    record { allocates = subst (λ (r : RingWork). AllocatesBehind c.args.passed r is first c.args.list.now c.play.new.list batches c.args.out.now c.copy_slots.new.out) c.self.view_is done }
