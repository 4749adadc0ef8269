use Rattle.std.proofs.Common.{◌≡◌, ◌+◌, ◌-◌, ◌*◌, ◌++◌, ℕ, List, [], length, replicate, sym, ap, ◌∙◌, subst, arith}
use Rattle.std.specs.Prelude.{vec_capacity}
use Rattle.std.specs.Global.{Vec}
use Rattle.greedy_rules.specs.Demands.{Demands, AreBelow}
use Rattle.greedy_rules.specs.declared.flows.Flow.{Flow}
use Rattle.greedy_rules.specs.declared.flows.Item.{Item}
use Rattle.greedy_rules.specs.Schedule.{first_slot, rest_from, schedule_from}
use Rattle.slot_batches.specs.Woven.{woven}
use Rattle.slot_batches.specs.NextList.{IsListBefore}
use Rattle.alloc_pipeline.proofs.RingLemmas.{left_before}
use Rattle.window_allocation.proofs.RunLemmas.{few_items, below_endpoints}
use Rattle.window_allocation.proofs.HandedLemmas.{come_of_ring}
use Rattle.window_allocation.proofs.ReachedLemmas.{may_run, tested_window, as_long, may_again, gives_again, come_after}
use Rattle.window_allocation.proofs.runs.Parts.allocate_reached.Goals as goal

pub allocate_runs-requires-clause-may : goal.allocate_runs-requires-clause-may
allocate_runs-requires-clause-may g c κs within =
    let ring = c.args.self.now.runs.ring in
    let found = c.args.self.now.picked.items.items in
    let batches = c.args.batches.now in
    let run =
    may_run ring.endpoints ring.b c.args.first_batch c.args.self.now.picked.marks c.args.list.now.items found c.args.self.now.picked.places.items batches c.flows_fit_pairs.ensures c.every_batch_leaves_a_list.ensures.flows
    c.items_may_be_set_aside.ensures.listed c.requires.aside.some c.requires.may.may c.requires.may.before c.requires.aside.parts c.requires.aside.unmarked c.requires.reached in
    record {
      count = c.requires.may.count;
      may = run.may;
      before = run.before;
      numbers = c.requires.may.numbers;
      fits = few_items ring.endpoints ring.b c.args.first_batch found batches c.flows_fit_pairs.ensures c.requires.aside.some run.may;
      room = omega (arith, run.few, c.requires.memory.items);
      serves = c.requires.may.serves;
      places = c.requires.may.places;
    }

pub keeps_out-requires-clause-below : goal.keeps_out-requires-clause-below
keeps_out-requires-clause-below g c =
    let ring = c.args.self.now.runs.ring in
    subst (λ (n : ℕ). AreBelow n c.items.result.now) (sym c.requires.memory.words)
    (subst (AreBelow ring.endpoints) (sym c.items.ensures) (below_endpoints ring.endpoints ring.b c.args.first_batch c.args.list.now.items c.args.batches.now c.requires.aside.some c.requires.may.may))

pub keeps_out-requires-clause-slots : goal.keeps_out-requires-clause-slots
keeps_out-requires-clause-slots g c =
    let batches = c.args.batches.now in
    let first : ℕ = c.args.first_batch in
    let b : ℕ = c.args.self.now.runs.ring.b in
    let done = c.allocate_runs.ensures.allocates in
    let long : length c.allocate_runs.new.out.slots ≡ length c.args.out.now.slots =
    as_long b (length batches) (length c.args.out.now.slots) (schedule_from b first c.args.self.now.picked.items.items batches) c.allocate_runs.new.out.slots (c.schedules_go_on.ensures.count b first c.args.self.now.picked.items.items batches)
    c.requires.may.places done.slots in
    let same : c.allocate_runs.new.self.b ≡ b = c.allocate_runs.ensures.runs.b ∙ done.same.b in
    omega (arith, long, c.requires.may.places, ap (λ (m : ℕ). length batches * m) same)

pub weave_into-requires-clause-room : goal.weave_into-requires-clause-room
weave_into-requires-clause-room g c =
    let ring = c.args.self.now.runs.ring in
    let picked = c.args.self.now.picked in
    let list = c.args.list.now.items in
    let batches = c.args.batches.now in
    let first : ℕ = c.args.first_batch in
    let b : ℕ = ring.b in
    let none : List Flow = [] in
    let reached = c.requires.reached in
    let done = c.allocate_runs.ensures.allocates in
    let window =
    tested_window ring.endpoints b c.allocate_runs.new.self.b first picked.marks list c.items.result.now picked.items.items picked.places.items batches c.allocate_runs.new.out.slots
    (replicate (length c.args.out.now.slots - length batches * b) none) c.flows_fit_pairs.ensures c.every_batch_leaves_a_list.ensures.flows c.schedules_go_on.ensures.count c.items_may_be_set_aside.ensures.listed
    c.items_beyond_reach_may_be_set_aside.ensures.in_slots c.requires.aside.some c.requires.may.may c.requires.may.before c.requires.aside.unmarked reached c.items.ensures (c.allocate_runs.ensures.runs.b ∙ done.same.b) done.slots
    (c.keeps_out.ensures.out c.if-keeps_out.true) in
    let items = ap (λ (demands : Demands). demands.items) c.keeps_out.ensures.items in
    let whole : length (woven reached.aside list c.keeps_out.new.self.items.items) ≡ length (rest_from b first list batches) =
    ap (λ (xs : List Item). length (woven reached.aside list xs)) (items ∙ done.list) ∙ ap length window.rest in (
      reached.aside,
      ap (λ (places : Vec ℕ). places.items) c.keeps_out.ensures.places ∙ reached.at,
      omega (arith, whole, c.requires.may.room),
      omega (arith, whole, window.few_whole, ap vec_capacity c.keeps_out.ensures.whole, c.requires.memory.whole),
    )

pub returns-then-keeps_out-clause-allocates : goal.returns-then-keeps_out-clause-allocates
returns-then-keeps_out-clause-allocates g c =
    let ring = c.args.self.now.runs.ring in
    let picked = c.args.self.now.picked in
    let list = c.args.list.now.items in
    let batches = c.args.batches.now in
    let first : ℕ = c.args.first_batch in
    let b : ℕ = ring.b in
    let none : List Flow = [] in
    let reached = c.requires.reached in
    let done = c.allocate_runs.ensures.allocates in
    let window =
    tested_window ring.endpoints b c.allocate_runs.new.self.b first picked.marks list c.items.result.now picked.items.items picked.places.items batches c.allocate_runs.new.out.slots
    (replicate (length c.args.out.now.slots - length batches * b) none) c.flows_fit_pairs.ensures c.every_batch_leaves_a_list.ensures.flows c.schedules_go_on.ensures.count c.items_may_be_set_aside.ensures.listed
    c.items_beyond_reach_may_be_set_aside.ensures.in_slots c.requires.aside.some c.requires.may.may c.requires.may.before c.requires.aside.unmarked reached c.items.ensures (c.allocate_runs.ensures.runs.b ∙ done.same.b) done.slots
    (c.keeps_out.ensures.out c.if-keeps_out.true) in
    let items = ap (λ (demands : Demands). demands.items) c.keeps_out.ensures.items in
    let left : c.weave_into.new.list.items ≡ rest_from b first list batches =
    c.weave_into.ensures.items reached.aside (ap (λ (places : Vec ℕ). places.items) c.keeps_out.ensures.places ∙ reached.at)
    ∙ (ap (woven reached.aside list) (items ∙ done.list) ∙ window.rest) in
    record {
      list = left;
      spare = c.weave_into.ensures.spare;
      next = subst (IsListBefore (first_slot b (first + length batches))) (sym left) (left_before ring.endpoints b first list batches c.every_batch_leaves_a_list.ensures.next c.requires.may.may c.requires.may.before);
      slots = done.slots ∙ ap (λ (xs : List (List Flow)). xs ++ replicate (length c.args.out.now.slots - length batches * b) none) window.slots;
      endpoints = done.endpoints;
      same = done.same;
    }

pub returns-then-keeps_out-clause-handed : goal.returns-then-keeps_out-clause-handed
returns-then-keeps_out-clause-handed g c =
    let ring = c.args.self.now.runs.ring in
    let picked = c.args.self.now.picked in
    let list = c.args.list.now.items in
    let batches = c.args.batches.now in
    let first : ℕ = c.args.first_batch in
    let b : ℕ = ring.b in
    let none : List Flow = [] in
    let reached = c.requires.reached in
    let done = c.allocate_runs.ensures.allocates in
    let window =
    tested_window ring.endpoints b c.allocate_runs.new.self.b first picked.marks list c.items.result.now picked.items.items picked.places.items batches c.allocate_runs.new.out.slots
    (replicate (length c.args.out.now.slots - length batches * b) none) c.flows_fit_pairs.ensures c.every_batch_leaves_a_list.ensures.flows c.schedules_go_on.ensures.count c.items_may_be_set_aside.ensures.listed
    c.items_beyond_reach_may_be_set_aside.ensures.in_slots c.requires.aside.some c.requires.may.may c.requires.may.before c.requires.aside.unmarked reached c.items.ensures (c.allocate_runs.ensures.runs.b ∙ done.same.b) done.slots
    (c.keeps_out.ensures.out c.if-keeps_out.true) in
    come_of_ring b first ring.workers reached.aside list picked.items.items batches _ ring.moved c.allocate_runs.new.self.ring.moved c.allocate_runs.ensures.played window.is window.slots
    (window.named c.every_batch_balances.ensures)

pub allocate_runs-requires-2-clause-may : goal.allocate_runs-requires-2-clause-may
allocate_runs-requires-2-clause-may g c κs within =
    let batches = c.args.batches.now in
    let first : ℕ = c.args.first_batch in
    let b : ℕ = c.args.self.now.runs.ring.b in
    let done = c.allocate_runs.ensures.allocates in
    let long : length c.allocate_runs.new.out.slots ≡ length c.args.out.now.slots =
    as_long b (length batches) (length c.args.out.now.slots) (schedule_from b first c.args.self.now.picked.items.items batches) c.allocate_runs.new.out.slots (c.schedules_go_on.ensures.count b first c.args.self.now.picked.items.items batches)
    c.requires.may.places done.slots in
    may_again c.args.self.now.runs.ring c.allocate_runs.new.self.ring first c.args.list.now batches c.args.out.now c.allocate_runs.new.out done.same done.endpoints long c.requires.may

pub returns-clause-allocates : goal.returns-clause-allocates
returns-clause-allocates g c =
    let batches = c.args.batches.now in
    let first : ℕ = c.args.first_batch in
    let b : ℕ = c.args.self.now.runs.ring.b in
    let done = c.allocate_runs.ensures.allocates in
    let long : length c.allocate_runs.new.out.slots ≡ length c.args.out.now.slots =
    as_long b (length batches) (length c.args.out.now.slots) (schedule_from b first c.args.self.now.picked.items.items batches) c.allocate_runs.new.out.slots (c.schedules_go_on.ensures.count b first c.args.self.now.picked.items.items batches)
    c.requires.may.places done.slots in
    gives_again c.args.self.now.runs.ring c.allocate_runs.new.self.ring c.allocate_runs-2.new.self.ring first c.args.list.now c.allocate_runs-2.new.list batches c.args.out.now c.allocate_runs.new.out c.allocate_runs-2.new.out done.same
    done.endpoints long c.allocate_runs-2.ensures.allocates

pub returns-clause-handed : goal.returns-clause-handed
returns-clause-handed g c =
    let ring = c.args.self.now.runs.ring in
    let done = c.allocate_runs.ensures.allocates in
    let reached = c.requires.reached in
    come_after ring.b c.args.first_batch ring.workers c.allocate_runs.new.self.ring.b c.allocate_runs.new.self.ring.workers reached.aside c.args.list.now.items c.args.self.now.picked.items.items c.args.batches.now ring.moved
    c.allocate_runs.new.self.ring.moved c.allocate_runs-2.new.self.ring.moved done.same.b done.same.workers c.allocate_runs.ensures.played reached.are c.allocate_runs-2.ensures.played
