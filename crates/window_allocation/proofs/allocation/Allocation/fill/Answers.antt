use Rattle.std.proofs.Common.{◌≡◌, ◌≢◌, ◌+◌, ℕ, List, length, refl, sym, ap, ◌∙◌, subst, arith, rules}
use Rattle.greedy_rules.specs.declared.flows.Flow.{Flow}
use Rattle.greedy_rules.specs.declared.flows.Item.{Item}
use Rattle.greedy_rules.specs.Batches.{DemandBatch}
use Rattle.greedy_rules.specs.Schedule.{first_slot, schedule_from, rest_from}
use Rattle.slot_batches.specs.NextList.{IsListBefore}
use Rattle.window_allocation.specs.Giving.{MayGive, HasGiven}
use Rattle.window_allocation.specs.Handed.{ComeOfRing}
use Rattle.window_allocation.specs.Standing.{Allocated}
use Rattle.window_allocation.specs.WindowLists.{demands_of}
use Rattle.window_allocation.proofs.Filled.{tables_here, given_none, jobs_of_some}
use Rattle.window_allocation.proofs.WindowLemmas.{ring_size, ring_endpoints, may_allocate, parts_may_be, told, few_slots, has_allocated_more, window_of}
use Rattle.window_allocation.proofs.allocation.Allocation.fill.Goals as goal

pub returns-then-is_empty : goal.returns-then-is_empty
returns-then-is_empty g c =
    let none : length c.args.batches.now ≡ 0 = search rules in
    let tables = tables_here c.args.self.now _ c.args.batches.now _ _ refl c.window.view_is c.requires.tables in
    given_none c.args.self.now c.args.batches.now _ none c.requires.may (record { slots = tables.slots; endpoints = tables.endpoints; core_slots = tables.core_slots; core_endpoints = tables.core_endpoints })
    (ap (λ (half : Allocated). record { first = half.batches; count = length c.args.batches.now }) c.self.view_is)

pub allocate-requires-clause-may : goal.allocate-requires-clause-may
allocate-requires-clause-may g c κs within =
    let batches : List DemandBatch = c.args.batches.now in
    let may = subst (λ (half : Allocated). MayGive half batches) (sym c.self.view_is) c.requires.may in
    let (earlier, has, recorded) = may.stands in
    let tables = tables_here _ _ batches _ _ c.self.view_is c.window.view_is c.requires.tables in
    may_allocate _ earlier batches _ c.window.inside.slots has (c.every_window_is_ready.ensures _ _ earlier batches _ has recorded) may.count may.numbers tables.endpoints tables.slots

pub allocate-requires-clause-parts : goal.allocate-requires-clause-parts
allocate-requires-clause-parts g c κs within =
    let batches : List DemandBatch = c.args.batches.now in
    let (earlier, has, recorded) = (subst (λ (half : Allocated). MayGive half batches) (sym c.self.view_is) c.requires.may).stands in
    parts_may_be _ earlier batches _ has (c.every_window_is_ready.ensures _ _ earlier batches _ has recorded)

pub colour_slots-requires-clause-count : goal.colour_slots-requires-clause-count
colour_slots-requires-clause-count g c κs within =
    let batches : List DemandBatch = c.args.batches.now in
    let tables = tables_here _ _ batches _ _ c.self.view_is c.window.view_is c.requires.tables in
    let it = told batches _ _ c.window.inside.slots.slots c.allocate.new.out.slots c.every_window_is_ready.ensures c.self.view_is c.requires.may.stands tables.slots c.allocate.ensures.allocates.slots in
    few_slots it.earlier batches _ c.allocate.new.out.slots it.has it.is it.ready (subst (λ (half : Allocated). MayGive half batches) (sym c.self.view_is) c.requires.may).count

pub colour_slots-requires-clause-endpoints : goal.colour_slots-requires-clause-endpoints
colour_slots-requires-clause-endpoints g c κs within k d below =
    let tables = tables_here _ _ c.args.batches.now _ _ c.self.view_is c.window.view_is c.requires.tables in
    let it = told c.args.batches.now _ _ c.window.inside.slots.slots c.allocate.new.out.slots c.every_window_is_ready.ensures c.self.view_is c.requires.may.stands tables.slots c.allocate.ensures.allocates.slots in
    (it.fit k d below).flows

pub colour_slots-requires-clause-matchings : goal.colour_slots-requires-clause-matchings
colour_slots-requires-clause-matchings g c κs within k d below =
    let tables = tables_here _ _ c.args.batches.now _ _ c.self.view_is c.window.view_is c.requires.tables in
    let it = told c.args.batches.now _ _ c.window.inside.slots.slots c.allocate.new.out.slots c.every_window_is_ready.ensures c.self.view_is c.requires.may.stands tables.slots c.allocate.ensures.allocates.slots in
    (it.fit k d below).matching

pub colour_slots-requires-clause-degrees : goal.colour_slots-requires-clause-degrees
colour_slots-requires-clause-degrees g c κs within k d below =
    let tables = tables_here _ _ c.args.batches.now _ _ c.self.view_is c.window.view_is c.requires.tables in
    let it = told c.args.batches.now _ _ c.window.inside.slots.slots c.allocate.new.out.slots c.every_window_is_ready.ensures c.self.view_is c.requires.may.stands tables.slots c.allocate.ensures.allocates.slots in
    (it.fit k d below).degrees

pub colour_slots-requires-clause-slot_room : goal.colour_slots-requires-clause-slot_room
colour_slots-requires-clause-slot_room g c κs within =
    let tables = tables_here _ _ c.args.batches.now _ _ c.self.view_is c.window.view_is c.requires.tables in
    let it = told c.args.batches.now _ _ c.window.inside.slots.slots c.allocate.new.out.slots c.every_window_is_ready.ensures c.self.view_is c.requires.may.stands tables.slots c.allocate.ensures.allocates.slots in
    omega (arith, ap length it.is, it.ready.number, tables.core_slots)

pub returns : goal.returns
returns g c =
    let batches : List DemandBatch = c.args.batches.now in
    let some : length batches ≢ 0 = search rules in
    let tables = tables_here _ _ batches _ _ c.self.view_is c.window.view_is c.requires.tables in
    let it = told batches _ _ c.window.inside.slots.slots c.allocate.new.out.slots c.every_window_is_ready.ensures c.self.view_is c.requires.may.stands tables.slots c.allocate.ensures.allocates.slots in
    let b : ℕ = c.self.inside.b in
    let k : ℕ = c.self.inside.batches in
    let list : List Item = (demands_of c.self.inside.list).items in
    let workers : ℕ = c.self.inside.ring.workers in
    let old : List ℕ = c.self.inside.ring.moved in
    let now : List ℕ = c.allocate.new.self.moved in
    let size = ring_size _ _ it.earlier _ it.has in
    let ends = ring_endpoints _ _ it.earlier _ it.has in
    subst (λ (half : Allocated).
    HasGiven half batches (record { b = b; batches = k + length batches; list = demands_of c.allocate.new.list; ring = c.allocate.new.self; paths = c.colour_slots.new.self })
    (record { span = record { first = k; count = length batches }; slots = c.allocate.new.out; cores = c.colour_slots.new.out })) c.self.view_is
    (record {
      stands = λ earlier has recorded.
          has_allocated_more _ _ earlier batches _ _ has recorded (c.every_window_is_ready.ensures _ _ earlier batches _ has recorded) refl refl
          (c.allocate.ensures.allocates.list ∙ ap (λ (m : ℕ). rest_from m k list batches) size)
          (subst (λ (m : ℕ). IsListBefore (first_slot m (k + length batches)) (demands_of c.allocate.new.list).items) size c.allocate.ensures.allocates.next) c.allocate.ensures.allocates.spare c.allocate.ensures.allocates.same c.colour_slots.ensures.work.same.net c.colour_slots.ensures.work.same.slots;
      b = refl;
      workers = c.allocate.ensures.allocates.same.workers;
      paths = c.colour_slots.ensures.work.same.paths;
      jobs = omega (arith, c.colour_slots.ensures.work.jobs, ap length it.is, it.ready.number, jobs_of_some (length batches) b c.self.inside.paths.paths some);
      span = refl;
      window = window_of c.self.inside.paths.net b k (length batches) (schedule_from b k list batches) c.allocate.new.out c.colour_slots.new.out
          it.is it.ready.number (c.allocate.ensures.allocates.endpoints ∙ (tables.endpoints ∙ ends)) (c.colour_slots.ensures.out.slots ∙ tables.core_slots) (c.colour_slots.ensures.out.endpoints ∙ (tables.core_endpoints ∙ ends))
          c.colour_slots.ensures.coloured.clean c.colour_slots.ensures.coloured.others;
      handed = subst (λ (slots : List (List Flow)). ComeOfRing b k workers list batches slots old now) (sym it.is)
          (subst (λ (n : ℕ). ComeOfRing n k workers list batches (schedule_from n k list batches) old now) size c.allocate.ensures.handed);
    })
