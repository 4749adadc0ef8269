use Rattle.std.proofs.Common.{◌≡◌, ◌<◌, ◌+◌, ◌-◌, ◌*◌, ◌++◌, ℕ, List, [], length, replicate, sym, ap, ◌∙◌, subst, arith}
use Rattle.std.proofs.lemmas.Bool.{eqb-false, eqb-true}
use Rattle.greedy_rules.specs.Demands.{Demands}
use Rattle.greedy_rules.specs.declared.flows.Flow.{Flow}
use Rattle.greedy_rules.specs.declared.flows.Item.{Item}
use Rattle.greedy_rules.specs.Schedule.{first_slot, rest_from, schedule_from}
use Rattle.slot_batches.specs.Feeding.{IsInOrder}
use Rattle.slot_batches.specs.Woven.{woven}
use Rattle.slot_batches.specs.NextList.{IsListBefore}
use Rattle.alloc_pipeline.specs.Ring.{MayAllocate}
use Rattle.alloc_pipeline.proofs.RingLemmas.{left_before}
use Rattle.window_allocation.specs.Handed.{ComeOfRing}
use Rattle.window_allocation.specs.Logged.{is_left, MayBeLogged}
use Rattle.window_allocation.specs.Ready.{AnyPartMayBeApplied}
use Rattle.window_allocation.specs.Runs.{GivesSlots}
use Rattle.window_allocation.specs.WindowLists.{demands_of, IsWindowList}
use Rattle.window_allocation.proofs.RunLemmas.{few_items}
use Rattle.window_allocation.proofs.PartLemmas.{opens_new}
use Rattle.window_allocation.proofs.PickedLemmas.{idle_window, logged_found, logged_rest}
use Rattle.window_allocation.proofs.ListLemmas.{whole_is, whole_list, own_list, gives_whole}
use Rattle.window_allocation.proofs.HandedLemmas.{none_played, all_played, come_of_ring, come_of_all}
use Rattle.window_allocation.proofs.runs.Parts.allocate_window.Goals as goal

pub pick-requires : goal.pick-requires
pick-requires g c =
    let ring = c.args.self.now.runs.ring in
    let list : List Item = (demands_of c.args.list.now).items in
    let some : 0 < length c.args.batches.now = omega (arith, eqb-false _ _ (sym c.is_empty.ensures ∙ c.if-is_empty.false)) in
    let may = logged_found ring.endpoints ring.b c.args.first_batch list c.args.batches.now c.flows_fit_pairs.ensures c.every_batch_leaves_a_list.ensures.flows some c.requires.may.may c.requires.may.before in
    record {
      is = own_list ring.endpoints c.args.list.now c.requires.is;
      may = subst (λ (n : ℕ). MayBeLogged n list) (sym c.requires.is.ends) may;
      new = opens_new ring.endpoints ring.b c.args.first_batch list c.args.batches.now c.requires.may.may;
      room = omega (arith, c.most_picked-most.ensures, c.len.ensures, may.few, c.requires.memory.items);
    }

pub allocate_unpicked-requires-clause-some : goal.allocate_unpicked-requires-clause-some
allocate_unpicked-requires-clause-some g c κs within = omega (arith, eqb-false _ _ (sym c.is_empty.ensures ∙ c.if-is_empty.false))

pub allocate_unpicked-requires-clause-may : goal.allocate_unpicked-requires-clause-may
allocate_unpicked-requires-clause-may g c κs within =
    let seen = c.pick.new.self in
    let whole = c.pick.ensures.logged ∙ c.if-not-pick.true in
    subst (λ (d : Demands). MayAllocate c.args.self.now.runs.ring c.args.first_batch d c.args.batches.now c.args.out.now) (sym c.pick.ensures.same ∙ whole_is seen whole) c.requires.may

pub allocate_unpicked-requires-clause-parts : goal.allocate_unpicked-requires-clause-parts
allocate_unpicked-requires-clause-parts g c κs within =
    let ring = c.args.self.now.runs.ring in
    let seen = c.pick.new.self in
    let whole = c.pick.ensures.logged ∙ c.if-not-pick.true in
    subst (λ (d : Demands). AnyPartMayBeApplied ring.endpoints ring.b c.args.first_batch d.items c.args.batches.now) (sym c.pick.ensures.same ∙ whole_is seen whole) c.requires.parts

pub returns-then-not-pick-clause-is : goal.returns-then-not-pick-clause-is
returns-then-not-pick-clause-is g c =
    let seen = c.pick.new.self in
    let whole = c.pick.ensures.logged ∙ c.if-not-pick.true in
    whole_list c.args.self.now.runs.ring.endpoints seen c.allocate_unpicked.new.list whole (subst (λ (n : ℕ). IsWindowList n seen) c.requires.is.ends c.pick.ensures.is) c.allocate_unpicked.ensures.allocates.spare

pub returns-then-not-pick-clause-allocates : goal.returns-then-not-pick-clause-allocates
returns-then-not-pick-clause-allocates g c =
    let whole = c.pick.ensures.logged ∙ c.if-not-pick.true in
    gives_whole c.args.self.now.runs.ring c.allocate_unpicked.new.self.runs.ring c.args.first_batch c.args.batches.now c.args.out.now c.allocate_unpicked.new.out c.args.list.now c.pick.new.self c.allocate_unpicked.new.list
    c.pick.ensures.same whole c.allocate_unpicked.ensures.allocates

pub returns-then-not-pick-clause-handed : goal.returns-then-not-pick-clause-handed
returns-then-not-pick-clause-handed g c =
    let ring = c.args.self.now.runs.ring in
    let seen = c.pick.new.self in
    let whole = c.pick.ensures.logged ∙ c.if-not-pick.true in
    let first : ℕ = c.args.first_batch in
    let batches = c.args.batches.now in
    subst (λ (d : Demands). ComeOfRing ring.b first ring.workers d.items batches (schedule_from ring.b first d.items batches) ring.moved c.allocate_unpicked.new.self.runs.ring.moved) (sym (whole_is seen whole) ∙ c.pick.ensures.same)
    c.allocate_unpicked.ensures.handed

pub allocate_runs-requires-clause-may : goal.allocate_runs-requires-clause-may
allocate_runs-requires-clause-may g c κs within =
    let ring = c.args.self.now.runs.ring in
    let picked = c.pick.new.self.log.picked in
    let list = (demands_of c.pick.new.self).items in
    let found = c.pick.new.found.items in
    let batches = c.args.batches.now in
    let first : ℕ = c.args.first_batch in
    let some : 0 < length batches = omega (arith, eqb-false _ _ (sym c.is_empty.ensures ∙ c.if-is_empty.false)) in
    let may = subst (λ (d : Demands). MayAllocate ring first d batches c.args.out.now) (sym c.pick.ensures.same) c.requires.may in
    let yes = c.if-not-pick.false in
    let window =
    idle_window ring.endpoints ring.b first (is_left picked) list found batches c.flows_fit_pairs.ensures c.every_batch_leaves_a_list.ensures.flows c.items_may_be_set_aside.ensures.woven some may.may may.before
    (c.pick.ensures.nothing yes) (c.pick.ensures.found yes ∙ c.pick.ensures.picked yes) in
    record {
      count = may.count;
      may = window.may;
      before = window.before;
      numbers = may.numbers;
      fits = few_items ring.endpoints ring.b first found batches c.flows_fit_pairs.ensures some window.may;
      room = omega (arith, window.few, c.pick.ensures.room, c.requires.memory.items);
      serves = may.serves;
      places = may.places;
    }

pub weave-requires : goal.weave-requires
weave-requires g c =
    let ring = c.args.self.now.runs.ring in
    let picked = c.pick.new.self.log.picked in
    let list = (demands_of c.pick.new.self).items in
    let found = c.pick.new.found.items in
    let batches = c.args.batches.now in
    let first : ℕ = c.args.first_batch in
    let some : 0 < length batches = omega (arith, eqb-false _ _ (sym c.is_empty.ensures ∙ c.if-is_empty.false)) in
    let may = subst (λ (d : Demands). MayAllocate ring first d batches c.args.out.now) (sym c.pick.ensures.same) c.requires.may in
    let yes = c.if-not-pick.false in
    let window =
    idle_window ring.endpoints ring.b first (is_left picked) list found batches c.flows_fit_pairs.ensures c.every_batch_leaves_a_list.ensures.flows c.items_may_be_set_aside.ensures.woven some may.may may.before
    (c.pick.ensures.nothing yes) (c.pick.ensures.found yes ∙ c.pick.ensures.picked yes) in
    let left = c.allocate_runs.ensures.allocates in
    let here : IsWindowList ring.endpoints c.pick.new.self = subst (λ (n : ℕ). IsWindowList n c.pick.new.self) c.requires.is.ends c.pick.ensures.is in
    let whole : woven (is_left picked) list c.items.result.now ≡ rest_from ring.b first list batches = ap (woven (is_left picked) list) (c.items.ensures ∙ left.list) ∙ window.rest in
    let rest = logged_rest ring.endpoints ring.b first list batches c.flows_fit_pairs.ensures c.every_batch_leaves_a_list.ensures.flows c.every_batch_leaves_a_list.ensures.next c.every_batch_balances.ensures some may.may may.before in
    record {
      is = own_list ring.endpoints c.pick.new.self here;
      logged = c.pick.ensures.logged ∙ yes;
      picked = c.pick.ensures.picked yes;
      order = subst IsInOrder (sym c.items.ensures) left.next.in_order;
      may = subst (λ (n : ℕ). MayBeLogged n (woven (is_left picked) list c.items.result.now)) (sym here.ends) (subst (MayBeLogged ring.endpoints) (sym whole) rest);
    }

pub returns-clause-is : goal.returns-clause-is
returns-clause-is g c =
    let seen = c.pick.new.self in
    let here : IsWindowList c.args.self.now.runs.ring.endpoints seen = subst (λ (n : ℕ). IsWindowList n seen) c.requires.is.ends c.pick.ensures.is in
    subst (λ (n : ℕ). IsWindowList n c.weave.new.self) here.ends c.weave.ensures.is

pub returns-clause-allocates : goal.returns-clause-allocates
returns-clause-allocates g c =
    let ring = c.args.self.now.runs.ring in
    let picked = c.pick.new.self.log.picked in
    let seen = demands_of c.pick.new.self in
    let list = seen.items in
    let found = c.pick.new.found.items in
    let batches = c.args.batches.now in
    let b : ℕ = ring.b in
    let first : ℕ = c.args.first_batch in
    let none : List Flow = [] in
    let some : 0 < length batches = omega (arith, eqb-false _ _ (sym c.is_empty.ensures ∙ c.if-is_empty.false)) in
    let may = subst (λ (d : Demands). MayAllocate ring first d batches c.args.out.now) (sym c.pick.ensures.same) c.requires.may in
    let yes = c.if-not-pick.false in
    let window =
    idle_window ring.endpoints b first (is_left picked) list found batches c.flows_fit_pairs.ensures c.every_batch_leaves_a_list.ensures.flows c.items_may_be_set_aside.ensures.woven some may.may may.before (c.pick.ensures.nothing yes)
    (c.pick.ensures.found yes ∙ c.pick.ensures.picked yes) in
    let done = c.allocate_runs.ensures.allocates in
    let left : (demands_of c.weave.new.self).items ≡ rest_from b first list batches = c.weave.ensures.items ∙ (ap (woven (is_left picked) list) (c.items.ensures ∙ done.list) ∙ window.rest) in
    subst (λ (d : Demands). GivesSlots ring c.allocate_runs.new.self.ring first d (demands_of c.weave.new.self) batches c.args.out.now c.allocate_runs.new.out) c.pick.ensures.same (record {
      list = left;
      spare = c.weave.ensures.room;
      next = subst (IsListBefore (first_slot b (first + length batches))) (sym left) (left_before ring.endpoints b first list batches c.every_batch_leaves_a_list.ensures.next may.may may.before);
      slots = done.slots ∙ ap (λ (xs : List (List Flow)). xs ++ replicate (length c.args.out.now.slots - length batches * b) none) window.slots;
      endpoints = done.endpoints;
      same = done.same;
    })

pub returns-clause-handed : goal.returns-clause-handed
returns-clause-handed g c =
    let ring = c.args.self.now.runs.ring in
    let picked = c.pick.new.self.log.picked in
    let list = (demands_of c.pick.new.self).items in
    let found = c.pick.new.found.items in
    let batches = c.args.batches.now in
    let first : ℕ = c.args.first_batch in
    let some : 0 < length batches = omega (arith, eqb-false _ _ (sym c.is_empty.ensures ∙ c.if-is_empty.false)) in
    let may = subst (λ (d : Demands). MayAllocate ring first d batches c.args.out.now) (sym c.pick.ensures.same) c.requires.may in
    let yes = c.if-not-pick.false in
    let window =
    idle_window ring.endpoints ring.b first (is_left picked) list found batches c.flows_fit_pairs.ensures c.every_batch_leaves_a_list.ensures.flows c.items_may_be_set_aside.ensures.woven some may.may may.before
    (c.pick.ensures.nothing yes) (c.pick.ensures.found yes ∙ c.pick.ensures.picked yes) in
    let moved = c.allocate_runs.new.self.ring.moved in
    subst (λ (d : Demands). ComeOfRing ring.b first ring.workers d.items batches (schedule_from ring.b first d.items batches) ring.moved moved) c.pick.ensures.same
    (come_of_ring ring.b first ring.workers (is_left picked) list found batches _ ring.moved moved c.allocate_runs.ensures.played window.is window.slots (window.named c.every_batch_balances.ensures))

pub returns-then-is_empty-clause-handed : goal.returns-then-is_empty-clause-handed
returns-then-is_empty-clause-handed g c =
    let ring = c.args.self.now.runs.ring in
    let list = (demands_of c.args.list.now).items in
    come_of_all ring.b c.args.first_batch ring.workers list c.args.batches.now ring.moved ring.moved
    (all_played ring.b c.args.first_batch ring.workers list c.args.batches.now 0 ring.moved ring.moved (omega (arith, eqb-true _ _ (sym c.is_empty.ensures ∙ c.if-is_empty.true)))
    (none_played ring.b c.args.first_batch ring.workers list c.args.batches.now ring.moved))
