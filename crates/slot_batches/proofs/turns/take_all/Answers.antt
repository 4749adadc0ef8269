use Rattle.std.proofs.Common.{◌≡◌, ◌+◌, ◌-◌, ◌<◌, ◌≤◌, ◌∷◌, ◌++◌, [], ℕ, List, All, length, take, drop, get_or, sym, ap, ◌∙◌, subst, arith}
use Rattle.std.proofs.Math.Seq.{take-add}
use Rattle.std.proofs.lemmas.List.{take_more, take_rest, take-append-drop, length-take, length-drop, take_all}
use Rattle.greedy_rules.specs.declared.flows.Item.{Item}
use Rattle.slot_batches.specs.declared.filling.Filling.{Filling}
use Rattle.slot_batches.specs.Filled.{HasTakenUp, MayBeTakenUp}
use Rattle.slot_batches.specs.Parts.{fill_of, IsSameBatch}
use Rattle.slot_batches.specs.Rests.{TakesNone}
use Rattle.slot_batches.proofs.StageLemmas.{may_front, may_there}
use Rattle.slot_batches.proofs.turns.take_all.Goals as goal

abbrev nothing : Item
nothing = record { flow = record { src = 0; dst = 0 }; need = 0; last = 0 }

-- the first so many of what may be taken up
may_first : (endpoints number : ℕ) (items : List Item) (n : ℕ) → MayBeTakenUp endpoints number items → MayBeTakenUp endpoints number (take n items)
may_first endpoints number items n may =
    may_front endpoints number (take n items) (drop n items) (subst (MayBeTakenUp endpoints number) (sym (take-append-drop n items)) may)

-- one batch, and then the same
same_on : (was mid now : Filling) → IsSameBatch was.maps.limits was.endpoints was.b was.first_slot mid → IsSameBatch mid.maps.limits mid.endpoints mid.b mid.first_slot now
    → IsSameBatch was.maps.limits was.endpoints was.b was.first_slot now
same_on was mid now first then = record {
  same_limits = then.same_limits ∙ first.same_limits;
  same_endpoints = then.same_endpoints ∙ first.same_endpoints;
  same_b = then.same_b ∙ first.same_b;
  same_first = then.same_first ∙ first.same_first;
}

-- so many from this place on
part : (items : List Item) (from idle : ℕ) → take from items ++ take (from + idle - from) (drop from items) ≡ take (from + idle) items
part items from idle = ap (λ (n : ℕ). take from items ++ take n (drop from items)) (omega arith) ∙ sym (take-add from idle items)

may_on : (was now : Filling) (items : List Item) (n : ℕ) → IsSameBatch was.maps.limits was.endpoints was.b was.first_slot now → MayBeTakenUp was.endpoints was.first_slot items
    → MayBeTakenUp now.endpoints now.first_slot (take n items)
may_on was now items n same may =
    may_there was.maps.limits was.endpoints was.b was.first_slot now (take n items) same (may_first was.endpoints was.first_slot items n may)

may_part : (was now : Filling) (items : List Item) (from idle : ℕ) → IsSameBatch was.maps.limits was.endpoints was.b was.first_slot now → MayBeTakenUp was.endpoints was.first_slot items
    → MayBeTakenUp now.endpoints now.first_slot (take from items ++ take (from + idle - from) (drop from items))
may_part was now items from idle same may =
    subst (MayBeTakenUp now.endpoints now.first_slot) (sym (part items from idle)) (may_on was now items (from + idle) same may)

-- what was taken up once so many were kept
abbrev Keeps : Filling → List Item → Filling → Type 0
Keeps now run new = (taken : List Item) → HasTakenUp taken (fill_of now) → MayBeTakenUp now.endpoints now.first_slot (taken ++ run) → HasTakenUp (taken ++ run) (fill_of new)

kept : (was now new : Filling) (items : List Item) (from idle : ℕ) → IsSameBatch was.maps.limits was.endpoints was.b was.first_slot now → MayBeTakenUp was.endpoints was.first_slot items
    → HasTakenUp (take from items) (fill_of now) → Keeps now (take (from + idle - from) (drop from items)) new → HasTakenUp (take (from + idle) items) (fill_of new)
kept was now new items from idle same may so_far keeps =
    subst (λ (xs : List Item). HasTakenUp xs (fill_of new)) (part items from idle) (keeps (take from items) so_far (may_part was now items from idle same may))

-- one more
more : (was now : Filling) (items : List Item) (at : ℕ) → at < length items → IsSameBatch was.maps.limits was.endpoints was.b was.first_slot now → MayBeTakenUp was.endpoints was.first_slot items
    → MayBeTakenUp now.endpoints now.first_slot (take at items ++ get_or items at nothing ∷ [])
more was now items at inside same may =
    subst (MayBeTakenUp now.endpoints now.first_slot) (take_more items at nothing inside) (may_on was now items (at + 1) same may)

pub keep-requires-clause-may : goal.keep-requires-clause-may
keep-requires-clause-may c = (
  take c.loop-from.from c.args.items.now,
  c.loop-from.invariant.taken_up,
  may_part c.args.filling.now c.loop-from.filling c.args.items.now c.loop-from.from c.idle_front-idle.result c.loop-from.invariant.same c.requires.may,
)

pub keep-requires-clause-none : goal.keep-requires-clause-none
keep-requires-clause-none c =
    let items = c.args.items.now in
    let from : ℕ = c.loop-from.from in
    let idle : ℕ = c.idle_front-idle.result in
    let P : Item → Type 0 = TakesNone c.loop-from.filling.maps in
    let less : from + idle - from ≡ idle = omega arith in
    subst (λ (n : ℕ). All P (take n (drop from items))) (sym less)
    (subst (λ (xs : List Item). All P (take idle xs)) (take_rest items from) c.idle_front-idle.ensures.none)

pub take_up-requires-clause-may : goal.take_up-requires-clause-may
take_up-requires-clause-may c =
    let items = c.args.items.now in
    let so_far = c.loop-from.invariant in
    let was = c.args.filling.now in (
      take (c.loop-from.from + c.idle_front-idle.result) items,
      kept was c.loop-from.filling c.keep.new.self items c.loop-from.from c.idle_front-idle.result so_far.same c.requires.may so_far.taken_up c.keep.ensures.taken_up,
      more was c.keep.new.self items (c.loop-from.from + c.idle_front-idle.result) c.if-from-items.true (same_on was c.loop-from.filling c.keep.new.self so_far.same c.keep.ensures.same) c.requires.may,
    )

pub loop-from-preserved-then-from-items : goal.loop-from-preserved-then-from-items
loop-from-preserved-then-from-items c =
    let items = c.args.items.now in
    let at : ℕ = c.loop-from.from + c.idle_front-idle.result in
    let so_far = c.loop-from.invariant in
    let was = c.args.filling.now in
    let mid = c.keep.new.self in
    let same = same_on was c.loop-from.filling mid so_far.same c.keep.ensures.same in
    record {
      within = omega (arith, c.if-from-items.true);
      room = c.take_up.ensures.room;
      same = same_on was mid c.take_up.new.self same c.take_up.ensures.same;
      taken_up = subst (λ (xs : List Item). HasTakenUp xs (fill_of c.take_up.new.self)) (sym (take_more items at nothing c.if-from-items.true))
          (c.take_up.ensures.taken_up (take at items) (kept was c.loop-from.filling mid items c.loop-from.from c.idle_front-idle.result so_far.same c.requires.may so_far.taken_up c.keep.ensures.taken_up)
          (more was mid items at c.if-from-items.true same c.requires.may));
    }

pub loop-from-preserved : goal.loop-from-preserved
loop-from-preserved c =
    let items = c.args.items.now in
    let so_far = c.loop-from.invariant in
    let was = c.args.filling.now in
    record {
      within = omega (arith, c.idle_front-idle.ensures.within, length-take (length items - c.loop-from.from) (drop c.loop-from.from items), length-drop c.loop-from.from items, so_far.within);
      room = c.keep.ensures.room;
      same = same_on was c.loop-from.filling c.keep.new.self so_far.same c.keep.ensures.same;
      taken_up = kept was c.loop-from.filling c.keep.new.self items c.loop-from.from c.idle_front-idle.result so_far.same c.requires.may so_far.taken_up c.keep.ensures.taken_up;
    }

pub returns-clause-taken_up : goal.returns-clause-taken_up
returns-clause-taken_up c =
    let items = c.args.items.now in
    let all : length items ≤ c.loop-from.from = omega (arith, c.loop-from-test.false) in
    subst (λ (xs : List Item). HasTakenUp xs (fill_of c.loop-from.filling)) (take_all c.loop-from.from items all) c.loop-from.invariant.taken_up
