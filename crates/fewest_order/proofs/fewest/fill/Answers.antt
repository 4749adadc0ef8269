use Rattle.std.proofs.Common.{◌≡◌, ◌+◌, ◌≤◌, ◌++◌, ℕ, List, length, take, sym, ap, ◌∙◌, subst, arith}
use Rattle.std.specs.Prelude.{vec_len, vec_capacity}
use Rattle.std.specs.List.Sorted.{IsNonDecreasingBy}
use Rattle.std.proofs.lemmas.Bool.{cond-true}
use Rattle.list_facts.specs.Order.{sort_by}
use Rattle.list_facts.proofs.StableSort.{length-sort_by}
use Rattle.greedy_rules.specs.declared.flows.Item.{Item}
use Rattle.slot_batches.specs.Filled.{MayBeTakenUp}
use Rattle.slot_batches.proofs.ListOrder.{in_order-sort_by}
use Rattle.fewest_order.proofs.PlaceLemmas.{need_of}
use Rattle.fewest_order.proofs.FewestLemmas.{filled}
use Rattle.fewest_order.proofs.fewest.fill.Goals as goal

pub returns-in_err-sort-clause-slots : goal.returns-in_err-sort-clause-slots
returns-in_err-sort-clause-slots c =
    (filled c.args.limits c.args.first_slot c.args.turns.now.b c.place-idle.result c.args.items.now.items c.deref.result.now c.deref-2.result.now c.fill.new.self c.requires.order
    (subst (λ (n : ℕ). MayBeTakenUp n c.args.first_slot c.args.items.now.items) (sym c.fill.ensures.endpoints) c.requires.may) c.deref.ensures.value c.place-idle.ensures.within c.place-idle.ensures.before
    c.deref-2.ensures.value c.fill.ensures.taken_up c.fill.ensures.b c.fill.ensures.first c.fill.ensures.limits).slots_are

pub put_among-requires-clause-standing : goal.put_among-requires-clause-standing
put_among-requires-clause-standing c =
    subst (IsNonDecreasingBy need_of) (sym c.waiting.ensures)
    (filled c.args.limits c.args.first_slot c.args.turns.now.b c.place-idle.result c.args.items.now.items c.deref.result.now c.deref-2.result.now c.fill.new.self c.requires.order
    (subst (λ (n : ℕ). MayBeTakenUp n c.args.first_slot c.args.items.now.items) (sym c.fill.ensures.endpoints) c.requires.may) c.deref.ensures.value c.place-idle.ensures.within c.place-idle.ensures.before
    c.deref-2.ensures.value c.fill.ensures.taken_up c.fill.ensures.b c.fill.ensures.first c.fill.ensures.limits).order

pub put_among-requires-clause-others : goal.put_among-requires-clause-others
put_among-requires-clause-others c =
    subst (IsNonDecreasingBy need_of) (sym (c.deref-3.ensures.value ∙ c.in_ok-sort.ensures.sorted)) (in_order-sort_by need_of c.extend_from_slice.new.self.items)

pub put_among-requires-clause-room : goal.put_among-requires-clause-room
put_among-requires-clause-room c =
    let lengths : length c.fill.new.self.waiting + length c.fill.new.self.served + c.place-idle.result ≡ length c.args.items.now.items =
    (filled c.args.limits c.args.first_slot c.args.turns.now.b c.place-idle.result c.args.items.now.items c.deref.result.now c.deref-2.result.now c.fill.new.self c.requires.order
    (subst (λ (n : ℕ). MayBeTakenUp n c.args.first_slot c.args.items.now.items) (sym c.fill.ensures.endpoints) c.requires.may) c.deref.ensures.value c.place-idle.ensures.within c.place-idle.ensures.before
    c.deref-2.ensures.value c.fill.ensures.taken_up c.fill.ensures.b c.fill.ensures.first c.fill.ensures.limits).lengths in
    let room : vec_len c.clear.new.self + length c.served.result.now ≤ vec_capacity c.clear.new.self =
    omega (arith, c.clear.ensures.len, c.clear.ensures.capacity, ap length c.served.ensures, lengths, c.requires.room) in
    let copied : c.extend_from_slice.new.self.items ≡ c.fill.new.self.served =
    c.extend_from_slice.ensures.items
    ∙ (cond-true _ (c.clear.new.self.items ++ c.served.result.now) c.clear.new.self.items (c.extend_from_slice.ensures.succeeds room)
    ∙ (ap (λ (xs : List Item). xs ++ c.served.result.now) c.clear.ensures.items ∙ c.served.ensures)) in
    let sorted : c.deref-3.result.now ≡ sort_by need_of c.fill.new.self.served = c.deref-3.ensures.value ∙ (c.in_ok-sort.ensures.sorted ∙ ap (sort_by need_of) copied) in
    omega (
      arith,
      ap length sorted,
      length-sort_by need_of c.fill.new.self.served,
      ap length c.waiting.ensures,
      lengths,
      c.truncate.ensures.len,
      c.truncate.ensures.capacity,
      c.args.items.now.ok.0,
    )

pub returns-clause-items : goal.returns-clause-items
returns-clause-items c =
    let now = c.fill.new.self in
    let front : List Item = take c.place-idle.result c.args.items.now.items in
    let all =
    filled c.args.limits c.args.first_slot c.args.turns.now.b c.place-idle.result c.args.items.now.items c.deref.result.now c.deref-2.result.now c.fill.new.self c.requires.order
    (subst (λ (n : ℕ). MayBeTakenUp n c.args.first_slot c.args.items.now.items) (sym c.fill.ensures.endpoints) c.requires.may) c.deref.ensures.value c.place-idle.ensures.within c.place-idle.ensures.before
    c.deref-2.ensures.value c.fill.ensures.taken_up c.fill.ensures.b c.fill.ensures.first c.fill.ensures.limits in
    let room : vec_len c.clear.new.self + length c.served.result.now ≤ vec_capacity c.clear.new.self =
    omega (arith, c.clear.ensures.len, c.clear.ensures.capacity, ap length c.served.ensures, all.lengths, c.requires.room) in
    let copied : c.extend_from_slice.new.self.items ≡ now.served =
    c.extend_from_slice.ensures.items
    ∙ (cond-true _ (c.clear.new.self.items ++ c.served.result.now) c.clear.new.self.items (c.extend_from_slice.ensures.succeeds room)
    ∙ (ap (λ (xs : List Item). xs ++ c.served.result.now) c.clear.ensures.items ∙ c.served.ensures)) in
    let sorted : c.deref-3.result.now ≡ sort_by need_of now.served = c.deref-3.ensures.value ∙ (c.in_ok-sort.ensures.sorted ∙ ap (sort_by need_of) copied) in
    c.put_among.ensures.items
    ∙ (ap (λ (xs : List Item). xs ++ sort_by need_of (c.waiting.result.now ++ c.deref-3.result.now)) c.truncate.ensures.items
    ∙ (ap (λ (xs : List Item). front ++ sort_by need_of (xs ++ c.deref-3.result.now)) c.waiting.ensures
    ∙ (ap (λ (xs : List Item). front ++ sort_by need_of (now.waiting ++ xs)) sorted ∙ all.left)))

pub returns-clause-slots : goal.returns-clause-slots
returns-clause-slots c =
    (filled c.args.limits c.args.first_slot c.args.turns.now.b c.place-idle.result c.args.items.now.items c.deref.result.now c.deref-2.result.now c.fill.new.self c.requires.order
    (subst (λ (n : ℕ). MayBeTakenUp n c.args.first_slot c.args.items.now.items) (sym c.fill.ensures.endpoints) c.requires.may) c.deref.ensures.value c.place-idle.ensures.within c.place-idle.ensures.before
    c.deref-2.ensures.value c.fill.ensures.taken_up c.fill.ensures.b c.fill.ensures.first c.fill.ensures.limits).slots_are
