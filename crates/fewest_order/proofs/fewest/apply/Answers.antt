use Rattle.std.proofs.Common.{◌≡◌, ◌++◌, [], List, length, sym, ap, ◌∙◌, subst, arith, length-append}
use Rattle.std.specs.List.Sorted.{IsNonDecreasingBy}
use Rattle.list_facts.specs.Order.{sort_by}
use Rattle.list_facts.proofs.StableSort.{rises_from, length-sort_by}
use Rattle.greedy_rules.specs.declared.flows.Item.{Item}
use Rattle.greedy_rules.specs.declared.flows.Entry.{Entry}
use Rattle.greedy_rules.specs.Demands.{opened, after_batch_by}
use Rattle.greedy_rules.specs.Examples.{remaining}
use Rattle.slot_batches.proofs.ListOrder.{in_order_from, in_order-sort_by}
use Rattle.fewest_order.specs.FewestFirst.{kept_items, raised_of, lowered_of}
use Rattle.fewest_order.proofs.PlaceLemmas.{need_of}
use Rattle.fewest_order.proofs.FewestLemmas.{parts_length, rises-kept, sorted_among, nothing_applied}
use Rattle.fewest_order.proofs.fewest.apply.Goals as goal

-- a part of the list, appended to what was cleared
part_is : (part : List Item → List Item) (items xs before now : List Item) → before ≡ [] → xs ≡ items → now ≡ before ++ part xs → now ≡ part items
part_is part items xs before now empty same is = is ∙ (ap (λ (zs : List Item). zs ++ part xs) empty ∙ ap part same)

pub returns-then-is_empty-clause-items : goal.returns-then-is_empty-clause-items
returns-then-is_empty-clause-items c =
    let items : List Item = c.args.items.now.items in
    let none : c.args.batch.now.entries ≡ [] = c.is_empty.ensures.0 c.if-is_empty.true in
    sym (nothing_applied items (rises_from need_of items c.requires.order)) ∙ ap (λ (es : List Entry). after_batch_by remaining es items) (sym none)

pub push_all_opened-requires : goal.push_all_opened-requires
push_all_opened-requires c =
    let entries : List Entry = c.args.batch.now.entries in
    let items : List Item = c.args.items.now.items in
    let lowered : c.part_all.new.lowered.items ≡ lowered_of entries items = part_is (lowered_of entries) items c.deref.result.now c.clear-3.new.self.items c.part_all.new.lowered.items c.clear-3.ensures.items c.deref.ensures.value c.part_all.ensures.lowered in
    omega (arith, ap length lowered, parts_length entries items, c.requires.lowered, c.part_all.ensures.lowered_room, c.clear-3.ensures.capacity, c.part_all.new.lowered.ok.0)

pub put_behind-requires-clause-kept : goal.put_behind-requires-clause-kept
put_behind-requires-clause-kept c =
    let entries : List Entry = c.args.batch.now.entries in
    let items : List Item = c.args.items.now.items in
    let kept : c.part_all.new.kept.items ≡ kept_items entries items = part_is (kept_items entries) items c.deref.result.now c.clear.new.self.items c.part_all.new.kept.items c.clear.ensures.items c.deref.ensures.value c.part_all.ensures.kept in
    subst (IsNonDecreasingBy need_of) (sym kept) (in_order_from need_of (kept_items entries items) (rises-kept entries items (rises_from need_of items c.requires.order)))

pub put_behind-requires-clause-others : goal.put_behind-requires-clause-others
put_behind-requires-clause-others c =
    subst (IsNonDecreasingBy need_of) (sym (c.deref-2.ensures.value ∙ c.in_ok-sort-2.ensures.sorted)) (in_order-sort_by need_of c.push_all_opened.new.items.items)

pub put_behind-requires-clause-room : goal.put_behind-requires-clause-room
put_behind-requires-clause-room c =
    let entries : List Entry = c.args.batch.now.entries in
    let items : List Item = c.args.items.now.items in
    let kept : c.part_all.new.kept.items ≡ kept_items entries items = part_is (kept_items entries) items c.deref.result.now c.clear.new.self.items c.part_all.new.kept.items c.clear.ensures.items c.deref.ensures.value c.part_all.ensures.kept in
    let lowered : c.part_all.new.lowered.items ≡ lowered_of entries items = part_is (lowered_of entries) items c.deref.result.now c.clear-3.new.self.items c.part_all.new.lowered.items c.clear-3.ensures.items c.deref.ensures.value c.part_all.ensures.lowered in
    let others : c.deref-2.result.now ≡ sort_by need_of (lowered_of entries items ++ opened entries) =
    c.deref-2.ensures.value ∙ (c.in_ok-sort-2.ensures.sorted ∙ ap (sort_by need_of) (c.push_all_opened.ensures.items ∙ ap (λ (xs : List Item). xs ++ opened entries) lowered)) in
    omega (
      arith,
      ap length kept,
      ap length others,
      length-sort_by need_of (lowered_of entries items ++ opened entries),
      length-append (lowered_of entries items) (opened entries),
      parts_length entries items,
      c.requires.items,
      c.part_all.new.kept.ok.0,
    )

pub put_among-requires-clause-standing : goal.put_among-requires-clause-standing
put_among-requires-clause-standing c =
    subst (IsNonDecreasingBy need_of) (sym (c.deref-3.ensures.value ∙ c.put_behind.ensures.kept)) (in_order-sort_by need_of (c.part_all.new.kept.items ++ c.deref-2.result.now))

pub put_among-requires-clause-others : goal.put_among-requires-clause-others
put_among-requires-clause-others c = subst (IsNonDecreasingBy need_of) (sym (c.deref-4.ensures.value ∙ c.in_ok-sort.ensures.sorted)) (in_order-sort_by need_of c.part_all.new.raised.items)

pub put_among-requires-clause-room : goal.put_among-requires-clause-room
put_among-requires-clause-room c =
    let entries : List Entry = c.args.batch.now.entries in
    let items : List Item = c.args.items.now.items in
    let kept : c.part_all.new.kept.items ≡ kept_items entries items = part_is (kept_items entries) items c.deref.result.now c.clear.new.self.items c.part_all.new.kept.items c.clear.ensures.items c.deref.ensures.value c.part_all.ensures.kept in
    let raised : c.part_all.new.raised.items ≡ raised_of entries items = part_is (raised_of entries) items c.deref.result.now c.clear-2.new.self.items c.part_all.new.raised.items c.clear-2.ensures.items c.deref.ensures.value c.part_all.ensures.raised in
    let lowered : c.part_all.new.lowered.items ≡ lowered_of entries items = part_is (lowered_of entries) items c.deref.result.now c.clear-3.new.self.items c.part_all.new.lowered.items c.clear-3.ensures.items c.deref.ensures.value c.part_all.ensures.lowered in
    let others : c.deref-2.result.now ≡ sort_by need_of (lowered_of entries items ++ opened entries) =
    c.deref-2.ensures.value ∙ (c.in_ok-sort-2.ensures.sorted ∙ ap (sort_by need_of) (c.push_all_opened.ensures.items ∙ ap (λ (xs : List Item). xs ++ opened entries) lowered)) in
    let standing : c.deref-3.result.now ≡ sort_by need_of (kept_items entries items ++ sort_by need_of (lowered_of entries items ++ opened entries)) =
    c.deref-3.ensures.value
    ∙ (c.put_behind.ensures.kept
    ∙ (ap (λ (xs : List Item). sort_by need_of (xs ++ c.deref-2.result.now)) kept ∙ ap (λ (xs : List Item). sort_by need_of (kept_items entries items ++ xs)) others)) in
    let put : c.deref-4.result.now ≡ sort_by need_of (raised_of entries items) = c.deref-4.ensures.value ∙ (c.in_ok-sort.ensures.sorted ∙ ap (sort_by need_of) raised) in
    omega (
      arith,
      ap length standing,
      ap length put,
      length-sort_by need_of (raised_of entries items),
      length-sort_by need_of (kept_items entries items ++ sort_by need_of (lowered_of entries items ++ opened entries)),
      length-append (kept_items entries items) (sort_by need_of (lowered_of entries items ++ opened entries)),
      length-sort_by need_of (lowered_of entries items ++ opened entries),
      length-append (lowered_of entries items) (opened entries),
      parts_length entries items,
      c.requires.items,
      c.requires.kept,
      c.clear.ensures.capacity,
      c.part_all.ensures.kept_room,
      c.put_behind.ensures.spare_room,
      c.clear-4.ensures.capacity,
      c.clear-4.ensures.len,
    )

pub returns-clause-items : goal.returns-clause-items
returns-clause-items c =
    let entries : List Entry = c.args.batch.now.entries in
    let items : List Item = c.args.items.now.items in
    let kept : c.part_all.new.kept.items ≡ kept_items entries items = part_is (kept_items entries) items c.deref.result.now c.clear.new.self.items c.part_all.new.kept.items c.clear.ensures.items c.deref.ensures.value c.part_all.ensures.kept in
    let raised : c.part_all.new.raised.items ≡ raised_of entries items = part_is (raised_of entries) items c.deref.result.now c.clear-2.new.self.items c.part_all.new.raised.items c.clear-2.ensures.items c.deref.ensures.value c.part_all.ensures.raised in
    let lowered : c.part_all.new.lowered.items ≡ lowered_of entries items = part_is (lowered_of entries) items c.deref.result.now c.clear-3.new.self.items c.part_all.new.lowered.items c.clear-3.ensures.items c.deref.ensures.value c.part_all.ensures.lowered in
    let others : c.deref-2.result.now ≡ sort_by need_of (lowered_of entries items ++ opened entries) =
    c.deref-2.ensures.value ∙ (c.in_ok-sort-2.ensures.sorted ∙ ap (sort_by need_of) (c.push_all_opened.ensures.items ∙ ap (λ (xs : List Item). xs ++ opened entries) lowered)) in
    let standing : c.deref-3.result.now ≡ sort_by need_of (kept_items entries items ++ sort_by need_of (lowered_of entries items ++ opened entries)) =
    c.deref-3.ensures.value
    ∙ (c.put_behind.ensures.kept
    ∙ (ap (λ (xs : List Item). sort_by need_of (xs ++ c.deref-2.result.now)) kept ∙ ap (λ (xs : List Item). sort_by need_of (kept_items entries items ++ xs)) others)) in
    let put : c.deref-4.result.now ≡ sort_by need_of (raised_of entries items) = c.deref-4.ensures.value ∙ (c.in_ok-sort.ensures.sorted ∙ ap (sort_by need_of) raised) in
    c.put_among.ensures.items
    ∙ (ap (λ (xs : List Item). xs ++ sort_by need_of (c.deref-4.result.now ++ c.deref-3.result.now)) c.clear-4.ensures.items
    ∙ (ap (λ (xs : List Item). sort_by need_of (xs ++ c.deref-3.result.now)) put
    ∙ (ap (λ (xs : List Item). sort_by need_of (sort_by need_of (raised_of entries items) ++ xs)) standing ∙ sorted_among entries items (rises_from need_of items c.requires.order))))
