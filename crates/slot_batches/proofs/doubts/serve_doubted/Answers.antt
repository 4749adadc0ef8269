use Rattle.std.proofs.Common.{◌≡◌, ◌<◌, ◌+◌, ◌^◌, ℕ, List, ◌++◌, length, take, get_or, w64, refl, sym, ap, ◌∙◌, subst, rules, arith}
use Rattle.std.specs.Int.{trailing_zeros}
use Rattle.std.proofs.lemmas.List.{take_all}
use Rattle.std.proofs.lemmas.List.Elements.{All-get_or}
use Rattle.greedy_rules.specs.declared.flows.Item.{Item}
use Rattle.greedy_rules.specs.Batches.{entry_of}
use Rattle.greedy_rules.specs.Demands.{need_with, with_batch}
use Rattle.endpoint_bitmaps.specs.Slots.{has_slot}
use Rattle.endpoint_bitmaps.proofs.Facts.{has_slot-none}
use Rattle.slot_batches.specs.ArrayStands.{HasBeenFed}
use Rattle.slot_batches.specs.Doubts.{left_of}
use Rattle.slot_batches.specs.Parts.{fill_of, with_waiting}
use Rattle.slot_batches.proofs.DoubtLemmas.{bit_added, bit_kept}
use Rattle.slot_batches.proofs.FedByDoubts.{serving_starts, passed, next_within, next_unserved, as_fed, has_taken, may_take, one_on}
use Rattle.slot_batches.proofs.doubts.serve_doubted.Goals as goal

abbrev nothing : Item
nothing = record { flow = record { src = 0; dst = 0 }; need = 0; last = 0 }

pub loop-rest-init : goal.loop-rest-init
loop-rest-init c = record {
  room = c.requires.room;
  same = record { same_limits = refl; same_endpoints = refl; same_b = refl; same_first = refl };
  waiting = refl;
  to = (0, serving_starts c.args.batch.now (fill_of c.args.filling.now) c.args.items.now c.args.doubted c.requires.within c.requires.others);
}

pub slice_copy_out-fed : goal.slice_copy_out-fed
slice_copy_out-fed c =
    let batch = c.args.batch.now in
    let start = fill_of c.args.filling.now in
    let now = fill_of c.loop-rest.filling in
    let list = c.args.items.now in
    let items = c.loop-rest.items in
    let to = c.loop-rest.invariant.to in
    let fits : c.loop-rest.rest < 2 ^ 64 = search rules in
    omega (arith, next_within batch start now list items c.args.doubted c.loop-rest.rest c.loop-rest.served to.0 nothing fits c.loop-rest-test.true to.1, to.1.long)

pub bounds-items-at : goal.bounds-items-at
bounds-items-at c =
    let batch = c.args.batch.now in
    let start = fill_of c.args.filling.now in
    let now = fill_of c.loop-rest.filling in
    let list = c.args.items.now in
    let items = c.loop-rest.items in
    let to = c.loop-rest.invariant.to in
    let fits : c.loop-rest.rest < 2 ^ 64 = search rules in
    omega (arith, next_within batch start now list items c.args.doubted c.loop-rest.rest c.loop-rest.served to.0 nothing fits c.loop-rest-test.true to.1, to.1.long)

pub with_near_entry-item-requires-clause-need : goal.with_near_entry-item-requires-clause-need
with_near_entry-item-requires-clause-need c =
    let batch = c.args.batch.now in
    let start = fill_of c.args.filling.now in
    let now = fill_of c.loop-rest.filling in
    let list = c.args.items.now in
    let items = c.loop-rest.items in
    let to = c.loop-rest.invariant.to in
    let fits : c.loop-rest.rest < 2 ^ 64 = search rules in
    let Fits : Item → Type 0 = λ item. need_with (entry_of batch.entries item.flow) item.need < 2 ^ 32 in
    subst Fits (sym (as_fed batch start now list items c.args.doubted c.loop-rest.rest c.loop-rest.served to.0 nothing fits c.loop-rest-test.true to.1))
    (All-get_or Fits list (trailing_zeros w64 c.loop-rest.rest) nothing (next_within batch start now list items c.args.doubted c.loop-rest.rest c.loop-rest.served to.0 nothing fits c.loop-rest-test.true to.1) c.requires.needs)

pub serve_apart-requires-clause-may : goal.serve_apart-requires-clause-may
serve_apart-requires-clause-may c =
    let batch = c.args.batch.now in
    let start = fill_of c.args.filling.now in
    let now = fill_of c.loop-rest.filling in
    let list = c.args.items.now in
    let items = c.loop-rest.items in
    let to = c.loop-rest.invariant.to in
    let fits : c.loop-rest.rest < 2 ^ 64 = search rules in
    let item = c.with_near_entry-item.result in
    let is : item ≡ with_batch batch.entries (get_or list (trailing_zeros w64 c.loop-rest.rest) nothing) =
    c.with_near_entry-item.ensures ∙ ap (with_batch batch.entries) (as_fed batch start now list items c.args.doubted c.loop-rest.rest c.loop-rest.served to.0 nothing fits c.loop-rest-test.true to.1) in
    let may = c.requires.may in (
      _,
      _,
      has_taken batch start now list items c.args.doubted c.loop-rest.rest c.loop-rest.served to.0 nothing fits c.loop-rest-test.true to.1 item is may.0 may.1 may.2,
      may_take batch start now list items c.args.doubted c.loop-rest.rest c.loop-rest.served to.0 nothing fits c.loop-rest-test.true to.1 item is may.0 may.1 may.2,
    )

pub loop-rest-preserved-then-serve_apart : goal.loop-rest-preserved-then-serve_apart
loop-rest-preserved-then-serve_apart c =
    let batch = c.args.batch.now in
    let start = fill_of c.args.filling.now in
    let now = fill_of c.loop-rest.filling in
    let list = c.args.items.now in
    let items = c.loop-rest.items in
    let to = c.loop-rest.invariant.to in
    let fits : c.loop-rest.rest < 2 ^ 64 = search rules in
    let served : ℕ = c.loop-rest.served in
    let next : ℕ = trailing_zeros w64 c.loop-rest.rest in
    let item = c.with_near_entry-item.result in
    let is : item ≡ with_batch batch.entries (get_or list next nothing) = c.with_near_entry-item.ensures ∙ ap (with_batch batch.entries) (as_fed batch start now list items c.args.doubted c.loop-rest.rest c.loop-rest.served to.0 nothing fits c.loop-rest-test.true to.1) in
    let below : next < 64 = omega (arith, next_within batch start now list items c.args.doubted c.loop-rest.rest c.loop-rest.served to.0 nothing fits c.loop-rest-test.true to.1, c.requires.few) in
    let kept = c.serve_apart.ensures in
    let so_far = c.loop-rest.invariant.same in
    record {
      room = kept.room;
      same = record {
        same_limits = kept.same.same_limits ∙ so_far.same_limits;
        same_endpoints = kept.same.same_endpoints ∙ so_far.same_endpoints;
        same_b = kept.same.same_b ∙ so_far.same_b;
        same_first = kept.same.same_first ∙ so_far.same_first;
      };
      waiting = kept.waiting ∙ c.loop-rest.invariant.waiting;
      to = (
        next + 1,
        one_on batch start now list items c.args.doubted c.loop-rest.rest c.loop-rest.served to.0 nothing fits c.loop-rest-test.true to.1 item is (fill_of c.serve_apart.new.self) _ c.serve_apart.result
            kept.same.same_endpoints kept.same.same_first kept.same.same_limits kept.no_more kept.taken_up
            (bit_added served _ next below refl ∙ sym c.if-serve_apart.true)
            (λ k apart. bit_kept served _ next k below refl apart),
      );
    }

pub loop-rest-preserved : goal.loop-rest-preserved
loop-rest-preserved c =
    let batch = c.args.batch.now in
    let start = fill_of c.args.filling.now in
    let now = fill_of c.loop-rest.filling in
    let list = c.args.items.now in
    let items = c.loop-rest.items in
    let to = c.loop-rest.invariant.to in
    let fits : c.loop-rest.rest < 2 ^ 64 = search rules in
    let served : ℕ = c.loop-rest.served in
    let next : ℕ = trailing_zeros w64 c.loop-rest.rest in
    let item = c.with_near_entry-item.result in
    let is : item ≡ with_batch batch.entries (get_or list next nothing) = c.with_near_entry-item.ensures ∙ ap (with_batch batch.entries) (as_fed batch start now list items c.args.doubted c.loop-rest.rest c.loop-rest.served to.0 nothing fits c.loop-rest-test.true to.1) in
    let kept = c.serve_apart.ensures in
    let so_far = c.loop-rest.invariant.same in
    record {
      room = kept.room;
      same = record {
        same_limits = kept.same.same_limits ∙ so_far.same_limits;
        same_endpoints = kept.same.same_endpoints ∙ so_far.same_endpoints;
        same_b = kept.same.same_b ∙ so_far.same_b;
        same_first = kept.same.same_first ∙ so_far.same_first;
      };
      waiting = kept.waiting ∙ c.loop-rest.invariant.waiting;
      to = (
        next + 1,
        one_on batch start now list items c.args.doubted c.loop-rest.rest c.loop-rest.served to.0 nothing fits c.loop-rest-test.true to.1 item is (fill_of c.serve_apart.new.self) served c.serve_apart.result
            kept.same.same_endpoints kept.same.same_first kept.same.same_limits kept.no_more kept.taken_up
            (next_unserved batch start now list items c.args.doubted c.loop-rest.rest c.loop-rest.served to.0 nothing fits c.loop-rest-test.true to.1 ∙ sym c.if-serve_apart.false)
            (λ k apart. refl),
      );
    }

pub returns-clause-fed : goal.returns-clause-fed
returns-clause-fed c = λ fed is may.
    let batch = c.args.batch.now in
    let start = fill_of c.args.filling.now in
    let now = fill_of c.loop-rest.filling in
    let list = c.args.items.now in
    let items = c.loop-rest.items in
    let served : ℕ = c.loop-rest.served in
    let to = c.loop-rest.invariant.to in
    let all = passed batch start now list items c.args.doubted c.loop-rest.rest served to.0 (length list) to.1 to.1.within (omega arith)
    (λ k from before. ap (λ (n : ℕ). has_slot n k) c.loop-rest-test.false ∙ has_slot-none k) fed is may in
    subst (λ (xs : List Item). HasBeenFed batch (fed ++ xs) (with_waiting (start.waiting ++ left_of served 0 items) now) 0) (take_all (length list) list (omega arith))
    (subst (λ (xs : List Item). HasBeenFed batch (fed ++ take (length list) list) (with_waiting (start.waiting ++ left_of served 0 xs) now) 0) (take_all (length list) items (omega (arith, to.1.long))) all)

pub returns-clause-count : goal.returns-clause-count
returns-clause-count c = c.loop-rest.invariant.to.1.long
