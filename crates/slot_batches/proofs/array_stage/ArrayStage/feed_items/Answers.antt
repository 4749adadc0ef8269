use Rattle.std.proofs.Common.{◌≤◌, ◌+◌, ◌-◌, ◌++◌, ℕ, List, false, length, take, drop, sym, subst, arith}
use Rattle.std.proofs.lemmas.List.{take_all, length-take, length-drop}
use Rattle.greedy_rules.specs.declared.flows.Item.{Item}
use Rattle.slot_batches.specs.ArrayStands.{ArrayStands, array_endpoints, array_first}
use Rattle.slot_batches.proofs.FedLemmas.{part_on, may_feed_rest, one_more_fed, may_next, same_on}
use Rattle.slot_batches.proofs.array_stage.ArrayStage.feed_items.Goals as goal

abbrev nothing : Item
nothing = record { flow = record { src = 0; dst = 0 }; need = 0; last = 0 }

pub keep_resting-from-requires : goal.keep_resting-from-requires
keep_resting-from-requires c =
    let items = c.args.items.now in
    let was = c.args.self.now in
    let so_far = c.loop-from.invariant in
    let may = c.requires.may in
    record {
      may = (
        may.0 ++ take c.loop-from.from items,
        may.1,
        so_far.stands may.0 may.1 may.2 may.3,
        may_feed_rest c.args.batch.now.entries (array_endpoints was) (array_first was) (array_endpoints c.loop-from.self) (array_first c.loop-from.self) may.0 items c.loop-from.from may.3
            so_far.work.same_endpoints so_far.work.same_first,
      );
    }

pub feed-requires-clause-may : goal.feed-requires-clause-may
feed-requires-clause-may c =
    let batch = c.args.batch.now in
    let items = c.args.items.now in
    let was = c.args.self.now in
    let from : ℕ = c.loop-from.from in
    let count : ℕ = c.keep_resting-from.result in
    let mid = c.keep_resting-from.new.self in
    let so_far = c.loop-from.invariant in
    let may = c.requires.may in
    let rest = may_feed_rest batch.entries (array_endpoints was) (array_first was) (array_endpoints c.loop-from.self) (array_first c.loop-from.self) may.0 items from may.3
    so_far.work.same_endpoints so_far.work.same_first in
    let work = same_on was c.loop-from.self mid so_far.work c.keep_resting-from.ensures.work in (
      may.0 ++ take (from + count) items,
      may.1,
      subst (λ (xs : List Item). ArrayStands batch xs false may.1 mid) (part_on may.0 items from count)
          (c.keep_resting-from.ensures.stands (may.0 ++ take from items) may.1 (so_far.stands may.0 may.1 may.2 may.3) rest),
      may_next batch.entries (array_endpoints was) (array_first was) (array_endpoints mid) (array_first mid) may.0 items (from + count) nothing c.if-from-items.true may.3
          work.same_endpoints work.same_first,
    )

pub loop-from-preserved-then-from-items : goal.loop-from-preserved-then-from-items
loop-from-preserved-then-from-items c =
    let batch = c.args.batch.now in
    let items = c.args.items.now in
    let was = c.args.self.now in
    let from : ℕ = c.loop-from.from in
    let count : ℕ = c.keep_resting-from.result in
    let so_far = c.loop-from.invariant in
    let mid = c.keep_resting-from.new.self in
    let work = same_on was c.loop-from.self mid so_far.work c.keep_resting-from.ensures.work in
    record {
      within = omega (arith, c.if-from-items.true);
      stands = λ fed given stands may.
          let rest = may_feed_rest batch.entries (array_endpoints was) (array_first was) (array_endpoints c.loop-from.self) (array_first c.loop-from.self) fed items from may
          so_far.work.same_endpoints so_far.work.same_first in
          subst (λ (xs : List Item). ArrayStands batch xs false given c.feed.new.self) (sym (one_more_fed fed items (from + count) nothing c.if-from-items.true))
          (c.feed.ensures.stands (fed ++ take (from + count) items) given
          (subst (λ (xs : List Item). ArrayStands batch xs false given mid) (part_on fed items from count)
          (c.keep_resting-from.ensures.stands (fed ++ take from items) given (so_far.stands fed given stands may) rest))
          (may_next batch.entries (array_endpoints was) (array_first was) (array_endpoints mid) (array_first mid) fed items (from + count) nothing c.if-from-items.true may
          work.same_endpoints work.same_first));
      work = same_on was mid c.feed.new.self work c.feed.ensures.work;
    }

pub loop-from-preserved : goal.loop-from-preserved
loop-from-preserved c =
    let batch = c.args.batch.now in
    let items = c.args.items.now in
    let was = c.args.self.now in
    let from : ℕ = c.loop-from.from in
    let count : ℕ = c.keep_resting-from.result in
    let so_far = c.loop-from.invariant in
    let mid = c.keep_resting-from.new.self in
    record {
      within = omega (arith, c.keep_resting-from.ensures.within, length-take (length items - from) (drop from items), length-drop from items, so_far.within);
      stands = λ fed given stands may.
          subst (λ (xs : List Item). ArrayStands batch xs false given mid) (part_on fed items from count)
          (c.keep_resting-from.ensures.stands (fed ++ take from items) given (so_far.stands fed given stands may)
          (may_feed_rest batch.entries (array_endpoints was) (array_first was) (array_endpoints c.loop-from.self) (array_first c.loop-from.self) fed items from may
          so_far.work.same_endpoints so_far.work.same_first));
      work = same_on was c.loop-from.self mid so_far.work c.keep_resting-from.ensures.work;
    }

pub returns-clause-stands : goal.returns-clause-stands
returns-clause-stands c = λ fed given stands may.
    let items = c.args.items.now in
    let all : length items ≤ c.loop-from.from = omega (arith, c.loop-from-test.false) in
    subst (λ (xs : List Item). ArrayStands c.args.batch.now (fed ++ xs) false given c.loop-from.self) (take_all c.loop-from.from items all) (c.loop-from.invariant.stands fed given stands may)
