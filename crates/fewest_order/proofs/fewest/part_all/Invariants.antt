use Rattle.std.proofs.Common.{◌≡◌, ◌≤◌, ◌+◌, ◌-◌, ◌++◌, length, take}
use Rattle.std.specs.Prelude.{vec_len, vec_capacity}
use Rattle.fewest_order.specs.FewestFirst.{kept_items, raised_of, lowered_of}
use Rattle.fewest_order.proofs.fewest.part_all.Given as goal

abbrev pub invariant-loop-from : goal.invariant-loop-from
invariant-loop-from l = record {
  within : l.from ≤ length l.items;
  kept : l.kept.items ≡ l.fn.kept.items ++ kept_items l.batch.entries (take l.from l.items);
  raised : l.raised.items ≡ l.fn.raised.items ++ raised_of l.batch.entries (take l.from l.items);
  lowered : l.lowered.items ≡ l.fn.lowered.items ++ lowered_of l.batch.entries (take l.from l.items);
  kept_len : vec_len l.kept ≤ vec_len l.fn.kept + l.from;
  raised_len : vec_len l.raised ≤ vec_len l.fn.raised + l.from;
  lowered_len : vec_len l.lowered ≤ vec_len l.fn.lowered + l.from;
  kept_room : vec_capacity l.fn.kept ≤ vec_capacity l.kept;
  raised_room : vec_capacity l.raised ≡ vec_capacity l.fn.raised;
  lowered_room : vec_capacity l.lowered ≡ vec_capacity l.fn.lowered;
}

abbrev pub decreases-loop-from : goal.decreases-loop-from
decreases-loop-from l = length l.items - l.from
