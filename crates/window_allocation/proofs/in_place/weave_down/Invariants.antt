use Rattle.std.proofs.Common.{◌≡◌, ◌≤◌, ◌++◌, Bool, length, take, drop}
use Rattle.std.specs.Prelude.{vec_len, vec_capacity}
use Rattle.greedy_rules.specs.declared.flows.Item.{Item}
use Rattle.slot_batches.specs.Woven.{weave, places_from}
use Rattle.window_allocation.proofs.in_place.weave_down.Given as goal

abbrev pub invariant-loop-place : goal.invariant-loop-place
invariant-loop-place l = record {
  moves_down : l.end ≤ l.from;
  within : l.from ≤ vec_len l.list;
  rest_within : l.at ≤ length l.rest;
  same_length : vec_len l.list ≡ vec_len l.fn.list;
  behind : drop l.from l.list.items ≡ drop l.from l.fn.list.items;
  left : (aside : Item → Bool) → l.places ≡ places_from aside l.first (drop l.first l.fn.list.items) → drop l.place-index l.places ≡ places_from aside l.from (drop l.from l.fn.list.items);
  woven : (aside : Item → Bool) → l.places ≡ places_from aside l.first (drop l.first l.fn.list.items)
      → take l.end l.list.items ++ weave aside (drop l.from l.fn.list.items) (drop l.at l.rest) ≡ take l.down l.fn.list.items ++ weave aside (drop l.first l.fn.list.items) l.rest;
  capacity : vec_capacity l.list ≡ vec_capacity l.fn.list;
}
