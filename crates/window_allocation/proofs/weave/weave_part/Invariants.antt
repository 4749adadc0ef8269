use Rattle.std.proofs.Common.{◌≡◌, ◌≤◌, ◌+◌, ◌++◌, Bool, length, drop}
use Rattle.std.specs.Prelude.{vec_capacity}
use Rattle.greedy_rules.specs.declared.flows.Item.{Item}
use Rattle.slot_batches.specs.Woven.{weave, places_from}
use Rattle.window_allocation.proofs.weave.weave_part.Given as goal

abbrev pub invariant-loop-place : goal.invariant-loop-place
invariant-loop-place l = record {
  within : l.from ≤ length l.list;
  rest_within : l.at ≤ length l.rest;
  left : (aside : Item → Bool) → l.places ≡ places_from aside l.first l.list → drop l.place-index l.places ≡ places_from aside (l.first + l.from) (drop l.from l.list);
  woven : (aside : Item → Bool) → l.places ≡ places_from aside l.first l.list
      → l.whole.items ++ weave aside (drop l.from l.list) (drop l.at l.rest) ≡ l.fn.whole.items ++ weave aside l.list l.rest;
  capacity : vec_capacity l.fn.whole ≤ vec_capacity l.whole;
}
