use Rattle.std.proofs.Common.{◌≡◌, ◌≤◌, ◌-◌, ◌*◌, List, Bool, length}
use Rattle.greedy_rules.specs.declared.flows.Flow.{Flow}
use Rattle.greedy_rules.specs.declared.flows.Item.{Item}
use Rattle.slot_batches.specs.Woven.{places_from}
use Rattle.window_allocation.specs.Reach.{ShowSlots, OpenNew}
use Rattle.window_allocation.proofs.ReachLemmas.{IsWalked}
use Rattle.window_allocation.proofs.reach.are_out.Given as goal

abbrev pub invariant-loop-at : goal.invariant-loop-at
invariant-loop-at l = record {
  below : l.next ≤ l.at;
  endpoints : l.words.endpoints ≡ l.fn.words.endpoints;
  within : l.at ≤ length l.list;
  walked : (aside : Item → Bool) (all : List (List Flow)) → l.places ≡ places_from aside 0 l.list → ShowSlots l.slots.endpoints (length l.batches * l.b) all l.slots.words.items → OpenNew l.list l.batches
      → IsWalked l.b (length l.batches * l.b) all l.list aside l.served l.places l.at l.next l.words;
}

abbrev pub decreases-loop-at : goal.decreases-loop-at
decreases-loop-at l = length l.list - l.at
