use Rattle.std.proofs.Common.{◌≡◌, ◌<◌, ℕ, List, get_or, true, false}
use Rattle.greedy_rules.specs.declared.flows.Item.{Item}
use Rattle.greedy_rules.specs.declared.flows.Entry.{Entry}
use Rattle.endpoint_bitmaps.specs.Slots.{has_slot}
use Rattle.slot_batches.specs.Marks.{AreMarked}
use Rattle.slot_batches.specs.Rests.{IsUndoubted}
use Rattle.slot_batches.proofs.doubts.doubts.Given as goal

abbrev pub invariant-loop-at : goal.invariant-loop-at
invariant-loop-at l = record {
  within : (place : ℕ) → has_slot l.doubted place ≡ true → place < l.at;
  others : (entries : List Entry) → AreMarked entries l.marks → (place : ℕ) (d : Item) → place < l.at → has_slot l.doubted place ≡ false → IsUndoubted entries l.filling.maps (get_or l.items place d);
}
