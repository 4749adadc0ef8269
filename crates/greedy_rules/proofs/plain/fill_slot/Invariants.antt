use Rattle.std.proofs.Common.{◌≡◌, ◌++◌, [], length, take, drop}
use Rattle.greedy_rules.specs.Slot.{greedy_slot, chosen_after}
use Rattle.greedy_rules.specs.Limits.{is_barred}
use Rattle.greedy_rules.specs.SlotTable.{flows_from, AreCells}
use Rattle.greedy_rules.specs.Demands.{AreBelow}
use Rattle.greedy_rules.specs.Walk.{walk, HavePlaces, AreOf}
use Rattle.greedy_rules.proofs.plain.fill_slot.Given as goal

abbrev pub invariant-loop-item : goal.invariant-loop-item
invariant-loop-item l = record {
  chosen : chosen_after (is_barred l.initial.marks.limits) (flows_from 0 l.sends) (drop l.item-index l.items) ≡ greedy_slot (is_barred l.initial.marks.limits) l.initial.items;
  walked : take l.item-index l.items ++ walk (is_barred l.initial.marks.limits) l.number (flows_from 0 l.sends) (drop l.item-index l.items) ≡ walk (is_barred l.initial.marks.limits) l.number [] l.initial.items;
  below : AreBelow (length l.initial.sends) l.items;
  row : AreCells (length l.initial.sends) l.initial.sends → AreCells (length l.initial.sends) l.sends;
  limits : l.marks.limits ≡ l.initial.marks.limits;
  places : HavePlaces (length l.initial.sends) l.marks;
  marks : AreOf (flows_from 0 l.sends) l.marks;
}
