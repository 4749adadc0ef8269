use Rattle.std.proofs.Common.{◌≡◌, ◌+◌, ◌-◌, ◌++◌, take, drop, replicate, length, []}
use Rattle.greedy_rules.specs.Demands.{HasEachFlowOnce, AreBelow}
use Rattle.greedy_rules.specs.Limits.{is_barred}
use Rattle.greedy_rules.specs.Walk.{HavePlaces}
use Rattle.greedy_rules.specs.Allocation.{batch_slots, list_through}
use Rattle.greedy_rules.proofs.plain.plain_batch.Given as goal

abbrev pub invariant-loop-offset : goal.invariant-loop-offset
invariant-loop-offset l = record {
  slots : take l.offset l.out.slots ++ batch_slots (is_barred l.batch.limits) (l.first_slot + l.offset) (l.b - l.offset) l.list.items ≡ batch_slots (is_barred l.batch.limits) l.first_slot l.b l.initial.list.items;
  empty : drop l.offset l.out.slots ≡ replicate (length l.fn.out.slots - l.offset) [];
  list : list_through (is_barred l.batch.limits) (l.first_slot + l.offset) (l.b - l.offset) l.list.items ≡ list_through (is_barred l.batch.limits) l.first_slot l.b l.initial.list.items;
  places : length l.out.slots ≡ length l.fn.out.slots;
  endpoints : l.out.endpoints ≡ l.fn.out.endpoints;
  limits : l.marks.limits ≡ l.batch.limits;
  marked : HavePlaces l.fn.out.endpoints l.marks;
  spare : length l.list.items + l.list.spare ≡ length l.fn.list.items + l.fn.list.spare;
  once : HasEachFlowOnce l.list.items;
  below : AreBelow l.fn.out.endpoints l.list.items;
  row : l.sends.len ≡ l.fn.out.endpoints;
}
